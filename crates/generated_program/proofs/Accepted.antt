-- The text of the generated program is a unit, which links, breaks no rule of typing and keeps within the limits.
use Rattle.std.proofs.Common.{◌≡◌, ℕ, zero, suc, ◌<◌, true, List, [], ◌∷◌, map, refl, sym, ap, ◌∙◌, subst, arith}
use Rattle.std.specs.Prelude.{◌^◌, pos, Ok, codes}
use Rattle.orca_base.specs.declared.place.Place.{Place}
use Rattle.orca_base.specs.declared.limits.TheConstants.{NESTING}
use Rattle.orca_lexer.specs.declared.token.Token.{Token}
use Rattle.orca_lexer.specs.Tables.{keyword_of, symbol_of}
use Rattle.orca_lexer.specs.Spelling.{IsSound}
use Rattle.orca_lexer.specs.declared.token.TokenKind.TheVariants.{Number}
use Rattle.orca_lexer.specs.Tokens.{Tokens}
use Rattle.orca_grammar.specs.Rules.{unit}
use Rattle.orca_grammar.specs.Grammar.{IsText, read}
use Rattle.orca_grammar.proofs.Refusals.{too_nested_none}
use Rattle.orca_grammar.proofs.Whole.{IsWhole, whole}
use Rattle.orca_lexer.proofs.Once.{tokens_once}
use Rattle.orca_syntax.specs.Derivation.{syntax_marks}
use Rattle.orca_syntax.specs.Syntax.{Syntax}
use Rattle.link_rules.specs.Rules.{Links}
use Rattle.link_rules.specs.Units.{Source}
use Rattle.type_rules.specs.Breaches.{IsWellTyped}
use Rattle.accepted_law.specs.Limits.{IsWithinLimits}
use Rattle.orca_front.specs.Sources.{AreUnits}
use Rattle.orca_front.specs.Texts.{IsTooDeep}
use Rattle.generated_program.specs.Accepted.{IsGenerated}
use Rattle.generated_program.specs.Program.{program_file, program_text, rounds_of, workers_of}
use Rattle.generated_program.proofs.LaidOut.{HasKinds, Numbers, all_fit, has_kinds, laid_out}
use Rattle.generated_program.proofs.Pieces.{layout}
use Rattle.generated_program.proofs.Syntax.{kinds_of, program_read, program_syntax, tokens_of}
use Rattle.generated_program.proofs.Texts.{rounds_few, text_is, workers_few}

-- ---- tokens with their places

nth : {X : Type 0} → (Token → X) → X → List Token → ℕ → X
nth f d [] n = d
nth f d (t ∷ ts) zero = f t
nth f d (t ∷ ts) (suc n) = nth f d ts n

abbrev start_place : Place
start_place = record { line = 1; column = 1 }

abbrev places : List Token → ℕ → Place
places ts = nth (λ t. t.at) start_place ts

again : (ts : List Token) → tokens_of (places ts) (nth (λ t. t.start) 0 ts) (nth (λ t. t.end) 0 ts) (map (λ (t : Token). t.kind) ts) ≡ ts
unfolding nth
again [] = refl
again (t ∷ ts) = ap (λ (rest : List Token). t ∷ rest) (again ts)

-- ---- the text

fits : (rounds workers : ℕ) → all_fit (layout rounds workers) ≡ true
unfolding keyword_of symbol_of
fits rounds workers = refl

numbers : (rounds workers : ℕ) → rounds < 2 ^ 63 → workers < 2 ^ 63 → Numbers (layout rounds workers)
numbers rounds workers r w =
    let zero_is : IsSound (Number (pos 0)) = (0, omega arith, refl) in
    let one_is : IsSound (Number (pos 1)) = (1, omega arith, refl) in
    (zero_is, (one_is, ((rounds, r, refl), (one_is, ((workers, w, refl), (one_is, ((workers, w, refl), tt)))))))

found : (rounds workers : ℕ) → rounds < 2 ^ 63 → workers < 2 ^ 63 → HasKinds (laid_out (layout rounds workers)) (layout rounds workers)
found rounds workers r w = has_kinds (layout rounds workers) (fits rounds workers) (numbers rounds workers r w)

-- they are read as the syntax with their places
read_as : (ts : List Token) (rounds workers : ℕ) → map (λ (t : Token). t.kind) ts ≡ kinds_of rounds workers →
    read NESTING unit ts ≡ Ok (syntax_marks (program_syntax (places ts) rounds workers), [])
read_as ts rounds workers kinds =
    ap (read NESTING unit)
    (sym (again ts) ∙ ap (tokens_of (places ts) (nth (λ t. t.start) 0 ts) (nth (λ t. t.end) 0 ts)) kinds)
    ∙ program_read (places ts) (nth (λ t. t.start) 0 ts) (nth (λ t. t.end) 0 ts) rounds workers

-- ---- linking, typing and limits, whatever the places and numbers

abbrev source_of : (ℕ → Place) → ℕ → ℕ → Source
source_of at rounds workers = record { file = codes "make"; syntax = program_syntax at rounds workers }

links : (at : ℕ → Place) (rounds workers : ℕ) → Links (source_of at rounds workers ∷ [])
links at rounds workers = refl

typed : (at : ℕ → Place) (rounds workers : ℕ) → IsWellTyped (source_of at rounds workers ∷ [])
typed at rounds workers = refl

within : (at : ℕ → Place) (rounds workers : ℕ) → IsWithinLimits (source_of at rounds workers ∷ [])
within at rounds workers = record { words = omega arith; parameters = refl }

-- ---- all of it

pub is_generated : (number : ℕ) → IsGenerated number
is_generated number = record {
  units = unit_of ∷ [];
  accepted = record {
    are = AreUnits.one (program_file number) [] unit_of [] (record {
      named = refl;
      has = record { tokens = has.tokens; are = are; derived = is.text };
      shallow = shallow;
    }) AreUnits.none;
    links = links (places has.tokens) rounds workers;
    typed = typed (places has.tokens) rounds workers;
  };
  within = within (places has.tokens) rounds workers;
}
  where
    rounds : ℕ
    rounds = rounds_of number

    workers : ℕ
    workers = workers_of number

    has : HasKinds (laid_out (layout rounds workers)) (layout rounds workers)
    has = found rounds workers (let r = rounds_few number in omega (arith, r)) (let w = workers_few number in omega (arith, w))

    syntax : Syntax
    syntax = program_syntax (places has.tokens) rounds workers

    unit_of : Source
    unit_of = source_of (places has.tokens) rounds workers

    are : Tokens (program_text number) has.tokens
    are = subst (λ (text : List ℕ). Tokens text has.tokens) (sym (text_is number)) has.are

    is : IsWhole has.tokens (syntax_marks syntax)
    is = whole has.tokens (syntax_marks syntax) (read_as has.tokens rounds workers has.kinds)

    shallow : IsTooDeep (program_text number) → ⊥
    shallow d =
        let same = tokens_once (program_text number) d.tokens has.tokens d.has are in
        too_nested_none d.tokens d.front d.rest d.token (syntax_marks syntax) d.nested (subst (IsText (syntax_marks syntax)) (sym same) is.text) is.fits
