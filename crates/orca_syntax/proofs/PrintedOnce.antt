-- What is read back from a printed unit is its syntax, places aside.
use Rattle.std.proofs.Common.{◌≡◌, ℕ, true, false, List, [], ◌∷◌, ◌++◌, None, refl, sym, ap, ◌∙◌, subst, append-nil}
use Rattle.std.specs.Prelude.{map}
use Rattle.std.specs.List.{AllByRecursion}
use Rattle.orca_lexer.specs.declared.token.Token.{Token}
use Rattle.orca_lexer.specs.declared.token.TokenKind.{TokenKind}
use Rattle.orca_lexer.specs.Spelling.{AreReadBack, IsSound}
use Rattle.orca_lexer.proofs.Once.{tokens_once}
use Rattle.orca_lexer.proofs.ReadsBack.{reads_back}
use Rattle.orca_lexer.proofs.Sound.{tokens_sound}
use Rattle.orca_grammar.specs.Forms.{Form, ◌⨾◌, Many, Chained, Nested, Bracket, Phrase, Chain, Mark, Spelled, Begin, End, bracketed, spelled, unplaced, Derives, nothing, word, both, one, other, none as no_more, more, links, nested}
use Rattle.orca_grammar.specs.Grammar.{IsText}
use Rattle.orca_grammar.specs.Rules.{rule, unit as unit_form}
use Rattle.orca_grammar.proofs.Placed.{derived_again, kinds, text_kinds}
use Rattle.orca_tree.specs.declared.tree.Unit.{Unit as UnitTree}
use Rattle.orca_tree.specs.Marks.{unit as unit_marks}
use Rattle.orca_tree.specs.Printing.{printed}
use Rattle.orca_syntax.specs.Syntax.{Syntax}
use Rattle.orca_syntax.specs.Shown.{syntax_of}
use Rattle.orca_syntax.specs.Forest.{Forest, none, token, group, flat}
use Rattle.orca_syntax.specs.Derivation.{unit, syntax_marks}
use Rattle.orca_syntax.specs.TextSyntax.{AreWordsSound, HasSyntax, IsSyntaxReadBack, LosesPlaces}
use Rattle.orca_syntax.specs.Bare.{nowhere, bare}
use Rattle.orca_syntax.proofs.MarksOfDeclarations.{unit_shown}
use Rattle.orca_syntax.proofs.Complete.{some_syntax}
use Rattle.orca_syntax.proofs.TextOnce.{derived_once}
use Rattle.orca_syntax.proofs.BareForests.{blank_place, blank, unit_blank}

-- ---- marks and tokens whose places are nowhere

abbrev blanked : List Mark → List Mark
blanked [] = []
blanked (Spelled p k ∷ ms) = Spelled (blank_place p) k ∷ blanked ms
blanked (Begin b ∷ ms) = Begin b ∷ blanked ms
blanked (End b ∷ ms) = End b ∷ blanked ms

abbrev token_of : TokenKind → Token
token_of k = record { kind = k; start = 0; end = 0; at = nowhere }

abbrev blank_token : Token → Token
blank_token t = token_of t.kind

blanked_append : (a b : List Mark) → blanked (a ++ b) ≡ blanked a ++ blanked b
blanked_append [] b = refl
blanked_append (Spelled p k ∷ a) b = ap (λ (ms : List Mark). Spelled (blank_place p) k ∷ ms) (blanked_append a b)
blanked_append (Begin x ∷ a) b = ap (λ (ms : List Mark). Begin x ∷ ms) (blanked_append a b)
blanked_append (End x ∷ a) b = ap (λ (ms : List Mark). End x ∷ ms) (blanked_append a b)

blanked_bracketed : (x : Bracket) (a : List Mark) → blanked (bracketed x a) ≡ bracketed x (blanked a)
blanked_bracketed x a = ap (λ (ms : List Mark). Begin x ∷ ms) (blanked_append a (End x ∷ []))

blanked_flat : (f : Forest) → blanked (flat f) ≡ flat (blank f)
blanked_flat none = refl
blanked_flat (token p k f) = ap (λ (ms : List Mark). Spelled (blank_place p) k ∷ ms) (blanked_flat f)
blanked_flat (group b g f) =
    ap (λ (ms : List Mark). Begin b ∷ ms)
    (blanked_append (flat g) (End b ∷ flat f) ∙ ap (λ (ms : List Mark). ms ++ End b ∷ blanked (flat f)) (blanked_flat g) ∙ ap (λ (ms : List Mark). flat (blank g) ++ End b ∷ ms) (blanked_flat f))

blanked_derives : {f : Form} {ms : List Mark} {ts rest : List Token} → Derives rule f ms ts rest → Derives rule f (blanked ms) (map blank_token ts) (map blank_token rest)
blanked_derives nothing = nothing
blanked_derives (word {keeps = true} e) = word e
blanked_derives (word {keeps = false} e) = word e
blanked_derives (both {f = f} {g = g} {a = a} {b = b} {ts = ts} {rest = rest} p q) =
    subst (λ (ms : List Mark). Derives rule (f ⨾ g) ms (map blank_token ts) (map blank_token rest)) (sym (blanked_append a b)) (both (blanked_derives p) (blanked_derives q))
blanked_derives (one p) = one (blanked_derives p)
blanked_derives (other p) = other (blanked_derives p)
blanked_derives no_more = no_more
blanked_derives (more {f = f} {a = a} {b = b} {ts = ts} {rest = rest} p q) =
    subst (λ (ms : List Mark). Derives rule (Many f) ms (map blank_token ts) (map blank_token rest)) (sym (blanked_append a b)) (more (blanked_derives p) (blanked_derives q))
blanked_derives (links {l = l} {f = f} {a = a} {ts = ts} {rest = rest} p) =
    subst (λ (ms : List Mark). Derives rule (Chained l f) ms (map blank_token ts) (map blank_token rest)) (sym (blanked_bracketed (Chain l) a)) (links (blanked_derives p))
blanked_derives (nested {n = n} {a = a} {ts = ts} {rest = rest} p) =
    subst (λ (ms : List Mark). Derives rule (Nested n) ms (map blank_token ts) (map blank_token rest)) (sym (blanked_bracketed (Phrase n) a)) (nested (blanked_derives p))

bare_marks : (s : Syntax) → blanked (syntax_marks s) ≡ syntax_marks (bare s)
bare_marks s = blanked_flat (unit s) ∙ ap flat (unit_blank s)

unplaced_blanked : (ms : List Mark) → unplaced (blanked ms) ≡ unplaced ms
unplaced_blanked [] = refl
unplaced_blanked (Spelled p k ∷ ms) = ap (λ (xs : List Mark). Spelled None k ∷ xs) (unplaced_blanked ms)
unplaced_blanked (Begin b ∷ ms) = ap (λ (xs : List Mark). Begin b ∷ xs) (unplaced_blanked ms)
unplaced_blanked (End b ∷ ms) = ap (λ (xs : List Mark). End b ∷ xs) (unplaced_blanked ms)

pub loses_places : (s : Syntax) → LosesPlaces s
loses_places s = ap unplaced (sym (bare_marks s)) ∙ unplaced_blanked (syntax_marks s)

bare_derived : (s : Syntax) (tokens : List Token) → IsText (syntax_marks s) tokens → IsText (syntax_marks (bare s)) (map blank_token tokens)
bare_derived s tokens text = subst (λ (ms : List Mark). IsText ms (map blank_token tokens)) (bare_marks s) (blanked_derives text)

-- ---- tokens of the same kinds

tokens_of_kinds : (ts : List Token) → map blank_token ts ≡ map token_of (kinds ts)
tokens_of_kinds [] = refl
tokens_of_kinds (t ∷ ts) = ap (λ (us : List Token). blank_token t ∷ us) (tokens_of_kinds ts)

-- texts whose tokens are of the same kinds have the same syntax, places aside
pub kinds_once : (s t : Syntax) (ts us : List Token) → IsText (syntax_marks s) ts → IsText (syntax_marks t) us → kinds ts ≡ kinds us → bare s ≡ bare t
kinds_once s t ts us p q same =
    derived_once (bare s) (bare t) (map blank_token ts) (bare_derived s ts p)
    (subst (IsText (syntax_marks (bare t))) (tokens_of_kinds us ∙ ap (map token_of) (sym same) ∙ sym (tokens_of_kinds ts)) (bare_derived t us q))

all_sound : (tokens : List Token) → AllByRecursion (λ t. IsSound t.kind) tokens → AllByRecursion IsSound (kinds tokens)
all_sound [] sound = tt
all_sound (t ∷ tokens) sound = (sound.0, all_sound tokens sound.1)

-- the tokens of a text's syntax are such as a text may have
pub syntax_sound : (text : List ℕ) (s : Syntax) → HasSyntax text s → AreWordsSound s
syntax_sound text s has =
    subst (λ (ks : List TokenKind). AllByRecursion IsSound ks) (text_kinds (syntax_marks s) has.tokens has.derived) (all_sound has.tokens (tokens_sound text has.tokens has.are))

-- the tokens of a printed unit are those that it spells
record Spells (u : UnitTree) (text : List ℕ) (p : HasSyntax text (syntax_of u)) : Type 0 where
  is : IsText (unit_marks u) p.tokens
  kinds_are : kinds p.tokens ≡ spelled (unit_marks u)
  back : AreReadBack (spelled (unit_marks u))

spells : (u : UnitTree) (text : List ℕ) (p : HasSyntax text (syntax_of u)) → Spells u text p
spells u text p =
    let is : IsText (unit_marks u) p.tokens = subst (λ (ms : List Mark). IsText ms p.tokens) (sym (unit_shown u)) p.derived in
    let kinds_are = text_kinds (unit_marks u) p.tokens is in
    let sound = subst (λ (ms : List Mark). AllByRecursion IsSound (spelled ms)) (sym (unit_shown u)) (syntax_sound text (syntax_of u) p) in
    record { is = is; kinds_are = kinds_are; back = reads_back (spelled (unit_marks u)) sound }

pub printed_once : (u : UnitTree) (text : List ℕ) → HasSyntax text (syntax_of u) → (s : Syntax) → HasSyntax (printed u) s → bare s ≡ bare (syntax_of u)
printed_once u text p s q =
    let r = spells u text p in
    kinds_once s (syntax_of u) q.tokens p.tokens q.derived p.derived (ap kinds (tokens_once (printed u) q.tokens r.back.tokens q.are r.back.are) ∙ r.back.kinds_are ∙ sym r.kinds_are)

-- and they are derived again, with the marks of a syntax
pub read_back : (u : UnitTree) → IsSyntaxReadBack u
read_back u text p =
    let r = spells u text p in
    let again = derived_again r.is r.back.tokens r.back.kinds_are in
    let derived : IsText again.marks r.back.tokens = subst (λ (ts : List Token). Derives rule unit_form again.marks ts []) (append-nil r.back.tokens) (again.derives []) in
    let x = some_syntax again.marks r.back.tokens derived in
    let has : HasSyntax (printed u) x.0 = record { tokens = r.back.tokens; are = r.back.are; derived = subst (λ (ms : List Mark). IsText ms r.back.tokens) (sym x.1) derived } in
    (x.0, has, printed_once u text p x.0 has)
