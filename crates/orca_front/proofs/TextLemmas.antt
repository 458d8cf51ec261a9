-- What tokens and units say of a text.
use Rattle.std.proofs.Common.{◌≡◌, ℕ, ◌≤◌, Vec, Global, List, [], ◌∷◌, ◌++◌, Some, None, length, sym, ◌∙◌, subst, arith}
use Rattle.std.specs.Prelude.{slice_range, Result, Ok, Err, codes, IfOk, OnErr}
use Rattle.orca_base.specs.declared.place.Place.{Place}
use Rattle.orca_base.specs.declared.limits.TheConstants.{NESTING}
use Rattle.orca_base.specs.declared.refusal.NoMemory.{NoMemory}
use Rattle.orca_base.specs.declared.refusal.Refusal.{Refusal}
use Rattle.orca_base.specs.declared.refusal.Refusal.TheVariants.{Because, NoMemory as Without}
use Rattle.orca_lexer.specs.declared.error.LexError.{LexError}
use Rattle.orca_lexer.specs.declared.token.Token.{Token}
use Rattle.orca_lexer.specs.Tokens.{Follow, Tokens}
use Rattle.orca_lexer.specs.Refusal.{IsRefusal as IsLexical}
use Rattle.orca_lexer.proofs.Once.{begins_some, refusal_none, tokens_once}
use Rattle.orca_grammar.specs.Forms.{Mark, first_deep}
use Rattle.orca_grammar.specs.Grammar.{IsText, IsTooNested, IsUnexpected}
use Rattle.orca_grammar.proofs.Refusals.{not_both}
use Rattle.parse_units.specs.declared.parse_error.ParseError.TheVariants.{Syntax, TooNested}
use Rattle.parse_units.specs.declared.parse_error.Found.TheVariants.{Token as OfToken, End}
use Rattle.orca_front.specs.declared.reading.TextFault.{TextFault}
use Rattle.orca_front.specs.declared.reading.TextFault.TheVariants as faults
use Rattle.orca_front.specs.Texts as front
use Rattle.orca_front.specs.Texts.{FitsText, IsSyntactic}

-- ---- slices

-- a token's slice is one of the text
pub token_slice : (text : List ℕ) (from : ℕ) (front rest : List Token) (t : Token) → Follow text from (front ++ t ∷ rest) → (t.start ≤ t.end) × (t.end ≤ length text)
token_slice text from [] rest t f = let some = begins_some text from t f.0 in (omega (arith, some), f.0.within)
token_slice text from (u ∷ front) rest t f = token_slice text u.end front rest t f.1

pub syntactic_slice : (text : List ℕ) (at : Place) (t : Token) → IsSyntactic text (Syntax at (OfToken t)) → (t.start ≤ t.end) × (t.end ≤ length text)
syntactic_slice text at t s =
    let r = s.refused in
    token_slice text 0 r.0 r.1 t (subst (Follow text 0) r.2.splits s.has.follow)

-- ---- the depth

-- a text whose tokens are no unit is no deeper than a text may be
pub unexpected_shallow : (text : List ℕ) (tokens before found : List Token) → Tokens text tokens → IsUnexpected tokens before found → front.IsTooDeep text → ⊥
unexpected_shallow text tokens before found has u d =
    not_both tokens before found u d.front d.rest d.token (subst (λ ts. IsTooNested ts d.front d.token d.rest) (tokens_once text d.tokens tokens d.has has) d.nested)

-- nor is one whose tokens are a unit that nests no deeper
pub unit_shallow : (text : List ℕ) (tokens : List Token) (ms : List Mark) → Tokens text tokens → IsText ms tokens → first_deep ms NESTING ≡ None → front.IsTooDeep text → ⊥
unit_shallow text tokens ms has parsed fits d =
    let same = tokens_once text d.tokens tokens d.has has in
    let deep : first_deep ms NESTING ≡ Some (length d.front) = d.nested.deep ms d.rest (subst (IsText ms) (sym same ∙ d.nested.splits) parsed) in
    absurd (cc (fits, deep))

-- ---- refusals

-- a refusal whose words were written, or for which there was no memory
pub said_reads : (text words : List ℕ) (at : Place) (m : Result (Vec ℕ Global) NoMemory) (r : Refusal TextFault) → front.IsFaulty text at words → (front.IsTooDeep text → ⊥) → IfOk m (λ v. v.items ≡ words) → IfOk m (λ v. r ≡ Because (faults.Faulty at v)) → OnErr m (r ≡ Without) → FitsText text (Err r)
said_reads text words at (Ok v) r refused shallow is said lacking = subst (λ (f : Refusal TextFault). FitsText text (Err f)) (sym said) (subst (front.IsFaulty text at) (sym is) refused, shallow)
said_reads text words at (Err e) r refused shallow is said lacking = subst (λ (f : Refusal TextFault). FitsText text (Err f)) (sym lacking) tt

pub of_token : (text : List ℕ) (at : Place) (t : Token) → IsSyntactic text (Syntax at (OfToken t)) → front.IsFaulty text at (codes "unexpected '" ++ (slice_range text t.start t.end ++ codes "'"))
of_token text at t s =
    let r = s.refused in
    subst (λ (p : Place). front.IsFaulty text p (codes "unexpected '" ++ (slice_range text t.start t.end ++ codes "'"))) (sym r.3) (front.token s.tokens r.0 r.1 t s.has r.2)

pub token_shallow : (text : List ℕ) (at : Place) (t : Token) → IsSyntactic text (Syntax at (OfToken t)) → front.IsTooDeep text → ⊥
token_shallow text at t s = let r = s.refused in unexpected_shallow text s.tokens r.0 (t ∷ r.1) s.has r.2

pub of_end : (text : List ℕ) (at : Place) → IsSyntactic text (Syntax at End) → front.IsFaulty text at (codes "unexpected end of text")
of_end text at s =
    let r = s.refused in
    subst (λ (p : Place). front.IsFaulty text p (codes "unexpected end of text")) (sym r.2) (front.end s.tokens r.0 s.has r.1)

pub end_shallow : (text : List ℕ) (at : Place) → IsSyntactic text (Syntax at End) → front.IsTooDeep text → ⊥
end_shallow text at s = let r = s.refused in unexpected_shallow text s.tokens r.0 [] s.has r.1

pub of_deep : (text : List ℕ) (at : Place) → IsSyntactic text (TooNested at) → front.IsTooDeep text
of_deep text at s = let r = s.refused in record { tokens = s.tokens; front = r.0; token = r.1; rest = r.2; has = s.has; nested = r.3 }

pub lexical_shallow : (text : List ℕ) (error : LexError) → IsLexical text error → front.IsTooDeep text → ⊥
lexical_shallow text error h d = refusal_none text error d.tokens h d.has

-- a message that was written is the rule's
pub message_is : (m : Result (Vec ℕ Global) NoMemory) (x y : List ℕ) → IfOk m (λ v. v.items ≡ x) → x ≡ y → IfOk m (λ v. v.items ≡ y)
message_is (Ok v) x y p e = p ∙ e
message_is (Err f) x y p e = tt
