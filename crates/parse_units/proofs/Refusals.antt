-- Tokens that are refused are no unit, and there is one refusal.
use Rattle.std.proofs.Common.{◌≡◌, List, [], ◌∷◌, None, sym, ap, ◌∙◌}
use Rattle.orca_base.specs.declared.limits.TheConstants.{NESTING}
use Rattle.orca_base.specs.declared.place.Place.{Place}
use Rattle.orca_lexer.specs.declared.token.Token.{Token}
use Rattle.orca_grammar.specs.Forms.{Mark, first_deep}
use Rattle.orca_grammar.specs.Grammar.{IsText}
use Rattle.orca_grammar.proofs.Refusals.{not_both, too_nested_none, too_nested_once, unexpected_none, unexpected_once}
use Rattle.parse_units.specs.declared.parse_error.ParseError.{ParseError}
use Rattle.parse_units.specs.declared.parse_error.ParseError.TheVariants.{Syntax, TooNested}
use Rattle.parse_units.specs.declared.parse_error.Found.TheVariants.{Token as OfToken, End}
use Rattle.parse_units.specs.Refused.{IsRefusal}

pub refusal_none : (tokens : List Token) (e : ParseError) (ms : List Mark) → IsRefusal tokens e → IsText ms tokens → first_deep ms NESTING ≡ None → ⊥
refusal_none tokens (Syntax at (OfToken t)) ms r text fits = unexpected_none tokens r.0 (t ∷ r.1) ms r.2 text
refusal_none tokens (Syntax at End) ms r text fits = unexpected_none tokens r.0 [] ms r.1 text
refusal_none tokens (TooNested at) ms r text fits = too_nested_none tokens r.0 r.2 r.1 ms r.3 text fits

-- the first of the same tokens, and its place
heads : (t u : Token) (ts us : List Token) → t ∷ ts ≡ u ∷ us → t ≡ u
heads t u ts us same = cc

places : (t u : Token) (at place : Place) → t ≡ u → at ≡ t.at → place ≡ u.at → at ≡ place
places t u at place same here there = here ∙ ap (λ (x : Token). x.at) same ∙ sym there

pub refusal_once : (tokens : List Token) (e f : ParseError) → IsRefusal tokens e → IsRefusal tokens f → e ≡ f
refusal_once tokens (Syntax at (OfToken t)) (Syntax place (OfToken u)) r q =
    let same = heads t u r.1 q.1 (unexpected_once tokens r.0 (t ∷ r.1) r.2 q.0 (u ∷ q.1) q.2) in
    let here = places t u at place same r.3 q.3 in
    λ i. Syntax (here i) (OfToken (same i))
refusal_once tokens (Syntax at (OfToken t)) (Syntax place End) r q =
    let same = unexpected_once tokens r.0 (t ∷ r.1) r.2 q.0 [] q.1 in absurd cc
refusal_once tokens (Syntax at End) (Syntax place (OfToken u)) r q =
    let same = unexpected_once tokens r.0 [] r.1 q.0 (u ∷ q.1) q.2 in absurd cc
refusal_once tokens (Syntax at End) (Syntax place End) r q = let here = r.2 ∙ sym q.2 in λ i. Syntax (here i) End
refusal_once tokens (Syntax at (OfToken t)) (TooNested place) r q = absurd (not_both tokens r.0 (t ∷ r.1) r.2 q.0 q.2 q.1 q.3)
refusal_once tokens (Syntax at End) (TooNested place) r q = absurd (not_both tokens r.0 [] r.1 q.0 q.2 q.1 q.3)
refusal_once tokens (TooNested at) (Syntax place (OfToken u)) r q = absurd (not_both tokens q.0 (u ∷ q.1) q.2 r.0 r.2 r.1 r.3)
refusal_once tokens (TooNested at) (Syntax place End) r q = absurd (not_both tokens q.0 [] q.1 r.0 r.2 r.1 r.3)
refusal_once tokens (TooNested at) (TooNested place) r q =
    let same = heads r.1 q.1 r.2 q.2 (too_nested_once tokens r.0 r.2 r.1 r.3 q.0 q.2 q.1 q.3) in
    let here = places r.1 q.1 at place same r.4 q.4 in
    λ i. TooNested (here i)
