-- What the reading of a whole text says of its tokens.
use Rattle.std.proofs.Common.{◌≡◌, ◌<◌, true, false, List, [], ◌∷◌, length, Ok, refl, ap, ◌∙◌, arith}
use Rattle.std.specs.Prelude.{◌==◌}
use Rattle.std.proofs.lemmas.Bool.Decides.{nat_tests}
use Rattle.orca_base.specs.declared.place.Place.{Place}
use Rattle.orca_base.specs.declared.limits.TheConstants.{NESTING}
use Rattle.orca_lexer.specs.declared.token.Token.{Token}
use Rattle.orca_grammar.specs.Forms.{Mark}
use Rattle.orca_grammar.specs.Rules.{unit}
use Rattle.orca_grammar.specs.Reading.{bad, TooDeep}
use Rattle.orca_grammar.specs.Grammar.{IsUnexpected, read}
use Rattle.orca_grammar.proofs.Whole.{IsWhole, whole, left_behind, too_nested}
use Rattle.parse_units.specs.declared.parse_error.ParseError.TheVariants.{TooNested}
use Rattle.parse_units.specs.Refused.{IsRefusal}

pub nothing_left : (rest : List Token) → true ≡ (length rest == 0) → rest ≡ []
nothing_left [] h = refl
nothing_left (t ∷ rest) h = absurd (grind (arith, nat_tests))

-- where nothing is left, the unit is whole
pub is_whole : (tokens : List Token) (ms : List Mark) (rest : List Token) → rest ≡ [] → read NESTING unit tokens ≡ Ok (ms, rest) → IsWhole tokens ms
is_whole tokens ms rest none e = whole tokens ms (e ∙ ap (λ (r : List Token). Ok (ms, r)) none)

-- where some are left, no unit goes on with the first
pub is_left : (tokens : List Token) (ms : List Mark) (rest : List Token) → false ≡ (length rest == 0) → read NESTING unit tokens ≡ Ok (ms, rest) → (front : List Token) × IsUnexpected tokens front rest
is_left tokens ms [] some e = absurd cc
is_left tokens ms (t ∷ rest) some e = left_behind tokens ms t rest e

-- what is deep is a token
pub some_deep : (tokens rest : List Token) → read NESTING unit tokens ≡ bad TooDeep rest → 0 < length rest
some_deep tokens rest e = let d = too_nested tokens rest e in omega (arith, ap length d.3)

-- the first token that is too deep, at its place
pub deep_refusal : (tokens rest : List Token) (at : Place) → read NESTING unit tokens ≡ bad TooDeep rest → ((t : Token) (more : List Token) → rest ≡ t ∷ more → at ≡ t.at) → IsRefusal tokens (TooNested at)
deep_refusal tokens rest at e place = let d = too_nested tokens rest e in (d.0, d.1, d.2, d.4, place d.1 d.2 d.3)
