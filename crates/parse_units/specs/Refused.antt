-- Why tokens are no unit that nests at most NESTING levels: the refusal that a parser answers (docs/LANGUAGE.md, Refusals).
use Rattle.std.specs.Prelude.{◌≡◌, ◌+◌, ◌-◌, List, [], ◌∷◌}
use Rattle.orca_base.specs.declared.place.Place.{Place}
use Rattle.orca_lexer.specs.declared.token.Token.{Token}
use Rattle.orca_grammar.specs.Grammar.{IsUnexpected, IsTooNested}
use Rattle.parse_units.specs.declared.parse_error.ParseError.{ParseError}
use Rattle.parse_units.specs.declared.parse_error.ParseError.TheVariants.{Syntax, TooNested}
use Rattle.parse_units.specs.declared.parse_error.Found.TheVariants.{Token as OfToken, End}

-- the place behind a token, and the one behind the last token. No tokens at all are a unit, so that is never asked of none
abbrev pub behind : Token → Place
behind t = record { line = t.at.line; column = t.at.column + (t.end - t.start) }

abbrev pub end_from : Place → List Token → Place
end_from at [] = at
end_from at (t ∷ ts) = end_from (behind t) ts

abbrev pub end_of_text : List Token → Place
end_of_text ts = end_from (record { line = 1; column = 1 }) ts

-- a token with which no unit goes on, or the end where none ends, at its place; or the first token that is nested too deep
abbrev pub IsRefusal : List Token → ParseError → Type 0
IsRefusal tokens (Syntax at (OfToken t)) = (front : List Token) × (rest : List Token) × IsUnexpected tokens front (t ∷ rest) × (at ≡ t.at)
IsRefusal tokens (Syntax at End) = (front : List Token) × IsUnexpected tokens front [] × (at ≡ end_of_text tokens)
IsRefusal tokens (TooNested at) = (front : List Token) × (t : Token) × (rest : List Token) × IsTooNested tokens front t rest × (at ≡ t.at)
