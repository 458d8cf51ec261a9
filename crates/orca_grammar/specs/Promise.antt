-- The law of the grammar: each list of tokens is one unit at most, and its reader says which, or why there is none.
use Rattle.std.specs.Prelude.{◌≡◌, List, [], ◌∷◌, None, Ok, Err}
use Rattle.orca_base.specs.declared.limits.TheConstants.{NESTING}
use Rattle.orca_lexer.specs.declared.token.Token.{Token}
use Rattle.orca_grammar.specs.Forms.{Mark, first_deep}
use Rattle.orca_grammar.specs.Rules.{unit}
use Rattle.orca_grammar.specs.Reading.{Read, Why, Unexpected, TooDeep}
use Rattle.orca_grammar.specs.Grammar.{IsText, IsUnexpected, IsTooNested, read}

-- no list of tokens is two units, however deep they nest
abbrev pub IsOne : List Token → Type 0
IsOne tokens = (one two : List Mark) → IsText one tokens → IsText two tokens → one ≡ two

-- a unit was read, and these tokens are left: it is the whole text, and no token of it stands too deep; or no unit goes on with the first
abbrev pub SaysOfSome : List Token → List Mark → List Token → Type 0
SaysOfSome tokens marks [] = IsText marks tokens × (first_deep marks NESTING ≡ None)
SaysOfSome tokens marks (t ∷ rest) = (front : List Token) × IsUnexpected tokens front (t ∷ rest)

-- none was: with the first of these tokens, or at the end, none goes on, or it is the first that stands too deep
abbrev pub SaysOfNone : List Token → Why → List Token → Type 0
SaysOfNone tokens Unexpected found = (front : List Token) × IsUnexpected tokens front found
SaysOfNone tokens TooDeep found = (front : List Token) × (t : Token) × (rest : List Token) × (found ≡ t ∷ rest) ×
    IsTooNested tokens front t rest

abbrev pub Says : List Token → Read → Type 0
Says tokens (Ok x) = SaysOfSome tokens x.0 x.1
Says tokens (Err bad) = SaysOfNone tokens bad.why bad.rest

-- so it is of what the reader answers of a unit
abbrev pub IsReadSo : List Token → Type 0
IsReadSo tokens = Says tokens (read NESTING unit tokens)
