-- What the grammar says of a list of tokens: the unit that they are, or why they are none.
use Rattle.std.specs.Prelude.{◌≡◌, ℕ, ◌≤◌, List, [], ◌∷◌, ◌++◌, length, Some}
use Rattle.orca_base.specs.declared.limits.TheConstants.{NESTING}
use Rattle.orca_lexer.specs.declared.token.Token.{Token}
use Rattle.orca_grammar.specs.Forms.{Nest, Form, Mark, Derives, first_deep}
use Rattle.orca_grammar.specs.Rules.{rule, unit}
use Rattle.orca_grammar.specs.Reading.{Reader, read_over, nest_over}
use Rattle.orca_grammar.specs.Sets.{sets}

-- the marks are a derivation of a unit from these tokens, all of them
abbrev pub IsText : List Mark → List Token → Type 0
IsText ms tokens = Derives rule unit ms tokens []

-- some unit begins with these tokens
pub record Begins (tokens : List Token) : Type 0 where
  pub marks : List Mark
  pub rest : List Token
  pub text : IsText marks (tokens ++ rest)

-- The tokens are no unit: a unit begins with those in front, none with one token more, or none ends there. No unit that begins so
-- stands before that in more than NESTING nested phrases.
pub record IsUnexpected (tokens front found : List Token) : Type 0 where
  pub splits : tokens ≡ front ++ found
  pub begins : Begins front
  pub goes_no_further : (t : Token) (rest : List Token) → found ≡ t ∷ rest → Begins (front ++ t ∷ []) → ⊥
  pub ends : found ≡ [] → (ms : List Mark) → IsText ms tokens → ⊥
  pub nests : (ms : List Mark) (rest : List Token) → IsText ms (front ++ rest) → (k : ℕ) → first_deep ms NESTING ≡ Some k → length front ≤ k

-- A unit begins with the tokens up to this one, and in each that does so this one is the first that stands in more than NESTING nested
-- phrases.
pub record IsTooNested (tokens front : List Token) (t : Token) (rest : List Token) : Type 0 where
  pub splits : tokens ≡ front ++ t ∷ rest
  pub begins : Begins (front ++ t ∷ [])
  pub deep : (ms : List Mark) (more : List Token) → IsText ms (front ++ t ∷ more) → first_deep ms NESTING ≡ Some (length front)

-- ---- reading

-- the reader of a nested phrase and of a form, where so many levels are left
unfoldable pub nest_at : ℕ → Nest → Reader
nest_at d n ts = nest_over sets rule d n ts

abbrev pub read : ℕ → Form → Reader
read d f ts = read_over sets (nest_at d) f ts
