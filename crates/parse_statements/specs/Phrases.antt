-- A nested phrase by one of its alternatives.
use Rattle.std.specs.Prelude.{ℕ, List}
use Rattle.orca_lexer.specs.declared.token.Token.{Token}
use Rattle.orca_grammar.specs.Forms.{Nest, Form, Phrase}
use Rattle.orca_grammar.specs.Reading.{Read, in_brackets}
use Rattle.orca_grammar.specs.Grammar.{read}

-- what reading gives of a nested phrase that has this form, where so many levels are left inside of it
abbrev pub phrase : Nest → ℕ → Form → List Token → Read
phrase n depth form tokens = in_brackets (Phrase n) (read depth form tokens)
