-- A declaration of an object whose word has been read.
use Rattle.std.specs.Prelude.{ℕ, List, [], ◌∷◌}
use Rattle.orca_base.specs.declared.place.Place.{Place}
use Rattle.orca_lexer.specs.declared.token.Keyword.TheVariants.{KeyEnd, KeyObject}
use Rattle.orca_lexer.specs.declared.token.Symbol.TheVariants.{Semicolon}
use Rattle.orca_lexer.specs.declared.token.Token.{Token}
use Rattle.orca_lexer.specs.declared.token.TokenKind.TheVariants.{Key}
use Rattle.orca_grammar.specs.Forms.{Form, ◌⨾◌}
use Rattle.orca_grammar.specs.Grammar.{read}
use Rattle.orca_grammar.specs.Reading.{Read, behind}
use Rattle.orca_grammar.specs.Rules as rules
use Rattle.orca_tree.specs.Marks.{word_at}

-- what reading gives of the object whose `object` stands at this place, where this form and its end are behind it
abbrev pub object_of : Place → ℕ → Form → List Token → Read
object_of at depth form tokens = behind (word_at at (Key KeyObject) ∷ [])
    (read depth (form ⨾ rules.key KeyEnd ⨾ rules.sign Semicolon) tokens)
