-- The numbers and messages of the lexer's rules.
use Rattle.std.specs.Prelude.{ℕ, List, codes}
use Rattle.orca_lexer.specs.declared.error.LexRule.{LexRule}
use Rattle.orca_lexer.specs.declared.error.LexRule.TheVariants.{NotUtf8, StrayCharacter, OpenString, NumberTooLarge}

abbrev pub number_of : LexRule → ℕ
number_of NotUtf8 = 1
number_of StrayCharacter = 2
number_of OpenString = 3
number_of NumberTooLarge = 4

abbrev pub message_of : LexRule → List ℕ
message_of NotUtf8 = codes "not UTF-8"
message_of StrayCharacter = codes "stray character"
message_of OpenString = codes "open string"
message_of NumberTooLarge = codes "number too large"
