-- The text of a run's book, once it is read back (docs/FORMATS.md, Histories).
use Rattle.std.specs.Prelude.{List, None}
use Rattle.value_core.specs.declared.action.Line.{Line}
use Rattle.value_core.specs.Meaning.{Performs, Computes}
use Rattle.history_text.specs.Sound.{AreFirst}
use Rattle.history_text.specs.Spelling.{history_text}
use Rattle.history_text.specs.declared.names.Names.{Names}
use Rattle.history_commands.specs.Replays.{IsToldOf}
use Rattle.history_commands.specs.declared.answer.Answer.TheVariants as said

-- the lines that are read are the book's, and no part of the text is none; and what is said of it is that it is a history of the program
pub record ReadsBack (p : Performs) (q : Computes) (names : Names) (book : List Line) : Type 0 where
  pub lines : AreFirst names (history_text names book) book None
  pub legal : IsToldOf p q names (history_text names book) said.Legal
