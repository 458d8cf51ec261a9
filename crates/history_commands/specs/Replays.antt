-- What is said of a history's text (docs/FORMATS.md, Statuses): whether it is one of the program, and else the first line that is none, and
-- its first part that differs. A line that isn't of the form differs in that.
use Rattle.std.specs.Prelude.{◌≡◌, ◌⊎◌, ℕ, List, [], ◌∷◌, ◌++◌, codes, Option, Some, None}
use Rattle.std.specs.Fmt.{decimal}
use Rattle.value_core.specs.declared.action.Line.{Line}
use Rattle.value_core.specs.Meaning.{Performs, Computes}
use Rattle.value_core.specs.History.{Legal}
use Rattle.command_output.specs.declared.statuses.TheConstants.{BREACH, FINISHED, NO_MEMORY}
use Rattle.command_output.specs.Printed.{Ends, EndsAs, Grew}
use Rattle.history_check.specs.declared.verdict.BreachRule.{BreachRule}
use Rattle.history_check.specs.declared.verdict.BreachRule.TheVariants as part
use Rattle.history_check.specs.Verdicts.{IsBreach}
use Rattle.history_text.specs.Sound.{AreFirst}
use Rattle.history_text.specs.declared.names.Names.{Names}
use Rattle.history_commands.specs.declared.answer.Answer.{Answer}
use Rattle.history_commands.specs.declared.answer.Answer.TheVariants as said

-- all lines are of the form, and are a history; or the lines in front of the first that isn't are; or one of these is no step
abbrev pub IsToldOf : Performs → Computes → Names → List ℕ → Answer → Type 0
IsToldOf p q names text said.Legal = (lines : List Line) × AreFirst names text lines None × Legal p q lines
IsToldOf p q names text (said.Form number) = (lines : List Line) × AreFirst names text lines (Some number) × Legal p q lines
IsToldOf p q names text (said.Part number rule) =
    (lines : List Line) × (bad : Option ℕ) × AreFirst names text lines bad × IsBreach p q lines number rule

-- ---- its status and its line

abbrev pub answer_status : Answer → ℕ
answer_status said.Legal = FINISHED
answer_status (said.Form number) = BREACH
answer_status (said.Part number rule) = BREACH

abbrev pub part_name : BreachRule → List ℕ
part_name part.Process = codes "process"
part_name part.Call = codes "call"
part_name part.Action = codes "action"
part_name part.Guard = codes "guard"
part_name part.Reply = codes "reply"

abbrev pub breach_line : ℕ → List ℕ → List ℕ
breach_line number part = codes "orca: history breaks at line " ++ decimal number ++ (codes ": " ++ part ++ 10 ∷ [])

abbrev pub answer_line : Answer → List ℕ
answer_line said.Legal = codes "legal" ++ 10 ∷ []
answer_line (said.Form number) = breach_line number (codes "form")
answer_line (said.Part number rule) = breach_line number (part_name rule)

-- ---- what is said

-- the answer was printed as its line, or a front of the line where the write failed or memory lacked; or nothing at all, for want of memory
abbrev pub IsSaid : Performs → Computes → Names → List ℕ → Option (List ℕ) → Option (List ℕ) → ℕ → Type 0
IsSaid p q names text old new status =
    ((answer : Answer) × IsToldOf p q names text answer × EndsAs (answer_status answer) status
    × Grew old new (Ends (answer_status answer) status (answer_line answer)))
    ⊎ ((status ≡ NO_MEMORY) × (new ≡ old))
