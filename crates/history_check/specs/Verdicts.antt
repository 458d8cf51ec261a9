-- The first breach of lines that are no history: the first line that may not come next, and the first part of it that differs from what
-- the program does there. The parts are judged in this order: its process, the number of the line, its action, its guard, its reply.
use Rattle.std.specs.Prelude.{◌≡◌, ◌↔◌, ℕ, suc, List, Some, IsTrue, length, slice_get, take}
use Rattle.value_core.specs.Performable.{is_performable}
use Rattle.value_core.specs.declared.action.Line.{Line}
use Rattle.value_core.specs.declared.action.Reply.{Reply}
use Rattle.value_core.specs.declared.meaning.Doing.TheVariants as doing
use Rattle.value_core.specs.Lawful.{next_of}
use Rattle.value_core.specs.Meaning.{Performs, Computes}
use Rattle.value_core.specs.History.{Configuration, IsStep, Legal, Performed, Process, after_lines, opening}
use Rattle.history_check.specs.declared.verdict.BreachRule.{BreachRule}
use Rattle.history_check.specs.declared.verdict.BreachRule.TheVariants as part
use Rattle.history_check.specs.declared.verdict.Verdict.{Verdict}
use Rattle.history_check.specs.declared.verdict.Verdict.TheVariants as verdict

-- the line is the next one of this process, by its number
pub record IsLineOf (c : Configuration) (line : Line) (x : Process) : Type 0 where
  pub exists : slice_get c.processes line.process.0 ≡ Some x
  pub call : line.call.0 ≡ length x.replies

-- its action is what the process does next, and no end
pub record IsActionOf (q : Computes) (c : Configuration) (line : Line) (x : Process) : Type 0 where
  pub its : IsLineOf c line x
  pub next : next_of q x.text line.process x.args x.replies ≡ doing.At line.action
  pub performable : IsTrue (is_performable line.action)

-- the action is performed by its guard, with whatever reply
abbrev pub HasGuard : Performs → Configuration → Line → Type 0
HasGuard p c line = (reply : Reply) × Performed p c.objects line.action line.guard reply

-- the line agrees with the program in all parts up to this one
abbrev pub Agrees : Performs → Computes → Configuration → Line → BreachRule → Type 0
Agrees p q c line part.Process = (x : Process) × (slice_get c.processes line.process.0 ≡ Some x)
Agrees p q c line part.Call = (x : Process) × IsLineOf c line x
Agrees p q c line part.Action = (x : Process) × IsActionOf q c line x
Agrees p q c line part.Guard = (x : Process) × IsActionOf q c line x × HasGuard p c line
Agrees p q c line part.Reply = (x : Process) × IsActionOf q c line x × Performed p c.objects line.action line.guard line.reply

-- this part is the first in which it differs
abbrev pub Breaks : Performs → Computes → Configuration → Line → BreachRule → Type 0
Breaks p q c line part.Process = Agrees p q c line part.Process → ⊥
Breaks p q c line part.Call = Agrees p q c line part.Process × (Agrees p q c line part.Call → ⊥)
Breaks p q c line part.Action = Agrees p q c line part.Call × (Agrees p q c line part.Action → ⊥)
Breaks p q c line part.Guard = Agrees p q c line part.Action × (Agrees p q c line part.Guard → ⊥)
Breaks p q c line part.Reply = Agrees p q c line part.Guard × (Agrees p q c line part.Reply → ⊥)

-- the lines before this one, which has this number from 1, are a history, and it breaks it by this part
pub record IsBreach (p : Performs) (q : Computes) (lines : List Line) (number : ℕ) (rule : BreachRule) : Type 0 where
  pub before : ℕ
  pub line : Line
  pub numbered : number ≡ suc before
  pub there : slice_get lines before ≡ Some line
  pub legal : Legal p q (take before lines)
  pub breaks : Breaks p q (after_lines p (opening q) (take before lines)) line rule

-- what is true of lines
abbrev pub IsVerdict : Performs → Computes → List Line → Verdict → Type 0
IsVerdict p q lines verdict.Legal = Legal p q lines
IsVerdict p q lines (verdict.Breach number rule) = IsBreach p q lines number rule

-- that is one verdict at most, of any lines and whatever the program
abbrev pub OneVerdict : Type 0
OneVerdict = (p : Performs) (q : Computes) (lines : List Line) (v w : Verdict) → IsVerdict p q lines v → IsVerdict p q lines w → v ≡ w

-- a line agrees in all parts exactly where it may come next
abbrev pub StepsAgree : Type 0
StepsAgree = (p : Performs) (q : Computes) (c : Configuration) (line : Line) → Agrees p q c line part.Reply ↔ IsStep p q c line
