-- Which line is the reply to which message: what an entry, or a call on a single copy, has for a process is the reply to the message
-- that the process has out; and the answer of a single copy that is on its way is the one line beside the list that its process lacks.
use Rattle.std.specs.Prelude.{◌≡◌, ◌≤◌, ℕ, List, [], ◌∷◌, Some, length, slice_get}
use Rattle.value_core.specs.declared.action.Line.{Line}
use Rattle.value_core.specs.declared.message.Message.{Message}
use Rattle.value_core.specs.Meaning.{Performs, Computes}
use Rattle.guard_queue.specs.declared.queue.Suspended.{Suspended}
use Rattle.book_law.specs.Passes.{Test, lines_after}
use Rattle.book_law.specs.Book.{Placed, copies_at}
use Rattle.book_law.specs.Singles.{Single, lines_on}
use Rattle.book_law.specs.Course.{Came, Course}
use Rattle.book_law.specs.Events.{In, Runner, Takes, lines_by}

-- nothing, or one line, which is of the message that the process has out
abbrev pub IsReplyTo : Runner → List Line → Type 0
IsReplyTo x [] = Unit {0}
IsReplyTo x (l ∷ ls) =
    (ls ≡ []) × (m : Message) × (x.message ≡ Some m) × (l.process ≡ m.process) × (l.call ≡ m.call) × (l.action ≡ m.action)

-- a member's next entry has such lines for each of its processes, and a call that an owner takes has them for each process
pub record HandsOne (single : Test) (p : Performs) (w : Course) : Type 0 where
  pub entry :
      (j : ℕ) (x : Runner) (y : Message) → w.runners j ≡ Some x → slice_get w.list (w.applied x.member) ≡ Some y →
      IsReplyTo x (lines_by j (lines_after single p (copies_at single p w.list (w.applied x.member)) y))
  pub on_copy :
      (i : ℕ) (s : Single) (r : Runner) (call : Suspended) → Takes w.owned w.entered w.applied w.runners i s r call →
      (j : ℕ) (x : Runner) → w.runners j ≡ Some x → IsReplyTo x (lines_by j (lines_on p s call))

-- so it is in every run
abbrev pub RunsHandOne : Type 0
RunsHandOne = (single : Test) (p : Performs) (q : Computes) (w : Course) → Came single p q w → HandsOne single p w

-- the operation stands beside the list, it is of the message that process j, which is x, has out, and its place isn't below x's
pub record IsAnswerTo (aside : List Placed) (j : ℕ) (x : Runner) (r : Placed) : Type 0 where
  pub there : In r aside
  pub process : r.line.process.0 ≡ j
  pub call : r.line.call.0 ≡ length x.replies
  pub message : Message
  pub out : x.message ≡ Some message
  pub action : r.line.action ≡ message.action
  pub place : x.place ≤ r.place

-- the answer on the way is that, and nothing else beside the list is of process j with a number that x hasn't received
pub record AnswerOf (aside : List Placed) (j : ℕ) (x : Runner) : Type 0 where
  pub is : (r : Placed) → x.answer ≡ Some r → IsAnswerTo aside j x r
  pub only : (r : Placed) → In r aside → r.line.process.0 ≡ j → length x.replies ≤ r.line.call.0 → x.answer ≡ Some r

-- so it is of each process in every run
abbrev pub AnswersStand : Type 0
AnswersStand =
    (single : Test) (p : Performs) (q : Computes) (w : Course) → Came single p q w → (j : ℕ) (x : Runner) → w.runners j ≡ Some x →
    AnswerOf w.aside j x
