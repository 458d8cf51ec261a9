-- Stopping and going on: the machine as a processor. A process may stop at each action and at each turn, and goes on from what is kept
-- there, in which no reply stands. What is kept stands for the process after its replies and its turns, and keeps the words of `Processor`
-- (value_core, specs/Goes.antt).
use Rattle.std.specs.Prelude.{◌≡◌, ◌⊎◌, ℕ, suc, ◌+◌, pos, List, [], ◌∷◌, ◌++◌}
use Rattle.orca_base.specs.declared.fault.FaultKind.{FaultKind}
use Rattle.orca_base.specs.declared.ids.TextNo.{TextNo}
use Rattle.orca_base.specs.declared.ids.ProcessNo.{ProcessNo}
use Rattle.link_rules.specs.Units.{Source}
use Rattle.value_core.specs.Datum.{Data}
use Rattle.value_core.specs.Datum as datum
use Rattle.value_core.specs.View.{datum_of}
use Rattle.value_core.specs.Goes as budgets
use Rattle.value_core.specs.Goes.{ForEach, ForSome, HasReplied, IfAt}
use Rattle.value_core.specs.declared.action.Action.{Action}
use Rattle.value_core.specs.declared.action.Action.TheVariants as action
use Rattle.value_core.specs.declared.action.Reply.{Reply}
use Rattle.value_core.specs.declared.action.Reply.TheVariants as reply
use Rattle.value_core.specs.declared.meaning.Doing.{Doing}
use Rattle.value_core.specs.declared.meaning.Doing.TheVariants as doing
use Rattle.value_core.specs.declared.processor.Halt.{Halt}
use Rattle.value_core.specs.declared.processor.Halt.TheVariants as halt
use Rattle.value_core.specs.declared.value.Value.{Value}
use Rattle.meaning_rules.specs.Meanings.{computes_of}
use Rattle.meaning_rules.specs.States.{Stop, Needs, Faults, Busy}
use Rattle.code_rules.specs.Machine.{Config, Code, Effect, Steps, Turns, Asks, Fails, Ends, Tests, Blocks, Stuck, step, Phase, Running, Asking, Finished, ProcessState, in_phase, RunResult, Over, Halted, Tested, AllFalse, Unfinished, Lost, exec, push_on}
use Rattle.code_rules.specs.Performing.{Came, To, NotYet, GotStuck, ComesTo, doing_by, first_of}
use Rattle.code_rules.specs.Correct.{IsStart}

-- ---- what is kept is where it stands

-- it was left at this action
abbrev pub is_left : Phase → Action → Type 0
is_left (Running c) act = ⊥
is_left (Asking a c) act = a ≡ act
is_left (Finished a) act = a ≡ act

abbrev pub halted : ProcessState → Action → Type 0
halted s act = is_left s.at act

-- ---- the machine, as a processor

abbrev pub start : Code → TextNo → ProcessNo → Data → ProcessState
start code text number args = in_phase (Running (first_of code text number args)) 0

abbrev pub halt_of : Stop → Halt
halt_of (Needs a) = halt.At a
halt_of (Faults fault) = halt.At (action.Faulted fault)
halt_of Busy = halt.Paused

abbrev pub halt_by : RunResult → Came (ProcessState × Halt)
halt_by (Over x locals turns) = To (in_phase (Finished action.Ended) turns, halt.At action.Ended)
halt_by (Halted why s) = To (s, halt_of why)
halt_by (Tested t address) = GotStuck
halt_by AllFalse = GotStuck
halt_by Unfinished = NotYet
halt_by Lost = GotStuck

-- without a reply, after so many turns and with this budget, so many instructions at most
abbrev pub goes_from : Code → Phase → ℕ → ℕ → ℕ → Came (ProcessState × Halt)
goes_from code (Running c) turns budget k = halt_by (exec code k c [] turns budget)
goes_from code (Asking a c) turns budget k = To (in_phase (Asking a c) turns, halt.At a)
goes_from code (Finished a) turns budget k = To (in_phase (Finished a) turns, halt.At a)

abbrev pub go : Code → ProcessState → ℕ → ℕ → Came (ProcessState × Halt)
go code s budget k = goes_from code s.at s.turns budget k

-- the reply to the action at which it was left; a fault is its own
abbrev pub answered : Phase → Reply → Phase
answered (Running c) r = Running c
answered (Asking a c) reply.Done = Running (push_on (datum.int (pos 0)) c)
answered (Asking a c) (reply.Gave value) = Running (push_on (datum_of value) c)
answered (Asking a c) (reply.Broke fault) = Finished (action.Faulted fault)
answered (Finished a) r = Finished a

abbrev pub answer : ProcessState → Reply → ProcessState
answer s r = in_phase (answered s.at r) s.turns

-- ---- what it stands for, where `next` is what the process does next by its replies and turns

module _ (code : Code) (next : List Reply → ℕ → Doing) where
  -- with whatever replies and turns more, the run comes to what the process does next
  abbrev pub RunsOn : Config → List Reply → ℕ → Type 0
  RunsOn c replies turns =
      (more : List Reply) (n : ℕ) → ComesTo (λ k. doing_by (exec code k c more turns (suc n))) (next (replies ++ more) (turns + suc n))

  -- it is at this action, whatever turns come
  abbrev pub IsAt : Action → List Reply → ℕ → Type 0
  IsAt a replies turns = (n : ℕ) → next replies (turns + suc n) ≡ doing.At a

  -- and whatever replies come
  abbrev pub IsOver : Action → List Reply → ℕ → Type 0
  IsOver a replies turns = (more : List Reply) → IsAt a (replies ++ more) turns

  -- it is at an action, and goes on with each reply: with a value or none it runs, and with a fault it is over
  pub record AsksFor (a : Action) (c : Config) (replies : List Reply) (turns : ℕ) : Type 0 where
    pub at : IsAt a replies turns
    pub done : RunsOn (push_on (datum.int (pos 0)) c) (replies ++ reply.Done ∷ []) turns
    pub gave : (value : Value) → RunsOn (push_on (datum_of value) c) (replies ++ reply.Gave value ∷ []) turns
    pub broke : (fault : FaultKind) → IsOver (action.Faulted fault) (replies ++ reply.Broke fault ∷ []) turns

  abbrev pub StandsSo : Phase → List Reply → ℕ → Type 0
  StandsSo (Running c) replies turns = RunsOn c replies turns
  StandsSo (Asking a c) replies turns = AsksFor a c replies turns
  StandsSo (Finished a) replies turns = IsOver a replies turns

  -- the turns were needed: with these it is busy, whatever replies come
  abbrev pub IsOnTheWay : List Reply → ℕ → Type 0
  IsOnTheWay replies turns = (turns ≡ 0) ⊎ ((more : List Reply) → next (replies ++ more) turns ≡ doing.Busy)

  pub record StandsAfter (s : ProcessState) (replies : List Reply) (turns : ℕ) : Type 0 where
    pub so : StandsSo s.at replies turns
    pub way : IsOnTheWay replies turns
    pub count : s.turns ≡ turns

  -- it comes to this action now: with one turn more than it took, and with those that it took it is busy, if there were any
  abbrev pub HaltsAt : Action → Phase → List Reply → ℕ → Type 0
  HaltsAt a at replies turns = budgets.Reaches (next replies) turns (doing.At a) × StandsAfter (in_phase at turns) replies turns

  -- what one instruction of a run leaves: it goes on, begins a turn, with which it would be busy, or halts; and it is never stuck
  abbrev pub Follows : Effect → List Reply → ℕ → Type 0
  Follows (Steps c) replies turns = StandsAfter (in_phase (Running c) turns) replies turns
  Follows (Turns c) replies turns =
      StandsAfter (in_phase (Running c) (turns + 1)) replies (turns + 1) × (next replies (turns + 1) ≡ doing.Busy)
  Follows (Asks a c) replies turns = HaltsAt a (Asking a c) replies turns
  Follows (Fails fault) replies turns = HaltsAt (action.Faulted fault) (Finished (action.Faulted fault)) replies turns
  Follows (Ends x locals) replies turns = HaltsAt action.Ended (Finished action.Ended) replies turns
  Follows (Tests t address) replies turns = ⊥
  Follows Blocks replies turns = ⊥
  Follows Stuck replies turns = ⊥

-- ---- of code

-- what is kept stands for a process of this text, number, arguments, replies and turns
abbrev pub stands : List Source → Code → ProcessState → budgets.Stands
stands us code s text number args replies turns = StandsAfter code ((computes_of us).doing text number args) s replies turns

-- what `Processor` asks of a machine, of the one that runs this code
pub record Resumes (us : List Source) (code : Code) : Type 0 where
  -- a process begins before its first reply
  pub starts : (text : TextNo) (number : ProcessNo) (args : Data) → IsStart us text args →
      stands us code (start code text number args) text number args [] 0
  -- instruction by instruction it goes on standing for it
  pub follows : (c : Config) (count : ℕ) (text : TextNo) (number : ProcessNo) (args : Data) (replies : List Reply) (turns : ℕ) →
      stands us code (in_phase (Running c) count) text number args replies turns →
      Follows code ((computes_of us).doing text number args) (step code c) replies turns
  -- with a budget of at least one turn it comes to a halt, and never gets stuck
  pub halts : (s : ProcessState) (n : ℕ) → ForSome (stands us code s) → (r : ProcessState × Halt) × ComesTo (go code s (suc n)) r
  -- that is what the meaning comes to with that budget, and what is kept stands for the same process further on
  pub goes : (s : ProcessState) (n k : ℕ) (r : ProcessState × Halt) → go code s (suc n) k ≡ To r →
      ForEach (stands us code s) (budgets.GoesOn (computes_of us) (stands us code r.0) (suc n) r.1)
  -- where it comes to an action, it is left at it
  pub left : (s : ProcessState) (n k : ℕ) (r : ProcessState × Halt) → go code s (suc n) k ≡ To r → IfAt r.1 (halted r.0)
  -- and takes the reply to it
  pub replies : (s : ProcessState) (a : Action) (r : Reply) → halted s a →
      ForEach (stands us code s) (HasReplied r (stands us code (answer s r)))
  -- the turns that it took
  pub turns : (s : ProcessState) → ForEach (stands us code s) (λ text number args replies turns. s.turns ≡ turns)
