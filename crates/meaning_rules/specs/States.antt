-- Evaluations (docs/LANGUAGE.md, Evaluation): where one stands, and why one goes no further. An evaluation changes the variables, uses
-- replies from the front of their list, and takes turns.
use Rattle.std.specs.Prelude.{ℕ, zero, suc, List, [], ◌∷◌, Option, Some, None, Result, Ok, Err}
use Rattle.orca_base.specs.declared.fault.FaultKind.{FaultKind}
use Rattle.value_core.specs.Datum.{Datum}
use Rattle.value_core.specs.View.{datum_of}
use Rattle.value_core.specs.declared.action.Action.{Action}
use Rattle.value_core.specs.declared.action.Reply.{Reply}
use Rattle.value_core.specs.declared.action.Reply.TheVariants as reply

-- the values of the names that are seen, in the order of the scope; the replies that weren't used yet; and the turns that are left, of
-- which the last may not be begun
pub record State : Type 0 where
  pub frame : List Datum
  pub replies : List Reply
  pub left : ℕ

-- it needs the reply to an action, it faulted, or it began the last turn
pub data Stop : Type 0 where
  Needs : Action → Stop
  Faults : FaultKind → Stop
  Busy : Stop

-- it goes on with a result, or stops
pub data Out (A : Type 0) : Type 0 where
  Goes : A → State → Out A
  Stops : Stop → Out A

-- one evaluation, and then the next
abbrev pub after : {A B : Type 0} → Out A → (A → State → Out B) → Out B
after (Goes x s) next = next x s
after (Stops why) next = Stops why

-- a result, or a fault
abbrev pub gives : {A : Type 0} → Result A FaultKind → State → Out A
gives (Ok x) s = Goes x s
gives (Err fault) s = Stops (Faults fault)

-- a turn is begun
abbrev pub begun : ℕ → State → Out (Unit {0})
begun zero s = Stops Busy
begun (suc zero) s = Stops Busy
begun (suc (suc n)) s = Goes tt (record s { left = suc n })

abbrev pub turn : State → Out (Unit {0})
turn s = begun s.left s

-- an action uses the first reply that is left: a value or none, or a fault
abbrev pub replied : Action → State → List Reply → Out (Option Datum)
replied action s [] = Stops (Needs action)
replied action s (reply.Done ∷ replies) = Goes None (record s { replies = replies })
replied action s (reply.Gave value ∷ replies) = Goes (Some (datum_of value)) (record s { replies = replies })
replied action s (reply.Broke fault ∷ replies) = Stops (Faults fault)

abbrev pub act : Action → State → Out (Option Datum)
act action s = replied action s s.replies
