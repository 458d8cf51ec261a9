-- What code does, as a processor and a performer: what a process does next, what a try of an operation gives, and what a making.
use Rattle.std.specs.Prelude.{◌≡◌, ◌⊎◌, ◌==◌, ℕ, ◌≤◌, zero, suc, ◌+◌, Bool, true, false, List, [], ◌++◌, length, drop, take, if◌then◌else◌, Option, Some, None}
use Rattle.orca_base.specs.declared.ids.KindNo.{KindNo}
use Rattle.orca_base.specs.declared.ids.OpNo.{OpNo}
use Rattle.orca_base.specs.declared.ids.TextNo.{TextNo}
use Rattle.orca_base.specs.declared.ids.ProcessNo.{ProcessNo}
use Rattle.orca_base.specs.declared.fault.FaultKind.TheVariants.{TooLong}
use Rattle.orca_base.specs.declared.limits.TheConstants.{OPERATION_TURNS}
use Rattle.value_core.specs.Datum.{Datum, Data, data_of, list_of}
use Rattle.value_core.specs.Datum as datum
use Rattle.value_core.specs.declared.action.Action.TheVariants as action
use Rattle.value_core.specs.declared.action.Reply.{Reply}
use Rattle.value_core.specs.declared.action.Reply.TheVariants as reply
use Rattle.value_core.specs.declared.meaning.Doing.{Doing}
use Rattle.value_core.specs.declared.meaning.Doing.TheVariants as doing
use Rattle.value_core.specs.declared.meaning.Making.{Making}
use Rattle.value_core.specs.declared.meaning.Making.TheVariants as making
use Rattle.value_core.specs.declared.meaning.Tried.{Tried}
use Rattle.value_core.specs.declared.meaning.Tried.TheVariants as tried
use Rattle.meaning_rules.specs.States.{Needs, Faults, Busy}
use Rattle.meaning_rules.specs.Operations.{fault_of, reply_of}
use Rattle.code_rules.specs.Machine.{Body, BodyNo, OfProcess, OfMaking, OfOperation, OperationCode, Code, Config, with_spare, body_of, operation_of, Effect, Steps, Turns, Asks, Fails, Ends, Tests, Blocks, Stuck, step, RunResult, Over, Halted, Tested, AllFalse, Unfinished, Lost, exec}

-- ---- how far it came

-- to this; not to an end yet; or to an instruction that it can't do
pub data Came (A : Type 0) : Type 0 where
  To : A → Came A
  NotYet : Came A
  GotStuck : Came A

-- with enough instructions it comes to this, and stays so with more; with fewer it still runs. So it comes to nothing else, and it never
-- gets stuck
pub record ComesTo {A : Type 0} (run : ℕ → Came A) (x : A) : Type 0 where
  pub enough : (k : ℕ) × (run k ≡ To x)
  pub stays : (j k : ℕ) → j ≤ k → run j ≡ To x → run k ≡ To x
  pub only : (k : ℕ) → (run k ≡ NotYet) ⊎ (run k ≡ To x)

-- a body begins at an address, with these values in its slots
abbrev pub begun : ProcessNo → BodyNo → ℕ → List Datum → Config
begun process body pc locals = record { process = process; body = body; pc = pc; stack = []; locals = locals; frames = [] }

-- ---- processes

-- the arguments are what its first names hold
abbrev pub process_slots : Body → Data → List Datum
process_slots part args = with_spare part (list_of args ++ drop (length (list_of args)) part.opens)

abbrev pub doing_by : RunResult → Came Doing
doing_by (Over x locals turns) = To (doing.At action.Ended)
doing_by (Halted (Needs act) s) = To (doing.At act)
doing_by (Halted (Faults fault) s) = To (doing.At (action.Faulted fault))
doing_by (Halted Busy s) = To doing.Busy
doing_by (Tested t address) = GotStuck
doing_by AllFalse = GotStuck
doing_by Unfinished = NotYet
doing_by Lost = GotStuck

-- where a process begins; there is nothing to do without a text
abbrev pub process_begun : Code → TextNo → ProcessNo → Data → Option Body → Config
process_begun code text number args None = begun number (OfProcess text.0) 0 []
process_begun code text number args (Some part) = begun number (OfProcess text.0) 0 (process_slots part args)

abbrev pub first_of : Code → TextNo → ProcessNo → Data → Config
first_of code text number args = process_begun code text number args (body_of code (OfProcess text.0))

-- what a process does next after these replies, within so many turns, as far as so many instructions come
abbrev pub does : Code → TextNo → ProcessNo → Data → List Reply → ℕ → ℕ → Came Doing
does code text number args replies turns k = doing_by (exec code k (first_of code text number args) replies 0 turns)

-- ---- operations

-- who makes no object and gets no reply has no number
abbrev pub nobody : ProcessNo
nobody = record { 0 = 0 }

-- an attempt: its code, where the fields begin among the names and how many names there are, and what the slots hold
pub record Attempt : Type 0 where
  pub body : BodyNo
  pub own : ℕ
  pub names : ℕ
  pub slots : List Datum

-- the arguments, the variables with their opening values, and the object's fields
abbrev pub attempt_of : BodyNo → Body → Data → Data → Attempt
attempt_of body part state args = record {
  body = body;
  own = length (list_of args) + length part.opens;
  names = length (list_of args ++ (part.opens ++ list_of state));
  slots = with_spare part (list_of args ++ (part.opens ++ list_of state));
}

abbrev pub next_guard : Bool → ℕ → ℕ
next_guard true guard = guard
next_guard false guard = guard + 1

-- a guard and a body begin afresh, at their address
abbrev pub part_of : Attempt → ℕ → Config
part_of a address = begun nobody a.body address a.slots

-- a turn is begun, of which the last one may not be
abbrev pub turn_tried : ℕ → (Config → ℕ → Came Tried) → Config → ℕ → Came Tried
turn_tried guard on c zero = To (tried.Broke guard TooLong)
turn_tried guard on c (suc zero) = To (tried.Broke guard TooLong)
turn_tried guard on c (suc (suc n)) = on c (suc n)

-- what an instruction of this guard or its body comes to; a test leads on to another address, with nothing of what it left
abbrev pub tried_by : Attempt → ℕ → (ℕ → Config → ℕ → Came Tried) → Effect → ℕ → Came Tried
tried_by a guard on (Steps c) left = on guard c left
tried_by a guard on (Turns c) left = turn_tried guard (on guard) c left
tried_by a guard on (Asks act c) left = To (tried.Broke guard TooLong)
tried_by a guard on (Fails fault) left = To (tried.Broke guard fault)
tried_by a guard on (Ends x locals) left = To (tried.Did guard (data_of (drop a.own (take a.names locals))) (reply_of x))
tried_by a guard on (Tests t address) left = on (next_guard t guard) (part_of a address) (OPERATION_TURNS + 1)
tried_by a guard on Blocks left = To tried.Blocked
tried_by a guard on Stuck left = GotStuck

-- from a configuration of this guard or its body, with so many turns left: a test and a body may take 10,000 turns each
abbrev pub trying : Code → Attempt → ℕ → ℕ → Config → ℕ → Came Tried
trying code a zero guard c left = NotYet
trying code a (suc k) guard c left = tried_by a guard (trying code a k) (step code c) left

abbrev pub attempted : Code → Attempt → ℕ → ℕ → Came Tried
attempted code a first k = trying code a k first (part_of a 0) (OPERATION_TURNS + 1)

abbrev pub operation_tried : Code → BodyNo → Data → Data → Option OperationCode → ℕ → Came Tried
operation_tried code body state args None k = To tried.Blocked
operation_tried code body state args (Some o) k = attempted code (attempt_of body o.body state args) o.first k

-- a try of an operation on a state; the output object has one operation, which changes nothing
abbrev pub tries : Code → KindNo → OpNo → Data → Data → ℕ → Came Tried
tries code kind op state args k =
    if kind.0 == 0 then To (tried.Did 0 state reply.Done)
    else operation_tried code (OfOperation kind.0 op.0) state args (operation_of code kind.0 op.0) k

-- ---- makings

abbrev pub made_by : ℕ → RunResult → Came Making
made_by fields (Over x locals turns) = To (making.Made (data_of (take fields locals)))
made_by fields (Halted why s) = To (making.Broke (fault_of why))
made_by fields (Tested t address) = GotStuck
made_by fields AllFalse = GotStuck
made_by fields Unfinished = NotYet
made_by fields Lost = GotStuck

abbrev pub type_made : Code → BodyNo → Option Body → ℕ → Came Making
type_made code body None k = To (making.Made datum.none)
type_made code body (Some part) k =
    made_by (length part.opens) (exec code k (begun nobody body 0 (with_spare part part.opens)) [] 0 (OPERATION_TURNS + 1))

abbrev pub makes : Code → KindNo → ℕ → Came Making
makes code kind k = type_made code (OfMaking kind.0) (body_of code (OfMaking kind.0)) k
