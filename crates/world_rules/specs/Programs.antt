-- Small programs, whose runs are computed: what their operations and processes mean.
use Rattle.std.specs.Prelude.{ℕ, ℤ, pos, zero, suc, if◌then◌else◌, Bool, true, false, List, [], ◌∷◌, length, Some}
use Rattle.orca_base.specs.declared.ids.KindNo.{KindNo}
use Rattle.orca_base.specs.declared.ids.ObjectId.{ObjectId}
use Rattle.orca_base.specs.declared.what.Choice.{Choice}
use Rattle.value_core.specs.Datum.{Data, Datum}
use Rattle.value_core.specs.Datum as datum
use Rattle.value_core.specs.View.{value_of}
use Rattle.value_core.specs.declared.action.Action.{Action}
use Rattle.value_core.specs.declared.action.Action.TheVariants as action
use Rattle.value_core.specs.declared.action.Class.{Class}
use Rattle.value_core.specs.declared.action.Class.TheVariants.{Reads, Writes}
use Rattle.value_core.specs.declared.action.Line.{Line}
use Rattle.value_core.specs.declared.action.Reply.{Reply}
use Rattle.value_core.specs.declared.action.Reply.TheVariants as answer
use Rattle.value_core.specs.declared.meaning.Making.TheVariants as making
use Rattle.value_core.specs.declared.meaning.Tried.{Tried}
use Rattle.value_core.specs.declared.meaning.Tried.TheVariants as tried
use Rattle.value_core.specs.declared.meaning.Doing.TheVariants as doing
use Rattle.value_core.specs.History.{output_kind, output_object}
use Rattle.value_core.specs.Meaning.{Computes, Performs}
use Rattle.world_rules.specs.Frame.{Frame}
use Rattle.world_rules.specs.Played.{Played, Stage}

-- ---- a cell with an integer, which is made with 0

abbrev pub cell_kind : KindNo
cell_kind = record { 0 = 1 }

-- the first object of process 0
abbrev pub cell : ObjectId
cell = record { process = 0; number = 1 }

abbrev pub holding : ℕ → Data
holding n = datum.more (datum.int (pos n)) datum.none

abbrev pub first_of : Data → Datum
first_of datum.none = datum.int (pos 0)
first_of (datum.more d ds) = d

abbrev pub is_nothing : ℤ → Bool
is_nothing (pos zero) = true
is_nothing z = false

abbrev pub is_empty_cell : Datum → Bool
is_empty_cell (datum.int z) = is_nothing z
is_empty_cell d = false

-- with a guard that the integer isn't 0
abbrev pub unless_empty : Data → Tried → Tried
unless_empty state t = if is_empty_cell (first_of state) then tried.Blocked else t

-- operation 0 reads the integer, 1 assigns it, 2 waits, as a read, until it isn't 0, and 3 waits for that and takes it out
abbrev pub try_cell : ℕ → Data → Data → Tried
try_cell zero state args = tried.Did 0 state (answer.Gave (value_of (first_of state)))
try_cell (suc zero) state args = tried.Did 0 args answer.Done
try_cell (suc (suc zero)) state args = unless_empty state (tried.Did 1 state answer.Done)
try_cell (suc (suc (suc op))) state args = unless_empty state (tried.Did 1 (holding 0) (answer.Gave (value_of (first_of state))))

abbrev pub try_of : ℕ → ℕ → Data → Data → Tried
try_of zero op state args = tried.Did 0 state answer.Done
try_of (suc kind) op state args = try_cell op state args

abbrev pub cell_class : ℕ → Class
cell_class zero = Reads
cell_class (suc zero) = Writes
cell_class (suc (suc zero)) = Reads
cell_class (suc (suc (suc op))) = Writes

abbrev pub class_by : ℕ → ℕ → Class
class_by zero op = Writes
class_by (suc kind) op = cell_class op

abbrev pub performs : Performs
performs = record {
  class_of = λ kind op. class_by kind.0 op.0;
  made = λ kind. making.Made (holding 0);
  tries = λ kind op state args. try_of kind.0 op.0 state args;
}

-- ---- actions

abbrev pub make : Action
make = action.Make cell_kind cell

abbrev pub call : ℕ → Data → Action
call op args = action.Call cell_kind (record { 0 = op }) cell args

abbrev pub value : Action
value = call 0 datum.none

abbrev pub assign : ℕ → Action
assign n = call 1 (holding n)

abbrev pub await : Action
await = call 2 datum.none

abbrev pub take_out : Action
take_out = call 3 datum.none

-- the process text 1 on this member, which is handed the cell
abbrev pub fork_on : ℕ → Action
fork_on member = action.Fork (record { 0 = 1 }) (datum.more (datum.object 0 1) datum.none) (Some (pos member))

-- the string of one character is written
abbrev pub write : ℕ → Action
write code = action.Call output_kind (record { 0 = 0 }) output_object (datum.more (datum.text (code ∷ [])) datum.none)

-- ---- programs: what each process text does after so many replies

abbrev pub nth : List Action → ℕ → Action
nth [] n = action.Ended
nth (act ∷ acts) zero = act
nth (act ∷ acts) (suc n) = nth acts n

abbrev pub text_of : List Action → List Action → ℕ → List Action
text_of first second zero = first
text_of first second (suc n) = second

-- two process texts, each of which does these actions
abbrev pub two_texts : List Action → List Action → Computes
two_texts first second = record {
  main = record { 0 = 0 };
  doing = λ text number args replies turns. doing.At (nth (text_of first second text.0) (length replies));
}

-- a run of them on so many members, of which so many may be lost, with two wires
abbrev pub frame_of : ℕ → ℕ → List (List Choice) → Computes → Frame
frame_of nodes resilience choices computes = record {
  performs = performs;
  computes = computes;
  settings = record { nodes = nodes; resilience = resilience; turns = 1000; events = 1000; wires = 2; choices = choices };
}

-- ---- lines

abbrev pub line : ℕ → ℕ → Action → ℕ → Reply → Line
line process call act guard reply =
    record { process = record { 0 = process }; call = record { 0 = call }; action = act; guard = guard; reply = reply }

abbrev pub gives : ℕ → Reply
gives n = answer.Gave (value_of (datum.int (pos n)))

-- ---- processes

-- a process of this text after these replies, which took no turn
abbrev pub runner : ℕ → Data → List Reply → ℕ → Stage → Played
runner text args replies place stage = record {
  text = record { 0 = text };
  args = args;
  replies = replies;
  turns = 0;
  place = place;
  stage = stage;
}
