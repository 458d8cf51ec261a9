-- A process as its member knows it.
use Rattle.std.specs.Prelude.{ℕ, Bool, true, false, List, [], ◌∷◌, ◌++◌, length}
use Rattle.orca_base.specs.declared.ids.CallNo.{CallNo}
use Rattle.orca_base.specs.declared.ids.TextNo.{TextNo}
use Rattle.value_core.specs.Datum.{Data}
use Rattle.value_core.specs.declared.action.Action.{Action}
use Rattle.value_core.specs.declared.action.Action.TheVariants as action
use Rattle.value_core.specs.declared.action.Reply.{Reply}
use Rattle.value_core.specs.declared.processor.Halt.{Halt}
use Rattle.value_core.specs.declared.processor.Halt.TheVariants as halt
use Rattle.world_rules.specs.Processes.{Begun}

-- where it stands: it computes; it is at an action that wasn't carried out; its message was submitted; its read is tried after each
-- entry, since all guards were false so far; its call on a single object was performed nowhere that it heard of; it has ended or faulted
pub data Stage : Type 0 where
  Computing : Stage
  Acting : (act : Action) → Stage
  Submitted : (act : Action) → Stage
  Reading : (act : Action) → Stage
  Asking : (act : Action) → Stage
  Over : (act : Action) → Stage

-- its text and arguments; the replies that it received, and the turns that it took in all; its place, which is that of its last line
-- whose reply it has, or of the fork that made it, or 0; and where it stands
pub record Played : Type 0 where
  pub text : TextNo
  pub args : Data
  pub replies : List Reply
  pub turns : ℕ
  pub place : ℕ
  pub stage : Stage

-- as it begins
abbrev pub newborn : Begun → Played
newborn process = record {
  text = process.text;
  args = process.args;
  replies = [];
  turns = 0;
  place = process.place;
  stage = Computing;
}

-- the number of its next line
abbrev pub next_call : Played → CallNo
next_call r = record { 0 = length r.replies }

-- it receives the reply to its line of this place, and computes on
abbrev pub receives : ℕ → Reply → Played → Played
receives place reply r = record r { replies = r.replies ++ reply ∷ []; place = place; stage = Computing }

-- it stands elsewhere
abbrev pub moves_to : Stage → Played → Played
moves_to stage r = record r { stage = stage }

-- a process that has ended or faulted is over, and any other waits for its action to be carried out
abbrev pub at_action : Action → Stage
at_action (action.Make kind object) = Acting (action.Make kind object)
at_action (action.Call kind op object args) = Acting (action.Call kind op object args)
at_action (action.Fork text args place_on) = Acting (action.Fork text args place_on)
at_action action.Ended = Over action.Ended
at_action (action.Faulted fault) = Over (action.Faulted fault)

-- after a computation that used so many turns in all
abbrev pub stage_at : Halt → Stage
stage_at (halt.At act) = at_action act
stage_at halt.Paused = Computing

abbrev pub halted : ℕ → Halt → Played → Played
halted used at_halt r = record r { turns = used; stage = stage_at at_halt }

-- ---- what is said of a stage

-- it computes, or its action wasn't carried out
abbrev pub is_ready : Stage → Bool
is_ready Computing = true
is_ready (Acting act) = true
is_ready (Submitted act) = false
is_ready (Reading act) = false
is_ready (Asking act) = false
is_ready (Over act) = false

abbrev pub is_computing : Stage → Bool
is_computing Computing = true
is_computing (Acting act) = false
is_computing (Submitted act) = false
is_computing (Reading act) = false
is_computing (Asking act) = false
is_computing (Over act) = false

abbrev pub is_over : Stage → Bool
is_over Computing = false
is_over (Acting act) = false
is_over (Submitted act) = false
is_over (Reading act) = false
is_over (Asking act) = false
is_over (Over act) = true

abbrev pub is_fault : Action → Bool
is_fault (action.Make kind object) = false
is_fault (action.Call kind op object args) = false
is_fault (action.Fork text args place_on) = false
is_fault action.Ended = false
is_fault (action.Faulted fault) = true

abbrev pub has_faulted : Stage → Bool
has_faulted Computing = false
has_faulted (Acting act) = false
has_faulted (Submitted act) = false
has_faulted (Reading act) = false
has_faulted (Asking act) = false
has_faulted (Over act) = is_fault act
