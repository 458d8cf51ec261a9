-- One member's copies as they are sent to a member that joins late. There are no single objects then.
use Rattle.std.specs.Prelude.{◌≡◌, ◌≤◌, ◌+◌, ℕ, List, [], map, refl, Some, length}
use Rattle.std.specs.List.{All}
use Rattle.value_core.specs.declared.action.Action.{Action}
use Rattle.value_core.specs.declared.action.Action.TheVariants as action
use Rattle.value_core.specs.declared.message.Message.{Message}
use Rattle.value_core.specs.History.{Objects, output_kind, output_object}
use Rattle.guard_queue.specs.declared.queue.Suspended.{Suspended}
use Rattle.guard_queue.specs.Fitting.{kind_at}
use Rattle.guard_queue.specs.Shown.{Rises}
use Rattle.object_manager.specs.declared.state.ObjectEntry.{ObjectEntry}
use Rattle.object_manager.specs.After.{Copied}
use Rattle.object_manager.specs.Limits.{most_objects, most_processes}

-- the number of applied entries, that of processes, the objects, and the suspended calls as messages
pub record Stated : Type 0 where
  pub applied : ℕ
  pub processes : ℕ
  pub objects : Objects
  pub queue : List Message

-- the objects of such entries
abbrev pub objects_of : List ObjectEntry → Objects
objects_of entries = map (λ (e : ObjectEntry). (e.object, record { kind = e.kind; state = e.state })) entries

-- the message of a suspended call
abbrev pub message_of : Suspended → Message
message_of call = record {
  process = call.process;
  call = call.call;
  action = action.Call call.kind call.op call.object call.args;
  performable = refl;
}

-- the copies' state
abbrev pub state_of : Copied → Stated
state_of c = record { applied = c.applied; processes = c.processes; objects = c.objects; queue = map message_of c.queue }

-- no object was counted as single, none is kept here, and no call waits on one
pub record HasNoSingles (c : Copied) : Type 0 where
  pub singles : c.singles ≡ []
  pub own : c.own ≡ []
  pub waits : c.waits ≡ []

-- the action is a call
abbrev pub IsCall : Action → Type 0
IsCall (action.Make kind object) = ⊥
IsCall (action.Call kind op object args) = Unit {0}
IsCall (action.Fork process args place_on) = ⊥
IsCall action.Ended = ⊥
IsCall (action.Faulted fault) = ⊥

-- copies can be in this state: the ids rise, the output object is there by its type, with no more others than a run may have, there
-- are from 1 to 256 processes, and what is suspended are calls
pub record IsState (s : Stated) : Type 0 where
  pub rises : Rises s.objects
  pub output : kind_at s.objects output_object ≡ Some output_kind
  pub few : length s.objects ≤ most_objects + 1
  pub some : 1 ≤ s.processes
  pub within : s.processes ≤ most_processes
  pub calls : All (λ (m : Message). IsCall m.action) s.queue
