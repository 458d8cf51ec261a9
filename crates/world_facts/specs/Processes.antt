-- What is so of the processes at their members in every run, whatever the group did: a process has a member, who knows it has counted it,
-- it takes no more turns than it may, where it isn't computing it stands at what it does next, and a read that waits is blocked.
use Rattle.std.specs.Prelude.{◌≡◌, ◌≤◌, ◌<◌, ◌+◌, ◌++◌, ℕ, Bool, true, false, List, Some, length, slice_get}
use Rattle.orca_base.specs.declared.ids.ProcessNo.{ProcessNo}
use Rattle.orca_base.specs.declared.limits.TheConstants.{PROCESSES}
use Rattle.value_core.specs.declared.action.Action.{Action}
use Rattle.value_core.specs.declared.action.Action.TheVariants as action
use Rattle.value_core.specs.declared.meaning.Doing.TheVariants as doing
use Rattle.value_core.specs.declared.message.Message.{Message}
use Rattle.object_manager.specs.After.{opening_copies}
use Rattle.book_law.specs.Passes.{Test, after_all}
use Rattle.world_rules.specs.declared.event.Step.{Step}
use Rattle.guard_queue.specs.Settles.{is_blocked}
use Rattle.world_rules.specs.Bursts.{read_on}
use Rattle.world_rules.specs.Frame.{Frame}
use Rattle.world_rules.specs.Played.{Played, Stage}
use Rattle.world_rules.specs.Played.Stage.{Computing, Acting, Submitted, Reading, Asking, Over}
use Rattle.world_rules.specs.Processes.{Begun, first_process, processes_in}
use Rattle.world_rules.specs.Steps.{Replays}
use Rattle.world_rules.specs.Worlds.{World, home_of}

-- it has ended, or faulted
abbrev pub is_last : Action → Bool
is_last (action.Make kind object) = false
is_last (action.Call kind op object args) = false
is_last (action.Fork text args place_on) = false
is_last action.Ended = true
is_last (action.Faulted fault) = true

-- process i, which is r, does this next, after its replies and its turns, of which it has one left at least
pub record DoesNext (f : Frame) (i : ProcessNo) (r : Played) (act : Action) : Type 0 where
  pub turns : r.turns < f.settings.turns
  pub next : f.computes.doing r.text i r.args r.replies (r.turns + 1) ≡ doing.At act

-- so it stands there
abbrev pub StandsAt : Frame → ProcessNo → Played → Stage → Type 0
StandsAt f i r Computing = Unit {0}
StandsAt f i r (Acting act) = DoesNext f i r act × (is_last act ≡ false)
StandsAt f i r (Submitted act) = DoesNext f i r act × (is_last act ≡ false)
StandsAt f i r (Reading act) = DoesNext f i r act × (is_last act ≡ false)
StandsAt f i r (Asking act) = DoesNext f i r act × (is_last act ≡ false)
StandsAt f i r (Over act) = DoesNext f i r act × (is_last act ≡ true)

pub record IsPlayed (f : Frame) (i : ProcessNo) (r : Played) : Type 0 where
  pub turns : r.turns ≤ f.settings.turns
  pub stands : StandsAt f i r r.stage

-- `few`, copies count no more processes than there may be; `fresh`, a member knows no process beyond those that its copies count;
-- `blocked`, a read that waits is blocked on its member's copies, also where objects are single
pub record ProcessesStand (f : Frame) (w : World) : Type 0 where
  pub few : (m : ℕ) → (w.nodes m).copies.processes ≤ PROCESSES
  pub fresh : (m i : ℕ) (r : Played) → (w.nodes m).played i ≡ Some r → i < (w.nodes m).copies.processes
  pub each : (m : ℕ) (i : ProcessNo) (r : Played) → (w.nodes m).played i.0 ≡ Some r → IsPlayed f i r
  pub blocked :
      (m i : ℕ) (r : Played) (act : Action) → (w.nodes m).played i ≡ Some r → r.stage ≡ Reading act →
      is_blocked (read_on f.performs (w.nodes m).copies.objects act) ≡ true

abbrev pub AllStand : Type 0
AllStand = (f : Frame) (steps : List Step) (w : World) → Replays f steps w → ProcessesStand f w

-- each process is on a member, in whatever world
abbrev pub HomesAreMembers : Type 0
HomesAreMembers = (f : Frame) (w : World) (i : ℕ) → 0 < f.settings.nodes → home_of f w i < f.settings.nodes

-- ---- the processes of a list of entries

-- process 0 is there first, a longer list begins with the same processes, and there are as many as copies count after these entries
pub record EntriesBegin (f : Frame) (list : List Message) : Type 0 where
  pub first : slice_get (processes_in f list) 0 ≡ Some (first_process f)
  pub longer : (more : List Message) → (later : List Begun) × (processes_in f (list ++ more) ≡ processes_in f list ++ later)
  pub counted : (single : Test) → length (processes_in f list) ≡ (after_all single f.performs opening_copies list).processes

abbrev pub AllBegin : Type 0
AllBegin = (f : Frame) (list : List Message) → EntriesBegin f list
