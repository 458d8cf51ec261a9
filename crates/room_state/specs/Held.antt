-- What stands under a room's lock, and what each call leaves of it.
use Rattle.std.specs.Prelude.{◌≡◌, ◌⊎◌, ◌<◌, ◌∷◌, ◌&&◌, [], ℕ, suc, Bool, not, false, true, nat_lt, is_some, List, length, Option}
use Rattle.net_rules.specs.declared.asked.Asked.{Asked}
use Rattle.net_rules.specs.declared.asked.Asked.TheVariants.{Act}
use Rattle.net_rules.specs.declared.fate.WireAct.{WireAct}
use Rattle.net_rules.specs.Flights.{first_ready}
use Rattle.node_core.specs.Tasks.{Computed, Tasked}
use Rattle.node_parts.specs.Runs.{Run}
use Rattle.orca_base.specs.declared.ids.ProcessNo.{ProcessNo}
use Rattle.run_loop.specs.Driven.{told_more}
use Rattle.world_core.specs.Stepping.{HandsOutOf, IsAstray, is_going}
use Rattle.world_parts.specs.Choosing.{due_act, is_ready}
use Rattle.world_parts.specs.Seen.{Of, Seen, tasks_out}
use Rattle.world_rules.specs.Frame.{Frame}
use Rattle.world_rules.specs.Standings.{any_below, process_count, standing}
use Rattle.world_rules.specs.Worlds.{World}
use Rattle.room_state.specs.declared.phase.Phase.{Phase}
use Rattle.room_state.specs.declared.phase.Phase.TheVariants as phase
use Rattle.room_state.specs.Driven.{HasStopped, IsDriven, MayGoOn}
use Rattle.room_state.specs.Stated.{HasCounted, IsChosen, NoneReady, NothingDue}

-- the run's steps and the tasks that are out; which wire is in use, and whether it was asked what it does before the next event; what the
-- wires tell; and how many tasks of each process were handed out
pub record Held (S : Type 0) : Type 0 where
  pub seen : Seen S
  pub in_use : ℕ
  pub phase : Phase
  pub told : List (List Asked)
  pub tasks : List ℕ

-- in this phase
abbrev pub IsAt : {S : Type 0} → Run → Phase → Held S → Type 0
IsAt run phase.Unasked h = IsDriven run.frame h.seen h.in_use run.told h.told
IsAt run phase.Asked h = MayGoOn run.frame h.seen h.in_use run.told h.told
IsAt run phase.Stopped h = HasStopped run.frame h.seen run.told h.told

-- the steps are the run's, and the wires, which told `run.told` before it, were used in it
abbrev pub Holds : {S : Type 0} → Run → Held S → Type 0
Holds run h = IsAt run h.phase h

-- ---- what a take says, beside `HasStepped` where an event was done

-- where nothing is due, a process was handed out, first of those that are ready for a worker of this home; the wire in use was asked before
pub record HasHandedOut {S : Type 0} (f : Frame) (home : ℕ) (task : Tasked S) (s : Seen S) (tasks : List ℕ) (new : Held S) : Type 0 where
  pub process : ProcessNo
  pub out : HandsOutOf f process task s new.seen
  pub steps : new.seen.steps ≡ s.steps
  pub due : Of f s (NothingDue f)
  pub chosen : Of f s (λ w. IsChosen f s w tasks home (process_count f w) process.0)
  pub counted : HasCounted process tasks new.tasks
  pub asked : new.phase ≡ phase.Asked

-- nothing is due, no process is ready, and a task is out; the wire in use was asked before
pub record HasToWait {S : Type 0} (f : Frame) (s : Seen S) (tasks : List ℕ) (new : Held S) : Type 0 where
  pub seen : new.seen ≡ s
  pub counts : new.tasks ≡ tasks
  pub due : Of f s (NothingDue f)
  pub ready : Of f s (NoneReady f s)
  pub out : 0 < tasks_out s
  pub asked : new.phase ≡ phase.Asked

-- the wires tell what they told, but that the one in use may have been asked about an act before the next event
abbrev pub AreAskedOnce : {S : Type 0} → Seen S → ℕ → List (List Asked) → List (List Asked) → Type 0
AreAskedOnce s in_use old new =
    (new ≡ old) ⊎ ((answer : Option WireAct) × (new ≡ told_more in_use (Act (suc (length s.steps)) answer ∷ []) old))

-- memory lacked: no event comes any more, the world is as it was, and no wire was asked about a packet
pub record HasFailed {S : Type 0} (old new : Held S) : Type 0 where
  pub stopped : new.phase ≡ phase.Stopped
  pub seen : new.seen ≡ old.seen
  pub told : AreAskedOnce old.seen old.in_use old.told new.told

-- ---- what the other calls say

-- what was computed is handed back: no event comes any more, or the world has it astray
pub record IsHandedBack {S : Type 0} (run : Run) (done back : Computed S) (h : Held S) : Type 0 where
  pub given : back ≡ done
  pub because : (h.phase ≡ phase.Stopped) ⊎ IsAstray run.frame done back h.seen

abbrev pub is_stopped : Phase → Bool
is_stopped phase.Unasked = false
is_stopped phase.Asked = false
is_stopped phase.Stopped = true

-- the run is going, events come, a task is out, nothing is due, and no process is ready
abbrev pub is_idle : {S : Type 0} → Frame → Held S → World → Bool
is_idle f h w =
    not (is_stopped h.phase) && (is_going (standing f w) && (nat_lt 0 (tasks_out h.seen) && (not (is_some (due_act f w))
    && (not (is_some (first_ready w.flights)) && not (any_below (process_count f w) (is_ready f h.seen w))))))
