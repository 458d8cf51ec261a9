-- What comes next in a run that is going, where the wire in use does nothing: the first of these that there is. An action is carried out, a
-- packet comes, a process that is ready is handed out, time passes.
use Rattle.std.specs.Prelude.{◌≡◌, ◌<◌, ◌≤◌, ◌==◌, ◌&&◌, ◌||◌, ◌+◌, ◌-◌, ◌^◌, ◌++◌, ◌∷◌, [], ℕ, Bool, not, false, true, nat_lt, min, if◌then◌else◌, List, None, Some, slice_index_or}
use Rattle.net_rules.specs.Flights.{first_ready}
use Rattle.orca_base.specs.declared.ids.ProcessNo.{ProcessNo}
use Rattle.world_core.specs.Stepping.{KeepsOut}
use Rattle.world_parts.specs.Choosing.{due_act, is_ready}
use Rattle.world_parts.specs.Seen.{Of, Seen, tasks_out}
use Rattle.world_rules.specs.declared.event.Event.{Event}
use Rattle.world_rules.specs.declared.event.Event.TheVariants as event
use Rattle.world_rules.specs.declared.event.Step.{Step}
use Rattle.world_rules.specs.Frame.{Frame}
use Rattle.world_rules.specs.Standings.{process_count}
use Rattle.world_rules.specs.Steps.{Next}
use Rattle.world_rules.specs.Worlds.{World, home_of}

-- no action waits to be carried out, and no packet can be delivered
pub record NothingDue (f : Frame) (w : World) : Type 0 where
  pub action : due_act f w ≡ None
  pub packet : first_ready w.flights ≡ None

-- no process is ready
abbrev pub NoneReady : {S : Type 0} → Frame → Seen S → World → Type 0
NoneReady f s w = (i : ℕ) → i < process_count f w → is_ready f s w i ≡ false

-- nothing is due, no process is ready, and no task is out
pub record IsQuietNow {S : Type 0} (f : Frame) (s : Seen S) (w : World) : Type 0 where
  pub due : NothingDue f w
  pub ready : NoneReady f s w
  pub out : tasks_out s ≡ 0

-- of what is due the event is the first: the action of the lowest process that is at one; where there is none, the packet of the lowest
-- number and copy that can be delivered; where there is none of these either, and nothing else to do or to wait for, a tick. Of what a wire
-- gives, which comes before all of these, nothing is said here
abbrev pub IsFirstDue : {S : Type 0} → Frame → Seen S → World → Event → Type 0
IsFirstDue f s w (event.Act process) = due_act f w ≡ Some process.0
IsFirstDue f s w (event.Deliver packet copy) = (due_act f w ≡ None) × (first_ready w.flights ≡ Some (packet, copy))
IsFirstDue f s w event.Tick = IsQuietNow f s w
IsFirstDue f s w (event.Crash node) = Unit {0}
IsFirstDue f s w (event.Suspect node) = Unit {0}
IsFirstDue f s w event.Swap = Unit {0}
IsFirstDue f s w (event.Burst process place turns) = ⊥

-- an event was done, which is the last step now, and was first of what is due where no wire gave it. The tasks that were out are out still,
-- but for those that it ends
pub record HasStepped {S : Type 0} (f : Frame) (old new : Seen S) : Type 0 where
  pub step : Step
  pub steps : new.steps ≡ old.steps ++ step ∷ []
  pub next : Of f old (λ w. (v : World) × Next f w step v)
  pub first : Of f old (λ w. IsFirstDue f old w step.event)
  pub out : KeepsOut f step.event old new

-- ---- which process is handed out

-- how many tasks of process i were handed out so far, where the list has that of each process: of those behind its end none was
abbrev pub tasks_of : List ℕ → ℕ → ℕ
tasks_of tasks i = slice_index_or tasks i 0

-- one more of this process was; it is counted up to 4,294,967,295
abbrev pub HasCounted : ProcessNo → List ℕ → List ℕ → Type 0
HasCounted process old new = (i : ℕ) → tasks_of new i ≡ (if i == process.0 then min (tasks_of old i + 1) (2 ^ 32 - 1) else tasks_of old i)

-- of the processes below n that are ready process i is the first: of it the fewest tasks were handed out; of those with as few it is on
-- this member, where one of them is; and of those that are there as it is, it has the lowest number
pub record IsChosen {S : Type 0} (f : Frame) (s : Seen S) (w : World) (tasks : List ℕ) (home n i : ℕ) : Type 0 where
  pub below : i < n
  pub ready : is_ready f s w i ≡ true
  pub fewest : (j : ℕ) → j < n → is_ready f s w j ≡ true → tasks_of tasks i ≤ tasks_of tasks j
  pub at_home :
      (j : ℕ) → j < n → is_ready f s w j ≡ true → tasks_of tasks j ≡ tasks_of tasks i → home_of f w j ≡ home → home_of f w i ≡ home
  pub lowest :
      (j : ℕ) → j < n → is_ready f s w j ≡ true → tasks_of tasks j ≡ tasks_of tasks i →
      (home_of f w i ≡ home → home_of f w j ≡ home) → i ≤ j

-- whether process i goes before process j of a lower number: fewer tasks of it were handed out, or as many, and it alone is on this member
abbrev pub goes_before : Frame → World → List ℕ → ℕ → ℕ → ℕ → Bool
goes_before f w tasks home i j =
    nat_lt (tasks_of tasks i) (tasks_of tasks j)
    || ((tasks_of tasks i == tasks_of tasks j) && ((home_of f w i == home) && not (home_of f w j == home)))
