-- What each standing says of what is kept: the table of statuses, row by row (docs/FORMATS.md, Statuses).
use Rattle.std.specs.Prelude.{◌≡◌, ◌⊎◌, ◌<◌, ◌||◌, ℕ, Some, true, length, slice_get}
use Rattle.std.specs.List.{count_by}
use Rattle.orca_base.specs.declared.fault.FaultKind.{FaultKind}
use Rattle.orca_base.specs.declared.ids.ProcessNo.{ProcessNo}
use Rattle.orca_base.specs.declared.what.What.{What}
use Rattle.value_core.specs.History.{IsStuck, Process, processes_of}
use Rattle.value_core.specs.declared.action.Action.{Action}
use Rattle.value_core.specs.declared.meaning.Doing.TheVariants.{Busy}
use Rattle.world_rules.specs.declared.standing.Standing.{Standing}
use Rattle.world_rules.specs.declared.standing.Standing.TheVariants.{Limit, OutOfTurns, OutOfEvents, NoGroup, Faulted, Blocked, Finished, Going}
use Rattle.world_rules.specs.Frame.{Frame}
use Rattle.world_rules.specs.Worlds.{World}
use Rattle.world_facts.specs.Rows.{IsLimited, IsOver, IsUnlimited, LacksGroup, MayGoOn, is_limit}
use Rattle.world_rules.specs.Standings as rules
use Rattle.world_facts.specs.Replicated.{AllReplicated}
use Rattle.world_enough.specs.Bound.{GoesWell, GoesWellWithin, OutOfEventsRow, OutOfEventsWithin, bound_with_singles}
use Rattle.run_ends.specs.declared.ends.NodeEnd.{NodeEnd}
use Rattle.run_ends.specs.declared.ends.ProcessEnd.{ProcessEnd}
use Rattle.run_ends.specs.declared.ends.ProcessStanding.{ProcessStanding}
use Rattle.run_ends.specs.declared.ends.ProcessStanding.TheVariants as standing
use Rattle.orca_cli.specs.declared.kept.Kept.{Kept}

-- process i is kept, and stands so
abbrev pub StandsAt : Kept → ℕ → ProcessStanding → Type 0
StandsAt k i stands = (end : ProcessEnd) × (slice_get k.processes.items i ≡ Some end) × (end.standing ≡ stands)

abbrev pub NoneFaulted : Kept → Type 0
NoneFaulted k = (i : ℕ) (fault : FaultKind) → StandsAt k i (standing.Faulted fault) → ⊥

-- each process ended, but for those whose members crashed before they did
abbrev pub AllEnded : Kept → Type 0
AllEnded k =
    (i : ℕ) (end : ProcessEnd) → slice_get k.processes.items i ≡ Some end →
    (end.standing ≡ standing.Ended) ⊎ (end.standing ≡ standing.Crashed)

-- some process waits for the reply to an action, and none computes; and each that waits is stuck: by the history it is at a call whose
-- guards are all false
pub record SomeStuck (f : Frame) (k : Kept) : Type 0 where
  pub number : ℕ
  pub act : Action
  pub waits : StandsAt k number (standing.Waits act)
  pub none_busy : (i : ℕ) → StandsAt k i standing.Busy → ⊥
  pub stuck :
      (i : ProcessNo) (act : Action) → StandsAt k i.0 (standing.Waits act) → IsStuck f.performs f.computes k.book.items i

-- process i took all the turns that there are, and is busy then after its replies
pub record IsBusy (f : Frame) (k : Kept) (i : ℕ) : Type 0 where
  pub end : ProcessEnd
  pub kept : slice_get k.processes.items i ≡ Some end
  pub turns : end.turns ≡ f.settings.turns
  pub process : Process
  pub exists : slice_get (processes_of f.performs f.computes k.book.items) i ≡ Some process
  pub busy : f.computes.doing process.text (record { 0 = i }) process.args end.replies f.settings.turns ≡ Busy

-- some process is so, and each that took all its turns, of which the line tells the lowest
pub record SomeBusy (f : Frame) (k : Kept) : Type 0 where
  pub number : ℕ
  pub some : IsBusy f k number
  pub each : (i : ℕ) (end : ProcessEnd) → slice_get k.processes.items i ≡ Some end → end.turns ≡ f.settings.turns → IsBusy f k i

-- more than r members are crashed or outside
abbrev pub LostTooMany : Frame → Kept → Type 0
LostTooMany f k = f.settings.resilience < count_by (λ (n : NodeEnd). n.crashed || n.outside) k.nodes.items

-- ---- the rows

-- the row of a standing; the first that holds is the run's
abbrev pub KeptRow : Frame → World → Kept → Standing → Type 0
KeptRow f w k (Limit what number) = IsLimited f w what number
KeptRow f w k OutOfTurns = SomeBusy f k
KeptRow f w k OutOfEvents =
    OutOfEventsWithin (bound_with_singles f w) f w k.events.items × (AllReplicated f → OutOfEventsRow f w k.events.items)
KeptRow f w k NoGroup = LostTooMany f k × LacksGroup f w
KeptRow f w k Faulted = (i : ℕ) × (fault : FaultKind) × StandsAt k i (standing.Faulted fault)
KeptRow f w k Blocked = NoneFaulted k × SomeStuck f k
KeptRow f w k Finished = AllEnded k
KeptRow f w k Going = Unit {0}

-- no kept process took all its turns
abbrev pub HaveTurns : Frame → Kept → Type 0
HaveTurns f k = (i : ℕ) (end : ProcessEnd) → slice_get k.processes.items i ≡ Some end → end.turns < f.settings.turns

-- The other way, row by row, each where none above it holds. A limit was passed; a process took all its turns; there are as many events as
-- stated; there is no group; the run is over, and a process faulted, or none did and one waits; each process ended
pub record ShownRows (f : Frame) (w : World) (k : Kept) : Type 0 where
  pub limits : (what : What) (number : ℕ) → IsLimited f w what number → is_limit (rules.standing f w) ≡ true
  pub turns :
      IsUnlimited f w → (i : ℕ) (end : ProcessEnd) → slice_get k.processes.items i ≡ Some end → end.turns ≡ f.settings.turns →
      rules.standing f w ≡ OutOfTurns
  pub events : IsUnlimited f w → HaveTurns f k → length k.events.items ≡ f.settings.events → rules.standing f w ≡ OutOfEvents
  pub group : IsUnlimited f w → HaveTurns f k → length k.events.items < f.settings.events → LacksGroup f w → rules.standing f w ≡ NoGroup
  pub faulted :
      MayGoOn f w → IsOver f w → (i : ℕ) (fault : FaultKind) → StandsAt k i (standing.Faulted fault) → rules.standing f w ≡ Faulted
  pub blocked :
      MayGoOn f w → IsOver f w → NoneFaulted k → (i : ℕ) (act : Action) → StandsAt k i (standing.Waits act) →
      rules.standing f w ≡ Blocked
  pub finished : MayGoOn f w → AllEnded k → rules.standing f w ≡ Finished

-- ---- a faultless run: each fate is Pass, or a Hold for no ticks, and no crash, suspicion or exchange came

-- a process ended or faulted; or it waits for the reply to an action, and is stuck
abbrev pub IsEndedOrStuck : Frame → Kept → ProcessNo → ProcessStanding → Type 0
IsEndedOrStuck f k i standing.Ended = Unit {0}
IsEndedOrStuck f k i (standing.Faulted fault) = Unit {0}
IsEndedOrStuck f k i (standing.Waits act) = IsStuck f.performs f.computes k.book.items i
IsEndedOrStuck f k i standing.Busy = ⊥
IsEndedOrStuck f k i standing.Crashed = ⊥

-- it goes well: no tick, no more events than its bound, by which each call may cost an Ask and an Answer, but for one where it is out of
-- turns or at a limit, and a group; it is out of events only where no more than its bound were stated. So it does by the bound without
-- these where no site is chosen single. And where it is over each process ended or is stuck
pub record HasGoneWell (f : Frame) (w : World) (k : Kept) : Type 0 where
  pub well : GoesWellWithin (bound_with_singles f w) f w k.events.items
  pub replicated : AllReplicated f → GoesWell f w k.events.items
  pub stuck :
      IsOver f w → (i : ProcessNo) (end : ProcessEnd) → slice_get k.processes.items i.0 ≡ Some end → IsEndedOrStuck f k i end.standing
