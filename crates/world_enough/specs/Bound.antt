-- How many events are enough (docs/EVENTS.md): the bound, and what is so of a faultless run and of one that is out of events.
use Rattle.std.specs.Prelude.{◌≡◌, ◌≤◌, ◌<◌, ◌⊎◌, ◌+◌, ◌*◌, ◌/◌, ℕ, Bool, true, false, List, length}
use Rattle.orca_base.specs.declared.limits.TheConstants.{BURST_TURNS}
use Rattle.value_core.specs.Meaning.{Computes, Performs}
use Rattle.group_rules.specs.Sets.{count}
use Rattle.world_rules.specs.declared.event.Step.{Step}
use Rattle.world_rules.specs.declared.standing.Standing.{Standing}
use Rattle.world_rules.specs.declared.standing.Standing.TheVariants.{Limit, OutOfTurns, OutOfEvents, NoGroup, Faulted, Blocked, Finished, Going}
use Rattle.world_rules.specs.Frame.{AreSettings, Frame}
use Rattle.world_rules.specs.Played.{Stage}
use Rattle.world_rules.specs.Played.Stage.{Computing, Acting, Submitted, Reading, Asking, Over}
use Rattle.world_rules.specs.Standings.{process_count, standing, stands}
use Rattle.world_rules.specs.Worlds.{Book, World, opening_world, played_in}
use Rattle.world_facts.specs.Ends.{turns_in}
use Rattle.world_facts.specs.Logs.{longest_log}
use Rattle.world_facts.specs.Replicated.{AllReplicated}
use Rattle.world_enough.specs.Faultless.{IsFaulty, LeadsFirst, NoTick, OfFaultlessRuns, delivered, worked}
use Rattle.world_enough.specs.Paid.{IsSpent, sum}
use Rattle.world_enough.specs.Tie.{EndsQuiet}

-- ---- the bound

-- a process is at an action, carried out or not, that has no reply
abbrev pub is_at_action : Stage → Bool
is_at_action Computing = false
is_at_action (Acting act) = true
is_at_action (Submitted act) = true
is_at_action (Reading act) = true
is_at_action (Asking act) = true
is_at_action (Over act) = false

-- C: the lines of the book, and the processes at an action
abbrev pub calls_of : Frame → World → ℕ
calls_of f w = length (Book f w) + count (process_count f w) (λ i. stands is_at_action (played_in f w i))

-- T: the turns of all processes
abbrev pub all_turns : Frame → World → ℕ
all_turns f w = sum (process_count f w) (λ i. turns_in (played_in f w i))

-- with N members and L entries: 6 N (L + 1) letters of the group; so many events for each call; a burst for each 10,000 turns; and one for
-- each process, in which it ends
abbrev pub bound_by : ℕ → Frame → World → ℕ
bound_by each f w =
    (6 * (f.settings.nodes * (longest_log f w + 1)) + each * calls_of f w) + (all_turns f w / BURST_TURNS + process_count f w)

-- where no object is single: an act and a burst for each call
abbrev pub bound : Frame → World → ℕ
bound f w = bound_by 2 f w

-- where objects may be single: an Ask and an Answer too
abbrev pub bound_with_singles : Frame → World → ℕ
bound_with_singles f w = bound_by 4 f w

-- ---- its parts

-- bursts and acts
abbrev pub most_work : Frame → World → ℕ
most_work f w = (2 * calls_of f w + process_count f w) + all_turns f w / BURST_TURNS

-- letters of the group that are delivered, by the sequencer's log
abbrev pub most_deliveries : Frame → World → ℕ
most_deliveries f w = 6 * (f.settings.nodes * (length (w.nodes 0).member.log + 1))

-- Asks and Answers are at most so many for each call: two, and none where no object is single
abbrev pub AsksCost : Frame → ℕ → Type 0
AsksCost f each = (each ≡ 2) ⊎ (AllReplicated f × (each ≡ 0))

-- all packets that are delivered
abbrev pub most_packets : ℕ → Frame → World → ℕ
most_packets each f w = most_deliveries f w + each * calls_of f w

abbrev pub most_events : ℕ → Frame → World → ℕ
most_events each f w = most_packets each f w + most_work f w

-- at most so many, and one more where a process has no turns left
abbrev pub IsWithin : Frame → World → ℕ → ℕ → Type 0
IsWithin f w n most = (n ≤ most) ⊎ (IsSpent f w × (n ≤ most + 1))

abbrev pub FaultlessRunsDeliver : Performs → Computes → Type 0
FaultlessRunsDeliver p q = OfFaultlessRuns p q (λ f w steps. (each : ℕ) → AsksCost f each → delivered steps ≤ most_packets each f w)

abbrev pub FaultlessRunsWork : Performs → Computes → Type 0
FaultlessRunsWork p q = OfFaultlessRuns p q (λ f w steps. IsWithin f w (worked steps) (most_work f w))

abbrev pub FaultlessRunsNeedNoMore : Performs → Computes → Type 0
FaultlessRunsNeedNoMore p q =
    OfFaultlessRuns p q (λ f w steps. (each : ℕ) → AsksCost f each → IsWithin f w (length steps) (most_events each f w))

-- ---- how a faultless run stands

-- out of turns; or at a limit, which stands above that in the table
abbrev pub IsOutOfTurns : Standing → Type 0
IsOutOfTurns (Limit what number) = Unit {0}
IsOutOfTurns OutOfTurns = Unit {0}
IsOutOfTurns OutOfEvents = ⊥
IsOutOfTurns NoGroup = ⊥
IsOutOfTurns Faulted = ⊥
IsOutOfTurns Blocked = ⊥
IsOutOfTurns Finished = ⊥
IsOutOfTurns Going = ⊥

-- neither out of events nor without a group: such a run ended by what its program means, or at a limit, or goes on
abbrev pub Ends : Standing → Type 0
Ends (Limit what number) = Unit {0}
Ends OutOfTurns = Unit {0}
Ends OutOfEvents = ⊥
Ends NoGroup = ⊥
Ends Faulted = Unit {0}
Ends Blocked = Unit {0}
Ends Finished = Unit {0}
Ends Going = Unit {0}

-- no tick came, and every member lives. There were at most so many events, and one more where it is out of turns or at a limit; where more
-- were stated it is not out of events; it never lacks a group; and where it is quiet at no limit it is over
pub record GoesWellWithin (most : ℕ) (f : Frame) (w : World) (steps : List Step) : Type 0 where
  pub ticks : NoTick steps
  pub lives : (m : ℕ) → w.lives m ≡ true
  pub bounded : (length steps ≤ most) ⊎ (IsOutOfTurns (standing f w) × (length steps ≤ most + 1))
  pub ends : most < f.settings.events → Ends (standing f w)
  pub group : standing f w ≡ NoGroup → ⊥
  pub quiet : EndsQuiet f w

abbrev pub GoesWell : Frame → World → List Step → Type 0
GoesWell f w steps = GoesWellWithin (bound f w) f w steps

-- an act and a burst for each call, and what its Ask and its Answer cost
abbrev pub FaultlessRunsGoWell : Performs → Computes → Type 0
FaultlessRunsGoWell p q =
    OfFaultlessRuns p q (λ f w steps. (each : ℕ) → AsksCost f each → GoesWellWithin (bound_by (each + 2) f w) f w steps)

-- ---- any run in which of the packets that are ready the first comes

abbrev pub OfRunsInOrder : Performs → Computes → (Frame → World → List Step → Type 0) → Type 0
OfRunsInOrder p q P =
    (f : Frame) → f.performs ≡ p → f.computes ≡ q → AreSettings f.settings → (steps : List Step) (w : World) →
    LeadsFirst f (opening_world f) steps w → P f w steps

-- those by settings by which no object is single
abbrev pub OfReplicatedRuns : Performs → Computes → (Frame → World → List Step → Type 0) → Type 0
OfReplicatedRuns p q P =
    (f : Frame) → f.performs ≡ p → f.computes ≡ q → AreSettings f.settings → AllReplicated f → (steps : List Step) (w : World) →
    LeadsFirst f (opening_world f) steps w → P f w steps

-- the row of a run that is out of events: as many as stated, and it was faulty, or those stated are no more than so many
pub record OutOfEventsWithin (most : ℕ) (f : Frame) (w : World) (steps : List Step) : Type 0 where
  pub all : length steps ≡ f.settings.events
  pub cause : IsFaulty steps ⊎ (f.settings.events ≤ most)

abbrev pub OutOfEventsRow : Frame → World → List Step → Type 0
OutOfEventsRow f w steps = OutOfEventsWithin (bound f w) f w steps

-- `well`, one that isn't faulty goes well; `row`, where it is out of events its row stands
pub record IsEnoughWithin (most : ℕ) (f : Frame) (w : World) (steps : List Step) : Type 0 where
  pub well : (IsFaulty steps → ⊥) → GoesWellWithin most f w steps
  pub row : standing f w ≡ OutOfEvents → OutOfEventsWithin most f w steps

abbrev pub IsEnough : Frame → World → List Step → Type 0
IsEnough f w steps = IsEnoughWithin (bound f w) f w steps

abbrev pub EventsAreEnough : Performs → Computes → Type 0
EventsAreEnough p q = OfReplicatedRuns p q (λ f w steps. IsEnough f w steps)

-- and with single objects
abbrev pub EventsAreEnoughWithSingles : Performs → Computes → Type 0
EventsAreEnoughWithSingles p q = OfRunsInOrder p q (λ f w steps. IsEnoughWithin (bound_with_singles f w) f w steps)
