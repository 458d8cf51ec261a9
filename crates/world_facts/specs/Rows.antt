-- What each standing of a run says of its members and processes: the table of standings, row by row, in plain words. So it is of every
-- world, in both directions.
use Rattle.std.specs.Prelude.{◌≡◌, ◌≤◌, ◌<◌, ◌⊎◌, ◌↔◌, ◌||◌, not, ℕ, Bool, true, false, length, [], None, Some}
use Rattle.orca_base.specs.declared.limits.TheConstants.{HISTORY_LINES, IDLE_TICKS}
use Rattle.orca_base.specs.declared.what.What.{What}
use Rattle.orca_base.specs.declared.what.What.TheVariants as what
use Rattle.book_law.specs.Singles.{waiting}
use Rattle.group_rules.specs.Member.{leads}
use Rattle.group_rules.specs.Sets.{count}
use Rattle.net_rules.specs.Flights.{first_ready}
use Rattle.world_rules.specs.declared.standing.Standing.{Standing}
use Rattle.world_rules.specs.declared.standing.Standing.TheVariants.{Limit, OutOfTurns, OutOfEvents, NoGroup, Faulted, Blocked, Finished, Going}
use Rattle.world_rules.specs.Frame.{Frame, group}
use Rattle.world_rules.specs.Nodes.{Node}
use Rattle.world_rules.specs.Played.{Played, Stage, has_faulted, is_over, is_ready}
use Rattle.world_rules.specs.Played.Stage.{Computing, Acting, Submitted, Reading, Asking, Over}
use Rattle.world_rules.specs.Standings.{is_over_run, is_quiet, limit_at, process_count, standing, waits_at_owner, waits_for_group}
use Rattle.world_rules.specs.Worlds.{Book, World, agreed, home_of, played_in}

-- ---- processes

-- process i exists, and its member began it, which knows it so
pub record IsBegun (f : Frame) (w : World) (i : ℕ) (r : Played) : Type 0 where
  pub exists : i < process_count f w
  pub here : played_in f w i ≡ Some r

-- its member lives
abbrev pub LivesAtHome : Frame → World → ℕ → Type 0
LivesAtHome f w i = w.lives (home_of f w i) ≡ true

-- it has ended, or its read is blocked, or its message waits in its member's queue, or its call does at the owner of its object
abbrev pub Rests : Frame → World → ℕ → Stage → Type 0
Rests f w i (Over act) = Unit {0}
Rests f w i (Reading act) = Unit {0}
Rests f w i (Submitted act) = 1 ≤ waiting i (w.nodes (home_of f w i)).copies.queue
Rests f w i (Asking act) = waits_at_owner f w i act ≡ true
Rests f w i Computing = ⊥
Rests f w i (Acting act) = ⊥

-- ---- members

-- it applied its whole log, and as many entries as any member; no message is pending with it, and none waits at it as sequencer
pub record IsDone (f : Frame) (w : World) (m : ℕ) (node : Node) : Type 0 where
  pub whole : node.member.applied ≡ length node.member.log
  pub most : node.member.applied ≡ length (agreed f w)
  pub pending : node.member.pending ≡ []
  pub waiting : leads (group f) m node.member ≡ true → node.member.waiting ≡ []

-- ---- what a moment and a run are

-- no packet is ready, and no process of a living member computes or is at an action that wasn't carried out
pub record IsQuiet (f : Frame) (w : World) : Type 0 where
  pub packets : first_ready w.flights ≡ None
  pub processes : (i : ℕ) (r : Played) → IsBegun f w i r → LivesAtHome f w i → is_ready r.stage ≡ false

-- each process of a living member has begun, and it has ended or faulted
abbrev pub AllEnded : Frame → World → Type 0
AllEnded f w =
    (i : ℕ) → i < process_count f w → LivesAtHome f w i →
    (r : Played) × IsBegun f w i r × (is_over r.stage ≡ true)

-- the moment is quiet, no packet is in flight, each living member is done, and each process on one has begun, and rests
pub record AllRest (f : Frame) (w : World) : Type 0 where
  pub quiet : IsQuiet f w
  pub flights : w.flights ≡ []
  pub members : (m : ℕ) → m < f.settings.nodes → w.lives m ≡ true → IsDone f w m (w.nodes m)
  pub processes :
      (i : ℕ) → i < process_count f w → LivesAtHome f w i →
      (r : Played) × IsBegun f w i r × Rests f w i r.stage

abbrev pub IsOver : Frame → World → Type 0
IsOver f w = AllEnded f w ⊎ AllRest f w

-- ---- the rows, each for itself, and that it isn't so

-- a living member stops before its next entry; or the book has 2,000,000 lines
abbrev pub IsLimited : Frame → World → What → ℕ → Type 0
IsLimited f w passed number =
    ((m : ℕ) × (m < f.settings.nodes) × (w.lives m ≡ true) × (limit_at f (w.nodes m) ≡ Some (passed, number)))
    ⊎ ((HISTORY_LINES ≤ length (Book f w)) × (passed ≡ what.HistoryLines) × (number ≡ HISTORY_LINES))

pub record IsUnlimited (f : Frame) (w : World) : Type 0 where
  pub members : (m : ℕ) → m < f.settings.nodes → w.lives m ≡ true → limit_at f (w.nodes m) ≡ None
  pub lines : length (Book f w) < HISTORY_LINES

-- a process has used its turns, and computes
abbrev pub SomeSpent : Frame → World → Type 0
SomeSpent f w = (i : ℕ) × (r : Played) × IsBegun f w i r × (f.settings.turns ≤ r.turns) × (r.stage ≡ Computing)

abbrev pub NoneSpent : Frame → World → Type 0
NoneSpent f w = (i : ℕ) (r : Played) → IsBegun f w i r → r.stage ≡ Computing → r.turns < f.settings.turns

-- more than r members are crashed or outside; and nobody lives, or the moment is quiet, 200 ticks were idle, and a process of a living
-- member waits for the group
abbrev pub SomeWaits : Frame → World → Type 0
SomeWaits f w = (i : ℕ) × (i < process_count f w) × LivesAtHome f w i × (waits_for_group f w i (played_in f w i) ≡ true)

pub record LacksGroup (f : Frame) (w : World) : Type 0 where
  pub lost : f.settings.resilience < count f.settings.nodes (λ m. not (w.lives m) || (w.nodes m).member.outside)
  pub idle :
      ((m : ℕ) → m < f.settings.nodes → w.lives m ≡ false) ⊎ (IsQuiet f w × SomeWaits f w × (IDLE_TICKS ≤ w.idle))

-- a process has ended by a fault, on whichever member
abbrev pub SomeFaulted : Frame → World → Type 0
SomeFaulted f w = (i : ℕ) × (r : Played) × IsBegun f w i r × (has_faulted r.stage ≡ true)

abbrev pub NoneFaulted : Frame → World → Type 0
NoneFaulted f w = (i : ℕ) (r : Played) → IsBegun f w i r → has_faulted r.stage ≡ false

-- a process of a living member hasn't ended
abbrev pub SomeLeft : Frame → World → Type 0
SomeLeft f w = (i : ℕ) × (r : Played) × IsBegun f w i r × LivesAtHome f w i × (is_over r.stage ≡ false)

-- ---- the table

-- none of the first four rows holds
pub record MayGoOn (f : Frame) (w : World) : Type 0 where
  pub limits : IsUnlimited f w
  pub turns : NoneSpent f w
  pub events : w.steps < f.settings.events
  pub group : LacksGroup f w → ⊥

-- what a standing says: its row holds, and none above it
abbrev pub Row : Frame → World → Standing → Type 0
Row f w (Limit passed number) = IsLimited f w passed number
Row f w OutOfTurns = IsUnlimited f w × SomeSpent f w
Row f w OutOfEvents = IsUnlimited f w × NoneSpent f w × (f.settings.events ≤ w.steps)
Row f w NoGroup = IsUnlimited f w × NoneSpent f w × (w.steps < f.settings.events) × LacksGroup f w
Row f w Faulted = MayGoOn f w × IsOver f w × SomeFaulted f w
Row f w Blocked = MayGoOn f w × IsOver f w × NoneFaulted f w × SomeLeft f w
Row f w Finished = MayGoOn f w × NoneFaulted f w × AllEnded f w
Row f w Going = MayGoOn f w × (IsOver f w → ⊥)

-- which limit it is, where members stop at several, is the first member's
abbrev pub is_limit : Standing → Bool
is_limit (Limit passed number) = true
is_limit OutOfTurns = false
is_limit OutOfEvents = false
is_limit NoGroup = false
is_limit Faulted = false
is_limit Blocked = false
is_limit Finished = false
is_limit Going = false

pub record ReadsStanding (f : Frame) (w : World) : Type 0 where
  pub quiet : (is_quiet f w ≡ true) ↔ IsQuiet f w
  pub over : (is_over_run f w ≡ true) ↔ IsOver f w
  -- where the run is over each process of a living member has begun
  pub begun : IsOver f w → (i : ℕ) → i < process_count f w → LivesAtHome f w i → (r : Played) × IsBegun f w i r
  -- the table, read in both directions
  pub says : (s : Standing) → standing f w ≡ s → Row f w s
  pub only : (s : Standing) → is_limit s ≡ false → Row f w s → standing f w ≡ s

abbrev pub AllRead : Type 0
AllRead = (f : Frame) (w : World) → ReadsStanding f w
