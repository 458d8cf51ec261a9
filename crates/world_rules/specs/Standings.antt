-- How a run stands: each row a sentence of its own, in the table's order (docs/RUNTIME.md, The world of a run).
use Rattle.std.specs.Prelude.{ℕ, zero, suc, ◌==◌, ◌&&◌, ◌||◌, not, is_some, nat_le, nat_lt, if◌then◌else◌, Bool, true, false, List, [], ◌∷◌, length, Option, None, Some}
use Rattle.orca_base.specs.declared.limits.TheConstants.{HISTORY_LINES, IDLE_TICKS}
use Rattle.orca_base.specs.declared.what.What.{What}
use Rattle.orca_base.specs.declared.what.What.TheVariants as what
use Rattle.value_core.specs.declared.action.Action.{Action}
use Rattle.value_core.specs.declared.action.Action.TheVariants as action
use Rattle.value_core.specs.declared.message.Message.{Message}
use Rattle.guard_queue.specs.declared.queue.Suspended.{Suspended}
use Rattle.object_manager.specs.Limits.{too_many}
use Rattle.book_law.specs.Singles.{waiting}
use Rattle.group_rules.specs.Member.{leads}
use Rattle.group_rules.specs.Sets.{count}
use Rattle.group_rules.specs.Steps.{is_empty}
use Rattle.net_rules.specs.Flights.{first_ready}
use Rattle.world_rules.specs.declared.standing.Standing.{Standing}
use Rattle.world_rules.specs.declared.standing.Standing.TheVariants.{Limit, OutOfTurns, OutOfEvents, NoGroup, Faulted, Blocked, Finished, Going}
use Rattle.world_rules.specs.Applying.{due_entries}
use Rattle.world_rules.specs.Frame.{Frame, group}
use Rattle.world_rules.specs.Nodes.{Node}
use Rattle.world_rules.specs.Played.{Played, Stage, has_faulted, is_computing, is_over, is_ready}
use Rattle.world_rules.specs.Played.Stage.{Computing, Acting, Submitted, Reading, Asking, Over}
use Rattle.world_rules.specs.Processes.{owner_in}
use Rattle.world_rules.specs.Worlds.{Book, World, agreed, home_of, played_in, processes_of}

-- ---- members and processes

-- for each number below n, and for some
abbrev pub all_below : ℕ → (ℕ → Bool) → Bool
all_below zero test = true
all_below (suc n) test = all_below n test && test n

abbrev pub any_below : ℕ → (ℕ → Bool) → Bool
any_below zero test = false
any_below (suc n) test = any_below n test || test n

-- each living member, each process, each process on a living member
abbrev pub each_living : Frame → World → (Node → Bool) → Bool
each_living f w test = all_below f.settings.nodes (λ m. not (w.lives m) || test (w.nodes m))

abbrev pub process_count : Frame → World → ℕ
process_count f w = length (processes_of f w)

abbrev pub lives_at_home : Frame → World → ℕ → Bool
lives_at_home f w i = w.lives (home_of f w i)

abbrev pub each_process : Frame → World → (ℕ → Option Played → Bool) → Bool
each_process f w test = all_below (process_count f w) (λ i. not (lives_at_home f w i) || test i (played_in f w i))

abbrev pub some_process : Frame → World → (ℕ → Option Played → Bool) → Bool
some_process f w test = any_below (process_count f w) (λ i. lives_at_home f w i && test i (played_in f w i))

-- a process that its member hasn't begun yet has no stage
abbrev pub stands : (Stage → Bool) → Option Played → Bool
stands test None = false
stands test (Some r) = test r.stage

-- ---- a moment is quiet: no packet can be delivered, and no process of a living member computes or is at an action that wasn't carried out

abbrev pub is_quiet : Frame → World → Bool
is_quiet f w = not (is_some (first_ready w.flights)) && not (some_process f w (λ i r. stands is_ready r))

-- ---- Limit

abbrev pub limit_before : Frame → Node → List Message → Option (What × ℕ)
limit_before f node [] = None
limit_before f node (x ∷ xs) = too_many f.performs node.copies x.action

-- the limit that stops a member before its next accepted entry
abbrev pub limit_at : Frame → Node → Option (What × ℕ)
limit_at f node = limit_before f node (due_entries node)

abbrev pub first_of : Option (What × ℕ) → Option (What × ℕ) → Option (What × ℕ)
first_of None other = other
first_of (Some one) other = Some one

abbrev pub limit_below : Frame → World → ℕ → Option (What × ℕ)
limit_below f w zero = None
limit_below f w (suc m) = first_of (limit_below f w m) (if w.lives m then limit_at f (w.nodes m) else None)

abbrev pub lines_limit : Frame → World → Option (What × ℕ)
lines_limit f w = if nat_le HISTORY_LINES (length (Book f w)) then Some (what.HistoryLines, HISTORY_LINES) else None

-- a living member's next application would make the 4,097th object or the 257th process, or the book has 2,000,000 lines
abbrev pub limit : Frame → World → Option (What × ℕ)
limit f w = first_of (limit_below f w f.settings.nodes) (lines_limit f w)

-- ---- OutOfTurns: a process has used its turns, and isn't at an action

abbrev pub has_no_turns : Frame → Option Played → Bool
has_no_turns f None = false
has_no_turns f (Some r) = nat_le f.settings.turns r.turns && is_computing r.stage

abbrev pub is_out_of_turns : Frame → World → Bool
is_out_of_turns f w = any_below (process_count f w) (λ i. has_no_turns f (played_in f w i))

-- ---- OutOfEvents: the stated number of events has happened

abbrev pub is_out_of_events : Frame → World → Bool
is_out_of_events f w = nat_le f.settings.events w.steps

-- ---- suspended calls

-- a call of the process is among these
abbrev pub waits_in : ℕ → List Suspended → Bool
waits_in i queue = nat_lt 0 (waiting i queue)

-- process i's call on this object stands in the queue of a living owner that isn't outside
abbrev pub waits_at_owner : Frame → World → ℕ → Action → Bool
waits_at_owner f w i (action.Call kind op object args) =
    let owner = owner_in (processes_of f w) object in
    w.lives owner && (not (w.nodes owner).member.outside && waits_in i (w.nodes owner).copies.waits)
waits_at_owner f w i (action.Make kind object) = false
waits_at_owner f w i (action.Fork text args place_on) = false
waits_at_owner f w i action.Ended = false
waits_at_owner f w i (action.Faulted fault) = false

-- ---- NoGroup

-- a process waits for the group: for a logged operation, its own fork among them, or a read that its member hasn't performed; or for a call
-- on a single object that has no reply and stands in the queue of no living owner that isn't outside
abbrev pub waits_for_group_at : Frame → World → ℕ → Stage → Bool
waits_for_group_at f w i (Submitted act) = true
waits_for_group_at f w i (Reading act) = true
waits_for_group_at f w i (Asking act) = not (waits_at_owner f w i act)
waits_for_group_at f w i Computing = false
waits_for_group_at f w i (Acting act) = false
waits_for_group_at f w i (Over act) = false

abbrev pub waits_for_group : Frame → World → ℕ → Option Played → Bool
waits_for_group f w i None = true
waits_for_group f w i (Some r) = waits_for_group_at f w i r.stage

-- more than r members are crashed or outside
abbrev pub has_lost_too_many : Frame → World → Bool
has_lost_too_many f w =
    nat_lt f.settings.resilience (count f.settings.nodes (λ m. not (w.lives m) || (w.nodes m).member.outside))

abbrev pub nobody_lives : Frame → World → Bool
nobody_lives f w = all_below f.settings.nodes (λ m. not (w.lives m))

-- and either no member lives, or the moment is quiet, a living process waits for the group, and the last 200 ticks were idle
abbrev pub is_no_group : Frame → World → Bool
is_no_group f w =
    has_lost_too_many f w
    && (nobody_lives f w || (is_quiet f w && (some_process f w (waits_for_group f w) && nat_le IDLE_TICKS w.idle)))

-- ---- whether the run is over

abbrev pub all_ended : Frame → World → Bool
all_ended f w = each_process f w (λ i r. stands is_over r)

-- a member has applied its whole log, and as many entries as any member ever applied; no message is pending with it, or waits at it as
-- sequencer
abbrev pub is_done : Frame → World → ℕ → Node → Bool
is_done f w m node =
    ((node.member.applied == length node.member.log) && (node.member.applied == length (agreed f w)))
    && (is_empty node.member.pending && (not (leads (group f) m node.member) || is_empty node.member.waiting))

abbrev pub members_done : Frame → World → Bool
members_done f w = all_below f.settings.nodes (λ m. not (w.lives m) || is_done f w m (w.nodes m))

-- a process has ended, or is suspended, or waits with a read whose guards are false
abbrev pub rests_at : Frame → World → ℕ → Stage → Bool
rests_at f w i (Over act) = true
rests_at f w i (Reading act) = true
rests_at f w i (Submitted act) = waits_in i (w.nodes (home_of f w i)).copies.queue
rests_at f w i (Asking act) = waits_at_owner f w i act
rests_at f w i Computing = false
rests_at f w i (Acting act) = false

abbrev pub rests : Frame → World → ℕ → Option Played → Bool
rests f w i None = false
rests f w i (Some r) = rests_at f w i r.stage

-- the moment is quiet, no packet is held, each living member is done, and each process on one rests
abbrev pub all_rest : Frame → World → Bool
all_rest f w = (is_quiet f w && is_empty w.flights) && (members_done f w && each_process f w (rests f w))

-- the run is over where each process on a living member has ended or faulted, or all rest
abbrev pub is_over_run : Frame → World → Bool
is_over_run f w = all_ended f w || all_rest f w

-- ---- Faulted, Blocked, Finished

-- a process has ended by a fault, on a crashed member too
abbrev pub has_fault : Frame → World → Bool
has_fault f w = any_below (process_count f w) (λ i. stands has_faulted (played_in f w i))

-- the run is over, and a process has ended by a fault
abbrev pub is_faulted : Frame → World → Bool
is_faulted f w = is_over_run f w && has_fault f w

-- the run is over, and a living process hasn't ended
abbrev pub is_blocked_run : Frame → World → Bool
is_blocked_run f w = is_over_run f w && not (all_ended f w)

-- ---- the first of these that holds

abbrev pub after_limit : Frame → World → Option (What × ℕ) → Standing
after_limit f w (Some passed) = Limit passed.0 passed.1
after_limit f w None =
    if is_out_of_turns f w then OutOfTurns
    else (if is_out_of_events f w then OutOfEvents
    else (if is_no_group f w then NoGroup
    else (if is_faulted f w then Faulted
    else (if is_blocked_run f w then Blocked
    else (if is_over_run f w then Finished else Going)))))

abbrev pub standing : Frame → World → Standing
standing f w = after_limit f w (limit f w)
