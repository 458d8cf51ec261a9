-- What a run with a follower leaves, and what its two wires were asked (docs/RUNTIME.md, A member that joins late).
use Rattle.std.specs.Prelude.{◌≡◌, ◌≤◌, ◌⊎◌, ◌++◌, ℕ, Bool, true, List, [], Some}
use Rattle.std.specs.List.{AllByRecursion}
use Rattle.net_rules.specs.declared.asked.Asked.{Asked}
use Rattle.net_rules.specs.declared.line.ScriptLine.{ScriptLine}
use Rattle.world_rules.specs.declared.event.Step.{Step}
use Rattle.world_rules.specs.Frame.{Frame}
use Rattle.world_rules.specs.Steps.{Replays}
use Rattle.world_rules.specs.Worlds.{World}
use Rattle.join_law.specs.Moments.{Moment, RoundsUpTo}
use Rattle.join_law.specs.Promise.{IsFollower}
use Rattle.join_law.specs.Rounds.{Rounds, ahead, can_answer, has_passed, last_number}
use Rattle.follower_run.specs.Given.{fates_of}
use Rattle.follower_run.specs.declared.joined.FollowerLeft.{FollowerLeft}
use Rattle.follower_run.specs.declared.joined.Joined.{Joined}
use Rattle.run_loop.specs.Asked.{HaveToldOn, WereAskedIn}
use Rattle.run_loop.specs.Left.{HasRun}
use Rattle.join_command.specs.Asked.{follower_line}
use Rattle.join_command.specs.Wired.{AreLoaded, OneWire, WasLoaded, Wires}
use Rattle.join_command.specs.declared.ending.FollowerEnd.{FollowerEnd}
use Rattle.join_command.specs.declared.running.JoinRun.{JoinRun}

-- what is kept of a follower that is left so
pub record IsKeptEnd (left : FollowerLeft) (end : FollowerEnd) : Type 0 where
  pub applied : end.applied ≡ left.follower.applied
  pub states : end.states ≡ left.states
  pub copies : end.copies ≡ left.follower.objects

-- what comes of a run that was followed so: its end and its follower's, with the line
pub record IsMadeOf (joined : Joined) (r : JoinRun) : Type 0 where
  pub left : FollowerLeft
  pub follower : joined.follower ≡ Some left
  pub end : joined.ran.end ≡ Some r.end
  pub standing : r.standing ≡ joined.ran.standing
  pub kept : IsKeptEnd left r.follower
  pub line : r.line.items ≡ follower_line left.follower.applied left.last
  pub whole : r.whole ≡ left.whole

-- ---- the rounds of the follower

-- The follower is where the rounds along these steps lead, which lead to this world, and its wire, which told `base` before, was asked just
-- their questions, the n-th of which is answered by the n-th fate. Its copies are those after a beginning of the agreed list. Where not all
-- rounds were done, it is at some moment of them, and else at their end: where each of its packets passes, and a member lives that isn't
-- outside, it applied at least as much as is told behind its own number
pub record HasFollowed (f : Frame) (start : ℕ) (steps : List Step) (w : World) (base told : List Asked) (end : FollowerEnd) (last : ℕ)
    (whole : Bool) : Type 0 where
  pub moment : Moment
  pub rounds : RoundsUpTo f start (fates_of moment.rounding.asked) steps w moment
  pub asked : told ≡ base ++ moment.rounding.asked
  pub applied : end.applied ≡ moment.rounding.copies.applied
  pub states : end.states ≡ moment.rounding.states
  pub copies : end.copies ≡ moment.rounding.copies.objects
  pub follower : IsFollower f w moment.rounding.copies
  pub last_is : last ≡ last_number f w (ahead f w f.settings.nodes)
  pub all : whole ≡ true → Rounds f start (fates_of moment.rounding.asked) steps w moment.rounding
  pub level :
      whole ≡ true → AllByRecursion (λ (one : Asked). has_passed one ≡ true) moment.rounding.asked → (m : ℕ) →
      can_answer f w m ≡ true → last ≤ end.applied

-- ---- what is left

-- It is the run, over wires of the group that told `before` and tell `after`, with its follower, whose wire told `base` and tells `told`;
-- and its line says how many entries the follower applied of how many
pub record IsJoinRun (f : Frame) (start : ℕ) (r : JoinRun) (before after : List (List Asked)) (base told : List Asked) : Type 0 where
  pub run : HasRun f r.standing before after r.end
  pub told_on : HaveToldOn before after
  pub last : ℕ
  pub followed : HasFollowed f start r.end.steps.items run.world base told r.follower last r.whole
  pub line : r.line.items ≡ follower_line r.follower.applied last

-- ---- where nothing is left

-- a wire that told `base` before was asked just the questions of the rounds along some steps of the run, up to some moment, the n-th of
-- which is answered by the n-th fate
pub record WasFollowed (f : Frame) (start : ℕ) (base told : List Asked) : Type 0 where
  pub steps : List Step
  pub world : World
  pub replays : Replays f steps world
  pub moment : Moment
  pub rounds : RoundsUpTo f start (fates_of moment.rounding.asked) steps world moment
  pub asked : told ≡ base ++ moment.rounding.asked

-- The run was begun: the follower's wire was loaded with its script, and then, maybe, the group's with the empty one, which was asked what
-- some steps of that run ask, and maybe once more about an act; the follower's was asked what the rounds along some steps ask
pub record WasBegun (f : Frame) (start : ℕ) (lines : List ScriptLine) (old new : Wires) (was is : OneWire) : Type 0 where
  pub loaded : WasLoaded lines was is
  pub group : (new ≡ old) ⊎ AreLoaded [] old new
  pub told : HaveToldOn old.told new.told
  pub asked : WereAskedIn f old.told new.told
  pub followed : WasFollowed f start was.told is.told

-- or the wires are as they were
abbrev pub HasBegun : Frame → ℕ → List ScriptLine → Wires → Wires → OneWire → OneWire → Type 0
HasBegun f start lines old new was is = ((new ≡ old) × (is ≡ was)) ⊎ WasBegun f start lines old new was is
