-- What a run leaves beside which a follower went: the command's rounds along its steps.
use Rattle.std.specs.Prelude.{◌≡◌, ◌≤◌, ◌++◌, ℕ, true, List, IfSome, Option, None, Some}
use Rattle.std.specs.List.{AllByRecursion}
use Rattle.net_rules.specs.declared.asked.Asked.{Asked}
use Rattle.run_loop.specs.declared.ran.Ran.{Ran}
use Rattle.world_rules.specs.declared.event.Step.{Step}
use Rattle.world_rules.specs.declared.standing.Standing.TheVariants.{Going}
use Rattle.world_rules.specs.Frame.{Frame}
use Rattle.world_rules.specs.Standings.{standing}
use Rattle.world_rules.specs.Steps.{Replays}
use Rattle.world_rules.specs.Worlds.{World}
use Rattle.join_law.specs.Moments.{Moment, RoundsUpTo}
use Rattle.join_law.specs.Promise.{IsFollower}
use Rattle.join_law.specs.Rounds.{Rounds, ahead, can_answer, has_passed, last_number}
use Rattle.follower_run.specs.Given.{fates_of}
use Rattle.follower_run.specs.declared.joined.FollowerLeft.{FollowerLeft}
use Rattle.follower_run.specs.declared.joined.Joined.{Joined}

-- all rounds were done along these steps: the run was over, and the follower is where they end. Where each packet that was asked about
-- passes, it applied as much as each living member that isn't outside, and, where there is one, as much as the number that is told behind
-- its own
pub record AllDone (f : Frame) (start : ℕ) (steps : List Step) (w : World) (end : FollowerLeft) (v : Moment) : Type 0 where
  pub over : standing f w ≡ Going → ⊥
  pub rounds : Rounds f start (fates_of v.rounding.asked) steps w v.rounding
  pub caught :
      AllByRecursion (λ (one : Asked). has_passed one ≡ true) v.rounding.asked → (m : ℕ) → can_answer f w m ≡ true →
      (w.nodes m).member.applied ≤ end.follower.applied
  pub level :
      AllByRecursion (λ (one : Asked). has_passed one ≡ true) v.rounding.asked → (m : ℕ) → can_answer f w m ≡ true →
      end.last ≤ end.follower.applied

-- the follower is where the rounds along these steps lead, its wire, which told `base` before, was asked just their questions, and each was
-- answered by its fate. It stands at some moment of the rounds where memory lacked, and at their end else
pub record HasFollowed (f : Frame) (start : ℕ) (base told : List Asked) (steps : List Step) (end : FollowerLeft) : Type 0 where
  pub world : World
  pub replays : Replays f steps world
  pub moment : Moment
  pub rounds : RoundsUpTo f start (fates_of moment.rounding.asked) steps world moment
  pub asked : told ≡ base ++ moment.rounding.asked
  pub copies : end.follower ≡ moment.rounding.copies
  pub states : end.states ≡ moment.rounding.states
  pub last : end.last ≡ last_number f world (ahead f world f.settings.nodes)
  pub follower : IsFollower f world end.follower
  pub whole : end.whole ≡ true → AllDone f start steps world end moment

-- along the steps of the run that is kept; where it didn't begin nothing is kept, and its wire was asked nothing
abbrev pub HasFollowedIf : Frame → ℕ → List Asked → List Asked → Ran → Option FollowerLeft → Type 0
HasFollowedIf f start base told ran None = (ran.end ≡ None) × (told ≡ base)
HasFollowedIf f start base told ran (Some end) =
    (steps : List Step) × IfSome ran.end (λ kept. kept.steps.items ≡ steps) × HasFollowed f start base told steps end

abbrev pub HasJoined : Frame → ℕ → List Asked → List Asked → Joined → Type 0
HasJoined f start base told joined = HasFollowedIf f start base told joined.ran joined.follower
