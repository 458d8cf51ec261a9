-- How far a follower came beside a run, and behind it.
use Rattle.std.specs.Prelude.{◌≡◌, ◌++◌, ℕ, List, [], ◌∷◌}
use Rattle.object_manager.specs.After.{opening_copies}
use Rattle.net_rules.specs.declared.asked.Asked.{Asked}
use Rattle.net_rules.specs.declared.fate.Fate.{Fate}
use Rattle.world_rules.specs.declared.event.Step.{Step}
use Rattle.world_rules.specs.declared.standing.Standing.TheVariants.{Going}
use Rattle.world_rules.specs.Frame.{Frame}
use Rattle.world_rules.specs.Standings.{standing}
use Rattle.world_rules.specs.Steps.{Next, Replays}
use Rattle.world_rules.specs.Worlds.{World}
use Rattle.join_law.specs.Moments.{IsReached, Moment, RoundsUpTo, between}
use Rattle.join_law.specs.Rounds.{BesideRun, Rounding, Rounds}
use Rattle.follower_run.specs.Given.{fates_of}
use Rattle.follower_run.specs.Kept.{IsAt, IsLeftAt}
use Rattle.follower_run.specs.declared.rounds.FollowerRounds.{FollowerRounds}

-- before the first round
pub record IsFresh (nodes : ℕ) (s : FollowerRounds) : Type 0 where
  pub number : s.number ≡ nodes
  pub follower : s.follower ≡ opening_copies
  pub held : s.held.items ≡ []
  pub coming : s.coming.items ≡ []
  pub counts : (s.questions ≡ 0) × (s.states ≡ 0) × (s.rounds ≡ 0)

-- ---- between two rounds

-- so it is by all fates that begin with those that were given, whatever the wire answers later
abbrev pub Always : List Asked → (List Fate → Type 0) → Type 0
Always asked so = (later : List Fate) → so (fates_of asked ++ later)

-- nothing comes there, and some moves lead there
pub record Stands (f : Frame) (base told : List Asked) (steps : List Step) (s : FollowerRounds) (w : World) (u : Rounding) : Type 0 where
  pub replays : Replays f steps w
  pub reached : IsReached f w (between u)
  pub at : IsAt f.settings.nodes base told s (between u)

-- beside the run, behind the round of its last step, if that has one
pub record Beside (f : Frame) (start : ℕ) (base told : List Asked) (steps : List Step) (s : FollowerRounds) : Type 0 where
  pub world : World
  pub rounding : Rounding
  pub stands : Stands f base told steps s world rounding
  pub along : Always rounding.asked (λ fates. BesideRun f start fates steps world rounding)

-- behind the last step, before its round
pub record AfterEvent (f : Frame) (start : ℕ) (base told : List Asked) (steps : List Step) (s : FollowerRounds) : Type 0 where
  pub earlier : List Step
  pub step : Step
  pub steps_are : steps ≡ earlier ++ step ∷ []
  pub before : World
  pub world : World
  pub rounding : Rounding
  pub stands : Stands f base told steps s world rounding
  pub along : Always rounding.asked (λ fates. BesideRun f start fates earlier before rounding)
  pub happens : Next f before step world

-- ---- where it stops

-- within the rounds along these steps, or between two of them; and where all are done, when the run is over
pub record HasTravelled (f : Frame) (start : ℕ) (base told : List Asked) (steps : List Step) (s : FollowerRounds) : Type 0 where
  pub world : World
  pub replays : Replays f steps world
  pub moment : Moment
  pub left : IsLeftAt base told s moment
  pub rounds : RoundsUpTo f start (fates_of moment.rounding.asked) steps world moment

pub record HasArrived (f : Frame) (start : ℕ) (base told : List Asked) (steps : List Step) (s : FollowerRounds) : Type 0 where
  pub world : World
  pub replays : Replays f steps world
  pub over : standing f world ≡ Going → ⊥
  pub rounding : Rounding
  pub left : IsLeftAt base told s (between rounding)
  pub rounds : Rounds f start (fates_of rounding.asked) steps world rounding
