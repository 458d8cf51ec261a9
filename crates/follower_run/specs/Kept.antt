-- How what is kept of a follower's rounds stands for a moment of the rounds of the definitions.
use Rattle.std.specs.Prelude.{◌≡◌, ◌++◌, ℕ, suc, List, map, length}
use Rattle.net_rules.specs.Flights.{AreBelow, seen}
use Rattle.net_rules.specs.declared.asked.Asked.{Asked}
use Rattle.join_law.specs.Moments.{Moment}
use Rattle.follower_run.specs.Given.{fates_of}
use Rattle.follower_run.specs.Posts.{AllCanBeRead, spelled}
use Rattle.follower_run.specs.declared.rounds.FollowerRounds.{FollowerRounds}

-- beside a run of so many members: the wire told `base` before the rounds, and tells `told` now; its questions since are those by this
-- moment, each of which gave a fate
pub record IsAt (nodes : ℕ) (base told : List Asked) (s : FollowerRounds) (v : Moment) : Type 0 where
  pub number : s.number ≡ nodes
  pub copies : s.follower ≡ v.rounding.copies
  pub states : s.states ≡ v.rounding.states
  pub rounds : s.rounds ≡ v.rounding.rounds
  pub tells : told ≡ base ++ v.rounding.asked
  pub given : length (fates_of v.rounding.asked) ≡ length v.rounding.asked
  pub questions : s.questions ≡ length v.rounding.asked
  pub held : s.held.items ≡ map (seen spelled) v.rounding.held
  pub below : AreBelow (suc (length v.rounding.asked)) v.rounding.held
  pub coming : s.coming.items ≡ map (seen spelled) v.coming
  pub held_read : AllCanBeRead v.rounding.held
  pub coming_read : AllCanBeRead v.coming

-- the same where memory lacked: of the packets on their way nothing is known then
pub record IsLeftAt (base told : List Asked) (s : FollowerRounds) (v : Moment) : Type 0 where
  pub copies : s.follower ≡ v.rounding.copies
  pub states : s.states ≡ v.rounding.states
  pub tells : told ≡ base ++ v.rounding.asked
  pub given : length (fates_of v.rounding.asked) ≡ length v.rounding.asked
