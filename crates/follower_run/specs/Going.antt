-- What the calls say that lead a follower from one moment to another.
use Rattle.std.specs.Prelude.{◌≡◌, ◌⊎◌, ◌++◌, ℕ, List, []}
use Rattle.value_core.specs.Meaning.{Performs}
use Rattle.value_core.specs.declared.message.Message.{Message}
use Rattle.book_law.specs.Fitness.{ArgsFit}
use Rattle.group_join.specs.Following.{MayReceive}
use Rattle.group_join.specs.declared.packet.JoinPacket.{JoinPacket}
use Rattle.net_rules.specs.declared.asked.Asked.{Asked}
use Rattle.net_rules.specs.declared.fate.Fate.{Fate}
use Rattle.world_rules.specs.declared.event.Step.{Step}
use Rattle.world_rules.specs.Frame.{Frame}
use Rattle.world_rules.specs.Steps.{Replays}
use Rattle.world_rules.specs.Worlds.{World}
use Rattle.join_law.specs.Moments.{IsReached, Moment, WithinRound, asks_member, between, moments, next_moment, opens_round, reaches, sent_as}
use Rattle.join_law.specs.Rounds.{comes, round}
use Rattle.follower_run.specs.Given.{fates_of}
use Rattle.follower_run.specs.Kept.{IsAt, IsLeftAt}
use Rattle.follower_run.specs.declared.rounds.FollowerRounds.{FollowerRounds}

-- ---- a packet is sent

-- from whichever moment, with some fate
abbrev pub HasSent : ℕ → ℕ → JoinPacket → List Asked → FollowerRounds → List Asked → FollowerRounds → Type 0
HasSent from to packet told s told' s' =
    (nodes : ℕ) (base : List Asked) (v : Moment) → IsAt nodes base told s v →
    (fate : Fate) × IsAt nodes base told' s' (sent_as fate from to packet v)

-- the same where memory lacked: before the wire was asked, or behind that
abbrev pub HasSentAtMost : ℕ → ℕ → JoinPacket → List Asked → FollowerRounds → List Asked → FollowerRounds → Type 0
HasSentAtMost from to packet told s told' s' =
    (nodes : ℕ) (base : List Asked) (v : Moment) → IsAt nodes base told s v →
    IsLeftAt base told' s' v ⊎ ((fate : Fate) × IsLeftAt base told' s' (sent_as fate from to packet v))

-- ---- a packet comes to the follower

-- at whichever moment it comes; whoever stands at the moment with what comes else stands behind it
abbrev pub HasTaken : Frame → JoinPacket → FollowerRounds → FollowerRounds → Type 0
HasTaken f packet s s' =
    (nodes : ℕ) (base told : List Asked) (v : Moment) → IsAt nodes base told s v →
    IsAt nodes base told s' (record { rounding = comes f packet v.rounding; coming = v.coming })

-- it may come, by some list
abbrev pub MayTake : ArgsFit → Performs → FollowerRounds → JoinPacket → Type 0
MayTake fits_args p s packet = (list : List Message) × MayReceive fits_args p list s.follower packet

-- ---- where it goes on

-- the follower stands at some moment, to which some moves lead beside the run of these steps
pub record MayGoOn (f : Frame) (steps : List Step) (told : List Asked) (s : FollowerRounds) : Type 0 where
  pub world : World
  pub base : List Asked
  pub moment : Moment
  pub replays : Replays f steps world
  pub reached : IsReached f world moment
  pub at : IsAt f.settings.nodes base told s moment

-- ---- from one moment to another

-- which moment may follow which in a world, where a packet's fate is the one in the list at its number
abbrev pub Change : Type 1
Change = World → List Fate → Moment → Moment → Type 0

-- more questions were asked, if any, and so it is whatever the wire answers later
pub record GoesBy (change : List Fate → Moment → Moment → Type 0) (v x : Moment) : Type 0 where
  pub more : List Asked
  pub grows : x.rounding.asked ≡ v.rounding.asked ++ more
  pub goes : (later : List Fate) → change (fates_of x.rounding.asked ++ later) v x

-- from whichever moment, to one to which it may change
abbrev pub GoesOn : Frame → List Step → List Asked → FollowerRounds → List Asked → FollowerRounds → Change → Type 0
GoesOn f steps told s told' s' change =
    (w : World) (base : List Asked) (v : Moment) → Replays f steps w → IsAt f.settings.nodes base told s v →
    (x : Moment) × GoesBy (change w) v x × IsAt f.settings.nodes base told' s' x

-- the same where memory lacked
abbrev pub LeavesOff : Frame → List Step → List Asked → FollowerRounds → List Asked → FollowerRounds → Change → Type 0
LeavesOff f steps told s told' s' change =
    (w : World) (base : List Asked) (v : Moment) → Replays f steps w → IsAt f.settings.nodes base told s v →
    (x : Moment) × GoesBy (change w) v x × IsLeftAt base told' s' x

-- or before that
abbrev pub LeavesAtMost : Frame → List Step → List Asked → FollowerRounds → List Asked → FollowerRounds → Change → Type 0
LeavesAtMost f steps told s told' s' change =
    (w : World) (base : List Asked) (v : Moment) → Replays f steps w → IsAt f.settings.nodes base told s v →
    IsLeftAt base told' s' v ⊎ ((x : Moment) × GoesBy (change w) v x × IsLeftAt base told' s' x)

-- ---- the changes

-- one moment more; and so many that nothing comes any more, or up to there
abbrev pub Nexts : Frame → Change
Nexts f w fates v x = x ≡ next_moment f fates w v

abbrev pub RunsTo : Frame → Change
RunsTo f w fates v x = (n : ℕ) × (x ≡ moments f fates w n v)

abbrev pub RunsOut : Frame → Change
RunsOut f w fates v x = (x.coming ≡ []) × RunsTo f w fates v x

-- a Seek came to this member; and a packet that is none to the follower
abbrev pub Reaches : Frame → ℕ → JoinPacket → Change
Reaches f to packet w fates v x = x ≡ reaches f fates w to packet v

abbrev pub Takes : Frame → JoinPacket → Change
Takes f packet w fates v x = x ≡ record { rounding = comes f packet v.rounding; coming = v.coming }

-- a round was opened; a member was asked; and the whole round with it, or up to some moment of it
abbrev pub Opens : Change
Opens w fates v x = x ≡ opens_round v.rounding

abbrev pub Asks : Frame → ℕ → Change
Asks f m w fates v x = x ≡ asks_member f fates m v.rounding

abbrev pub DoesRound : Frame → ℕ → Change
DoesRound f m w fates v x = x ≡ between (round f fates w m v.rounding)

abbrev pub IsInRound : Frame → ℕ → Change
IsInRound f m w fates v x = WithinRound f fates w m v.rounding x
