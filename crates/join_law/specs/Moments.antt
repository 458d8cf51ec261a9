-- The moments of the command's rounds, also within one round, and what some moves lead to (docs/RUNTIME.md, A member that joins late).
use Rattle.std.specs.Prelude.{◌≡◌, ◌≤◌, ◌<◌, ◌%◌, ◌⊎◌, if◌then◌else◌, ℕ, zero, suc, List, [], ◌∷◌, ◌++◌, length, Option, None, Some}
use Rattle.std.specs.List.{AllByRecursion, filter}
use Rattle.book_law.specs.Events.{In}
use Rattle.net_rules.specs.Flights.{is_ready}
use Rattle.net_rules.specs.declared.fate.Fate.{Fate}
use Rattle.net_rules.specs.declared.flight.Flight.{Flight}
use Rattle.group_join.specs.declared.packet.JoinPacket.{JoinPacket}
use Rattle.group_join.specs.declared.packet.JoinPacket.TheVariants.{Seek, State, Next as Gives}
use Rattle.group_join.specs.Seeking.{answer_of}
use Rattle.world_rules.specs.declared.event.Step.{Step}
use Rattle.world_rules.specs.Frame.{Frame}
use Rattle.world_rules.specs.Steps.{Next}
use Rattle.world_rules.specs.Worlds.{World}
use Rattle.join_law.specs.Followed.{Followed, Move, opening_joining}
use Rattle.join_law.specs.Rounds.{BesideRun, Carried, Rounding, Rounds, ahead, asks, can_answer, comes, due, fate_in, is_whole, most_rounds, releases, round, flights_of, still}

-- how far the follower came, and what comes at once, the next one first
pub record Moment : Type 0 where
  pub rounding : Rounding
  pub coming : List (Flight Carried)

-- between two rounds nothing comes
abbrev pub between : Rounding → Moment
between u = record { rounding = u; coming = [] }

-- ---- one moment after the other

-- a packet is sent: the wire is asked about it, and what isn't held back comes before what came else
abbrev pub sent_as : Fate → ℕ → ℕ → JoinPacket → Moment → Moment
sent_as fate from to packet v = record {
  rounding = asks from to packet fate v.rounding;
  coming = filter is_ready (flights_of from to packet fate v.rounding) ++ v.coming;
}

abbrev pub is_sent : List Fate → ℕ → ℕ → JoinPacket → Moment → Moment
is_sent fates from to packet v = sent_as (fate_in fates (length v.rounding.asked)) from to packet v

abbrev pub answer_sent : Frame → List Fate → ℕ → Option JoinPacket → Moment → Moment
answer_sent f fates m None v = v
answer_sent f fates m (Some packet) v = is_sent fates m f.settings.nodes packet v

-- a packet comes to its receiver: a Seek is answered, and the follower receives what is none
abbrev pub reaches : Frame → List Fate → World → ℕ → JoinPacket → Moment → Moment
reaches f fates w to (Seek applied) v =
    if can_answer f w to then answer_sent f fates to (answer_of (w.nodes to).member (w.nodes to).copies applied) v else v
reaches f fates w to (State state) v = record { rounding = comes f (State state) v.rounding; coming = v.coming }
reaches f fates w to (Gives number message) v =
    record { rounding = comes f (Gives number message) v.rounding; coming = v.coming }

-- one that was cut is lost
abbrev pub first_reaches : Frame → List Fate → World → Rounding → List (Flight Carried) → Moment
first_reaches f fates w u [] = between u
first_reaches f fates w u (one ∷ more) =
    if is_whole one.packet then reaches f fates w one.to one.packet.packet (record { rounding = u; coming = more })
    else (record { rounding = u; coming = more })

abbrev pub next_moment : Frame → List Fate → World → Moment → Moment
next_moment f fates w v = first_reaches f fates w v.rounding v.coming

abbrev pub moments : Frame → List Fate → World → ℕ → Moment → Moment
moments f fates w zero v = v
moments f fates w (suc n) v = moments f fates w n (next_moment f fates w v)

-- ---- within a round with a member: what was held back for long enough comes, and then what the follower's Seek leads to

abbrev pub opens_round : Rounding → Moment
opens_round u = record { rounding = record u { held = still u }; coming = due u }

abbrev pub asks_member : Frame → List Fate → ℕ → Rounding → Moment
asks_member f fates m u = is_sent fates f.settings.nodes m (Seek u.copies.applied) (between u)

abbrev pub WithinRound : Frame → List Fate → World → ℕ → Rounding → Moment → Type 0
WithinRound f fates w m u v =
    (n : ℕ) × ((v ≡ moments f fates w n (opens_round u))
    ⊎ (v ≡ moments f fates w n (asks_member f fates m (releases f fates w u))))

-- ---- where a round begins

-- beside the run: behind its last step so far, with the next member in turn
pub record BeginsBeside (f : Frame) (start : ℕ) (fates : List Fate) (steps : List Step) (w : World) (m : ℕ) (u : Rounding) : Type 0 where
  pub earlier : List Step
  pub last : Step
  pub steps_are : steps ≡ earlier ++ last ∷ []
  pub before : World
  pub along : BesideRun f start fates earlier before u
  pub happens : Next f before last w
  pub late : start ≤ suc (length earlier)
  pub member : m ≡ u.rounds % f.settings.nodes

-- the follower applied less than this member
abbrev pub IsBehind : World → ℕ → Rounding → Type 0
IsBehind w m u = u.copies.applied < (w.nodes m).member.applied

-- so many rounds with it, and before each of them the follower is behind
abbrev pub RoundsWith : Frame → List Fate → World → ℕ → ℕ → Rounding → Rounding → Type 0
RoundsWith f fates w m zero u v = v ≡ u
RoundsWith f fates w m (suc n) u v = IsBehind w m u × RoundsWith f fates w m n (round f fates w m u) v

-- behind the run: with the member that is ahead, after so many rounds with it, which are fewer than are done at most; and the follower is
-- behind still
pub record BeginsBehind (f : Frame) (start : ℕ) (fates : List Fate) (steps : List Step) (w : World) (m done : ℕ) (u : Rounding)
    : Type 0 where
  pub before : Rounding
  pub along : BesideRun f start fates steps w before
  pub member : ahead f w f.settings.nodes ≡ Some m
  pub few : done < most_rounds w m
  pub rounds : RoundsWith f fates w m done before u
  pub behind : IsBehind w m u

-- ---- the rounds up to a moment, with a fate for each question by then: between two rounds beside the run of these steps, within one
-- there, within one behind the run, or after all of them
pub record RoundsUpTo (f : Frame) (start : ℕ) (fates : List Fate) (steps : List Step) (w : World) (v : Moment) : Type 0 where
  pub fates_are : length fates ≡ length v.rounding.asked
  pub moment :
      ((v.coming ≡ []) × BesideRun f start fates steps w v.rounding)
      ⊎ ((m : ℕ) × (u : Rounding) × BeginsBeside f start fates steps w m u × WithinRound f fates w m u v)
      ⊎ ((m : ℕ) × (done : ℕ) × (u : Rounding) × BeginsBehind f start fates steps w m done u × WithinRound f fates w m u v)
      ⊎ ((v.coming ≡ []) × Rounds f start fates steps w v.rounding)

-- ---- some moves lead to this world and these copies; by then each packet that is held back or comes was sent
pub record IsReached (f : Frame) (w : World) (v : Moment) : Type 0 where
  pub moves : List Move
  pub sent : List JoinPacket
  pub followed : Followed f (opening_joining f) moves (record { world = w; copies = v.rounding.copies; sent = sent })
  pub held : AllByRecursion (λ (one : Flight Carried). In one.packet.packet sent) v.rounding.held
  pub coming : AllByRecursion (λ (one : Flight Carried). In one.packet.packet sent) v.coming
