-- The world of a faultless run is what a list of the group's moves leads to, and what was delivered beside the group's letters are Asks and
-- Answers, at most two for each call; and no tick comes.
use Rattle.std.specs.Prelude.{◌≡◌, ◌≤◌, ◌+◌, ◌*◌, ℕ, true, List, [], ◌∷◌, None}
use Rattle.value_core.specs.Meaning.{Computes, Performs}
use Rattle.value_core.specs.declared.message.Message.{Message}
use Rattle.group_rules.specs.Member.{Letter}
use Rattle.group_bound.specs.Flow.{Move, flow, opening_flow}
use Rattle.net_rules.specs.declared.flight.Flight.{Flight}
use Rattle.world_rules.specs.declared.standing.Standing.TheVariants.{NoGroup}
use Rattle.world_rules.specs.Frame.{Frame, group}
use Rattle.world_rules.specs.Mail.{Carried, Mail}
use Rattle.world_rules.specs.Standings.{standing}
use Rattle.world_rules.specs.Worlds.{World, group_world}
use Rattle.world_facts.specs.Replicated.{AllReplicated}
use Rattle.world_facts.specs.Rows.{IsOver, IsQuiet, IsUnlimited}
use Rattle.world_enough.specs.Faultless.{NoTick, OfFaultlessRuns, delivered}
use Rattle.world_enough.specs.Paid.{calls_in}

-- ---- packets in flight

-- the group's letters among them
abbrev pub with_letter : Mail → List (Letter Message) → List (Letter Message)
with_letter (Mail.Grouped letter) q = letter ∷ q
with_letter (Mail.Sends incarnation from to errand) q = q

abbrev pub letters_of : List (Flight Carried) → List (Letter Message)
letters_of [] = []
letters_of (flight ∷ flights) = with_letter flight.packet.mail (letters_of flights)

-- nothing is held back or cut, and numbers are those of packets that were sent
pub record IsCalm (sent : ℕ) (flight : Flight Carried) : Type 0 where
  pub ready : flight.ticks ≡ 0
  pub whole : flight.packet.cut ≡ None
  pub known : flight.number ≤ sent

abbrev pub AreCalm : ℕ → List (Flight Carried) → Type 0
AreCalm n [] = Unit {0}
AreCalm n (flight ∷ flights) = IsCalm n flight × AreCalm n flights

-- ---- the tie

-- `moves` and `world`, the world's group is what these moves lead to; `queue`, its letters in flight are theirs, in order; `delivered`, they
-- delivered so many; `calm`, nothing is held back or cut; `lives`, every member lives
pub record Tied (f : Frame) (w : World) (d : ℕ) : Type 0 where
  pub moves : List (Move Message)
  pub world : (flow (group f) opening_flow moves).world ≡ group_world w
  pub queue : (flow (group f) opening_flow moves).queue ≡ letters_of w.flights
  pub delivered : (flow (group f) opening_flow moves).delivered ≡ d
  pub calm : AreCalm w.sent w.flights
  pub lives : (m : ℕ) → w.lives m ≡ true

-- n packets were delivered: letters of the group, of which the world is tied to as many, and Asks and Answers, of which there are at most
-- two for each call, and none where no object is single
pub record HasDelivered (f : Frame) (w : World) (n : ℕ) : Type 0 where
  pub letters : ℕ
  pub errands : ℕ
  pub all : n ≡ letters + errands
  pub tied : Tied f w letters
  pub asked : errands ≤ 2 * calls_in f w
  pub none : AllReplicated f → errands ≡ 0

-- a quiet moment at which no limit is passed is the run's end
abbrev pub EndsQuiet : Frame → World → Type 0
EndsQuiet f w = IsUnlimited f w → IsQuiet f w → IsOver f w

abbrev pub FaultlessRunsNeedNoTick : Performs → Computes → Type 0
FaultlessRunsNeedNoTick p q =
    OfFaultlessRuns p q (λ f w steps. NoTick steps × HasDelivered f w (delivered steps) × EndsQuiet f w)

-- a faultless run never lacks a group
abbrev pub FaultlessRunsHaveGroup : Performs → Computes → Type 0
FaultlessRunsHaveGroup p q = OfFaultlessRuns p q (λ f w steps. standing f w ≡ NoGroup → ⊥)
