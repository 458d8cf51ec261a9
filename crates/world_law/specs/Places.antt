-- Places never fall: a process's place rises with what it reads and hears, where each Answer on its way to it is of the call that it asks
-- and from no lower a place, or an old one. And so each Answer is.
use Rattle.std.specs.Prelude.{◌≡◌, ◌≤◌, ◌<◌, ◌⊎◌, ◌*◌, ℕ, List, Option, Some, length}
use Rattle.std.specs.List.{AllByRecursion as Each}
use Rattle.orca_base.specs.declared.ids.CallNo.{CallNo}
use Rattle.guard_queue.specs.declared.queue.Suspended.{Suspended}
use Rattle.net_rules.specs.declared.flight.Flight.{Flight}
use Rattle.world_rules.specs.declared.event.Step.{Step}
use Rattle.world_rules.specs.Frame.{Frame}
use Rattle.world_rules.specs.Mail.{Carried, Errand, Mail}
use Rattle.world_rules.specs.Mail.Errand.{Ask, Answer}
use Rattle.world_rules.specs.Nodes.{Given, Node}
use Rattle.world_rules.specs.Played.{Played}
use Rattle.world_rules.specs.Steps.{Leads, Next}
use Rattle.world_rules.specs.Worlds.{World, opening_world}
use Rattle.world_law.specs.Grouped.{Grouped}
use Rattle.world_law.specs.Homes.{AreHome}
use Rattle.world_law.specs.Packets.{PlacesWithin}

-- the process has the reply to the call; or it is its next one, and the place isn't below its own
abbrev pub Reaches : Played → ℕ → CallNo → Type 0
Reaches r place call = (call.0 < length r.replies) ⊎ ((call.0 ≡ length r.replies) × (r.place ≤ place))

-- so it is with an Answer to one of these processes
abbrev pub ReachesOne : (ℕ → Option Played) → Errand → Type 0
ReachesOne played (Ask place x) = Unit {0}
ReachesOne played (Answer place i call reply) = (r : Played) → played i.0 ≡ Some r → Reaches r place call

abbrev pub MailReaches : (ℕ → Node) → Mail → Type 0
MailReaches nodes (Mail.Grouped letter) = Unit {0}
MailReaches nodes (Mail.Sends incarnation from to errand) = ReachesOne (nodes to).played errand

-- with each Answer that waits at its receiver, or flies to it
pub record AnswersReach (w : World) : Type 0 where
  pub held : (m : ℕ) → Each (ReachesOne (w.nodes m).played) (w.nodes m).held
  pub flights : Each (λ (flight : Flight Carried). MailReaches w.nodes flight.packet.mail) w.flights

abbrev pub PlacesRise : World → World → Type 0
PlacesRise w v =
    (m i : ℕ) (r : Played) → (w.nodes m).played i ≡ Some r → (t : Played) × ((v.nodes m).played i ≡ Some t) × (r.place ≤ t.place)

-- in each step of a run
abbrev pub PlacesNeverFall : Type 0
PlacesNeverFall =
    (f : Frame) (steps : List Step) (w v : World) (step : Step) → Leads f (opening_world f) steps w → Next f w step v → PlacesWithin w →
    AnswersReach w → PlacesRise w v

-- ---- so it is with every Answer of a run

-- who plays which process, member by member
abbrev pub Plays : Type 0
Plays = ℕ → ℕ → Option Played

abbrev pub plays_of : World → Plays
plays_of w m = (w.nodes m).played

-- some member's process has the reply to the call, or it is its next one, and the place isn't below its own
pub record CallStands (all : Plays) (place i : ℕ) (call : CallNo) : Type 0 where
  pub member : ℕ
  pub process : Played
  pub here : all member i ≡ Some process
  pub reaches : Reaches process place call

abbrev pub AnswerStands : Plays → Errand → Type 0
AnswerStands all (Ask place x) = Unit {0}
AnswerStands all (Answer place i call reply) = CallStands all place i.0 call

abbrev pub MailStands : Plays → Mail → Type 0
MailStands all (Mail.Grouped letter) = Unit {0}
MailStands all (Mail.Sends incarnation from to errand) = AnswerStands all errand

-- with each Answer that travels, that waits for its place, and that an owner keeps; and with each call that waits at an owner, by what this
-- applied
pub record CallsStand (w : World) : Type 0 where
  pub flights : Each (λ (flight : Flight Carried). MailStands (plays_of w) flight.packet.mail) w.flights
  pub held : (m : ℕ) → Each (AnswerStands (plays_of w)) (w.nodes m).held
  pub given : (m i : ℕ) (one : Given) → (w.nodes m).given i ≡ Some one → CallStands (plays_of w) one.place i one.call
  pub waits :
      (m : ℕ) →
      Each (λ (call : Suspended). CallStands (plays_of w) (w.nodes m).copies.applied call.process.0 call.call) (w.nodes m).copies.waits

-- `step`, so it stays; `reach`, so each Answer reaches its process, since no two members play one
pub record StepsReach (f : Frame) : Type 0 where
  pub opening : CallsStand (opening_world f)
  pub step :
      (steps : List Step) (w v : World) (step : Step) → Leads f (opening_world f) steps w → Next f w step v → PlacesWithin w →
      CallsStand w → CallsStand v
  pub reach : (w : World) → Grouped f w → AreHome f w → CallsStand w → AnswersReach w

abbrev pub AllReach : Type 0
AllReach = (f : Frame) → 2 * f.settings.resilience < f.settings.nodes → StepsReach f
