-- Asks are true: each Ask that is in flight, or waits for its place, is of a process that asks this call of an owner, from this place, or
-- that has its reply by now.
use Rattle.std.specs.Prelude.{◌≡◌, ◌<◌, ◌⊎◌, ℕ, List, [], ◌∷◌, length, Some}
use Rattle.value_core.specs.declared.message.Message.{Message}
use Rattle.net_rules.specs.declared.flight.Flight.{Flight}
use Rattle.world_rules.specs.declared.event.Step.{Step}
use Rattle.world_rules.specs.Frame.{Frame}
use Rattle.world_rules.specs.Mail.{Carried, Errand, Mail}
use Rattle.world_rules.specs.Mail.Errand.{Ask, Answer}
use Rattle.world_rules.specs.Nodes.{Node}
use Rattle.world_rules.specs.Played.{Played}
use Rattle.world_rules.specs.Played.Stage.{Asking}
use Rattle.world_rules.specs.Steps.{Leads}
use Rattle.world_rules.specs.Worlds.{World, opening_world}

-- the process asks this call from this place; or it has more replies than that
abbrev pub WasAsked : Played → ℕ → Message → Type 0
WasAsked r place x =
    (x.call.0 < length r.replies) ⊎ ((x.call.0 ≡ length r.replies) × (r.stage ≡ Asking x.action) × (place ≡ r.place))

-- of a process at one of these members
pub record AskStands (nodes : ℕ → Node) (place : ℕ) (x : Message) : Type 0 where
  pub member : ℕ
  pub process : Played
  pub here : (nodes member).played x.process.0 ≡ Some process
  pub was : WasAsked process place x

abbrev pub AskIsTrue : (ℕ → Node) → Errand → Type 0
AskIsTrue nodes (Ask place x) = AskStands nodes place x
AskIsTrue nodes (Answer place i n reply) = Unit {0}

abbrev pub AsksAreTrue : (ℕ → Node) → List Errand → Type 0
AsksAreTrue nodes [] = Unit {0}
AsksAreTrue nodes (errand ∷ errands) = AskIsTrue nodes errand × AsksAreTrue nodes errands

abbrev pub MailAsksTrue : (ℕ → Node) → Mail → Type 0
MailAsksTrue nodes (Mail.Grouped letter) = Unit {0}
MailAsksTrue nodes (Mail.Sends incarnation from to errand) = AskIsTrue nodes errand

abbrev pub FliesAsking : (ℕ → Node) → List (Flight Carried) → Type 0
FliesAsking nodes [] = Unit {0}
FliesAsking nodes (flight ∷ flights) = MailAsksTrue nodes flight.packet.mail × FliesAsking nodes flights

pub record AsksTrue (w : World) : Type 0 where
  pub flights : FliesAsking w.nodes w.flights
  pub held : (m : ℕ) → AsksAreTrue w.nodes (w.nodes m).held

abbrev pub AllAsks : Type 0
AllAsks = (f : Frame) (steps : List Step) (w : World) → Leads f (opening_world f) steps w → AsksTrue w
