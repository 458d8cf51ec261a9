-- Answers are true: each Answer that is in flight, that waits for its place, or that an owner keeps, is of an operation that was performed
-- beside the list.
use Rattle.std.specs.Prelude.{◌≡◌, ℕ, List, [], ◌∷◌, Option, Some}
use Rattle.orca_base.specs.declared.ids.CallNo.{CallNo}
use Rattle.orca_base.specs.declared.ids.ProcessNo.{ProcessNo}
use Rattle.value_core.specs.declared.action.Reply.{Reply}
use Rattle.book_law.specs.declared.placing.Placed.{Placed}
use Rattle.group_rules.specs.Sets.{In}
use Rattle.net_rules.specs.declared.flight.Flight.{Flight}
use Rattle.world_rules.specs.declared.event.Step.{Step}
use Rattle.world_rules.specs.Frame.{Frame}
use Rattle.world_rules.specs.Mail.{Carried, Errand, Mail}
use Rattle.world_rules.specs.Mail.Errand.{Ask, Answer}
use Rattle.world_rules.specs.Nodes.{Given}
use Rattle.world_rules.specs.Steps.{Leads}
use Rattle.world_rules.specs.Worlds.{World, opening_world}

-- this reply, to this call of the process, stands among the performed operations, at this place
pub record Stands (aside : List Placed) (n : ℕ) (i : ProcessNo) (which : CallNo) (given : Reply) : Type 0 where
  pub performed : Placed
  pub among : In performed aside
  pub place : performed.place ≡ n
  pub process : performed.line.process ≡ i
  pub call : performed.line.call ≡ which
  pub reply : performed.line.reply ≡ given

abbrev pub IsTrue : List Placed → Errand → Type 0
IsTrue aside (Ask place x) = Unit {0}
IsTrue aside (Answer place i n reply) = Stands aside place i n reply

abbrev pub AreTrue : List Placed → List Errand → Type 0
AreTrue aside [] = Unit {0}
AreTrue aside (errand ∷ errands) = IsTrue aside errand × AreTrue aside errands

abbrev pub MailIsTrue : List Placed → Mail → Type 0
MailIsTrue aside (Mail.Grouped letter) = Unit {0}
MailIsTrue aside (Mail.Sends incarnation from to errand) = IsTrue aside errand

abbrev pub FliesTrue : List Placed → List (Flight Carried) → Type 0
FliesTrue aside [] = Unit {0}
FliesTrue aside (flight ∷ flights) = MailIsTrue aside flight.packet.mail × FliesTrue aside flights

-- what an owner keeps for a process
abbrev pub GivenTrue : List Placed → (ℕ → Option Given) → Type 0
GivenTrue aside given =
    (i : ProcessNo) (one : Given) → given i.0 ≡ Some one → Stands aside one.place i one.call one.reply

pub record AnswersTrue (w : World) : Type 0 where
  pub flights : FliesTrue w.aside w.flights
  pub held : (m : ℕ) → AreTrue w.aside (w.nodes m).held
  pub given : (m : ℕ) → GivenTrue w.aside (w.nodes m).given

abbrev pub AllAnswers : Type 0
AllAnswers = (f : Frame) (steps : List Step) (w : World) → Leads f (opening_world f) steps w → AnswersTrue w
