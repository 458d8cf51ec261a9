-- What travels can be spelled in bytes, where the messages that processes submit and ask, and the replies of what was performed beside the
-- list, are sound.
use Rattle.std.specs.Prelude.{◌≡◌, ◌≤◌, ◌<◌, ◌⊎◌, ◌*◌, ℕ, Some, length}
use Rattle.std.specs.List.{AllByRecursion as Each}
use Rattle.orca_base.specs.declared.limits.TheConstants.{NODES}
use Rattle.value_core.specs.Sound.{IsSoundMessage, IsSoundReply}
use Rattle.value_core.specs.declared.action.Action.{Action}
use Rattle.value_core.specs.declared.message.Message.{Message}
use Rattle.book_law.specs.declared.placing.Placed.{Placed}
use Rattle.group_packets.specs.Sound.{IsSoundPacket}
use Rattle.group_rules.specs.Sets.{In}
use Rattle.net_rules.specs.declared.flight.Flight.{Flight}
use Rattle.world_rules.specs.declared.event.Event.{Event}
use Rattle.world_rules.specs.declared.event.Step.{Step}
use Rattle.world_rules.specs.Frame.{Frame}
use Rattle.world_rules.specs.Mail.{Carried, Mail, posted}
use Rattle.world_rules.specs.Played.{Played}
use Rattle.world_rules.specs.Played.Stage.{Acting, Asking}
use Rattle.world_rules.specs.Steps.{Known, Next, Possible, happens}
use Rattle.world_rules.specs.Worlds.{World}
use Rattle.world_law.specs.Answers.{AnswersTrue}
use Rattle.world_law.specs.Grouped.{Grouped, Submits}
use Rattle.world_law.specs.Packets.{AreNumbered, PlacesWithin}

-- each message that was submitted is sound, and each reply of what was performed beside the list
pub record SaidSound (w : World) : Type 0 where
  pub submitted : (i : ℕ) (x : Message) → In x (w.past.submitted i) → IsSoundMessage x
  pub performed : (one : Placed) → In one w.aside → IsSoundReply one.line.reply

-- so is the next message of a process that is at an action, or asks an owner for it
abbrev pub IsOut : Played → Action → Type 0
IsOut r act = (r.stage ≡ Acting act) ⊎ (r.stage ≡ Asking act)

abbrev pub NextSound : World → Type 0
NextSound w =
    (m i : ℕ) (r : Played) (act : Action) → (w.nodes m).played i ≡ Some r → IsOut r act →
    (x : Message) → x.process.0 ≡ i → x.call.0 ≡ length r.replies → x.action ≡ act → IsSoundMessage x

-- the letter, as it travels, is what bytes spell
abbrev pub IsSoundMail : Frame → Mail → Type 0
IsSoundMail f mail = IsSoundPacket IsSoundMessage IsSoundReply (posted f.settings.nodes mail).packet

abbrev pub FlySound : Frame → World → Type 0
FlySound f w = Each (λ (flight : Flight Carried). IsSoundMail f flight.packet.mail) w.flights

-- `letters`, so is each letter that an event sends; `step`, and so stays what is in flight
pub record LettersSound (f : Frame) : Type 0 where
  pub letters :
      (w : World) (event : Event) (given : Known event) → Possible f w event given → Submits f w event → Grouped f w → PlacesWithin w →
      AreNumbered f w → AnswersTrue w → NextSound w → SaidSound (happens f w event given).world → FlySound f w →
      Each (IsSoundMail f) (happens f w event given).mails
  pub step :
      (w v : World) (step : Step) → Next f w step v → Submits f w step.event → Grouped f w → PlacesWithin w → AreNumbered f w →
      AnswersTrue w → NextSound w → SaidSound v → FlySound f w → FlySound f v

abbrev pub AllLettersSound : Type 0
AllLettersSound = (f : Frame) → 2 * f.settings.resilience < f.settings.nodes → f.settings.nodes ≤ NODES → LettersSound f
