-- The numbers of a run are small, and so are those of what travels.
use Rattle.std.proofs.Common.{◌<◌, ◌*◌, List, [], ◌∷◌, refl, arith}
use Rattle.std.proofs.Math.Nat.{mul-le-mul_left}
use Rattle.std.specs.List.{AllByRecursion as Each}
use Rattle.value_core.specs.declared.message.Message.{Message}
use Rattle.group_law.specs.Numbers.{FewEventsLaw}
use Rattle.group_law.specs.Sends.{RoutesLaw}
use Rattle.group_rules.specs.World.{Sent}
use Rattle.net_rules.specs.declared.flight.Flight.{Flight}
use Rattle.world_rules.specs.declared.event.Event as world
use Rattle.world_rules.specs.Frame.{Frame, group}
use Rattle.world_rules.specs.Mail.{Carried, Mail}
use Rattle.world_rules.specs.Steps.{AtWork, Known, Possible, happens}
use Rattle.world_rules.specs.Worlds.{World}
use Rattle.world_law.specs.Counts.{AreSmall, IsSmallMail, StepsCount}
use Rattle.world_law.specs.Grouped.{AllFly, Come, Grouped}
use Rattle.world_law.specs.Grouped.{Submits as MayAll}
use Rattle.world_law.specs.Packets.{AreNumbered, IsSent, PlacesWithin}
use Rattle.world_law.proofs.Counting.{event_counted, small_world, steps_counted, steps_left}
use Rattle.world_law.proofs.Events.{Going, going_happens}
use Rattle.world_law.proofs.Grouping.{Laws}
use Rattle.world_law.proofs.Numbering.{letters_sent}
use Rattle.world_law.proofs.Travels.{AllCome}

small_mail : (laws : Laws) (f : Frame) (w : World) → Grouped f w → AreSmall w → (mail : Mail) → Come w.past.letters mail → IsSent f w.nodes mail →
    IsSmallMail mail
small_mail laws f w grouped is (Mail.Grouped letter) come sent =
    let there : Sent w.past.letters letter.packet = laws.packets w.past.letters letter come.sent in
    (is.numbers.of letter.packet there, is.numbers.packets letter.packet there)
small_mail laws f w grouped is (Mail.Sends incarnation from to errand) come sent =
    let level = grouped.level from in
    let applied = (is.numbers.members from).applied in
    let installed = is.numbers.installed from in
    let promised = is.numbers.promised from in
    let place = sent.2 in
    let known = sent.3 in
    (omega (arith, known, installed, promised), omega (arith, place, level, applied))

small_flights : (laws : Laws) (f : Frame) (w : World) → Grouped f w → AreSmall w → (flights : List (Flight Carried)) → AllFly w.past.letters flights →
    Each (λ (flight : Flight Carried). IsSent f w.nodes flight.packet.mail) flights → Each (λ (flight : Flight Carried). IsSmallMail flight.packet.mail) flights
small_flights laws f w grouped is [] fly sent = tt
small_flights laws f w grouped is (flight ∷ flights) fly sent =
    (small_mail laws f w grouped is flight.packet.mail fly.0 sent.0, small_flights laws f w grouped is flights fly.1 sent.1)

small_mails : (laws : Laws) (f : Frame) (w : World) → Grouped f w → AreSmall w → (mails : List Mail) → AllCome w.past.letters mails →
    Each (IsSent f w.nodes) mails → Each IsSmallMail mails
small_mails laws f w grouped is [] come sent = tt
small_mails laws f w grouped is (mail ∷ mails) come sent =
    (small_mail laws f w grouped is mail come.0 sent.0, small_mails laws f w grouped is mails come.1 sent.1)

small_letters : (laws : Laws) (routes : RoutesLaw Message) (f : Frame) → 2 * (group f).resilience < (group f).nodes → (w : World) (event : world.Event)
    (given : Known event) → Possible f w event given → MayAll f w event → Grouped f w → PlacesWithin w → AreNumbered f w →
    AreSmall (happens f w event given).world → Each IsSmallMail (happens f w event given).mails
small_letters laws routes f small w event given may submit grouped places numbered is =
    let u : AtWork = happens f w event given in
    let going : Going f grouped.events u = going_happens laws f w event given small may submit grouped in
    small_mails laws f u.world going.grouped is u.mails going.mails (letters_sent laws routes f small w event given may submit grouped places numbered)

pub steps_count : (laws : Laws) (law : FewEventsLaw Message) (routes : RoutesLaw Message) (f : Frame) → 2 * (group f).resilience < (group f).nodes → StepsCount f
steps_count laws law routes f small = record {
  opening = record { events = []; run = refl; few = omega arith; rare = omega arith };
  event = event_counted laws f small;
  step = steps_counted laws f small;
  within = steps_left f;
  small = λ w steps nodes few h.
      let rare = mul-le-mul_left f.settings.nodes few in
      small_world law f small nodes w steps (f.settings.nodes * steps) few rare h;
  flights = λ w grouped numbered is. small_flights laws f w grouped is w.flights grouped.travels numbered.mails;
  letters = small_letters laws routes f small;
}
