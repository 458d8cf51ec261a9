-- How packets are numbered: those in flight stand in order, and the wires were asked about packets 1, 2 and so on, about each once. And
-- what the places of a run are: none is beyond what its member applied.
use Rattle.std.specs.Prelude.{◌≡◌, ◌≤◌, ◌<◌, ◌+◌, ◌*◌, ℕ, suc, false, List, [], ◌∷◌, ◌++◌, Some, length, map}
use Rattle.std.specs.List.{AllByRecursion as Each}
use Rattle.net_rules.specs.Flights.{InOrder, travels}
use Rattle.net_rules.specs.declared.fate.Fate.{Fate}
use Rattle.net_rules.specs.declared.flight.Flight.{Flight}
use Rattle.world_rules.specs.declared.event.Event.{Event}
use Rattle.world_rules.specs.declared.event.Step.{Step}
use Rattle.world_rules.specs.Frame.{Frame}
use Rattle.world_rules.specs.Mail.{Carried, Mail, place_of, posted}
use Rattle.world_rules.specs.Nodes.{Given, Node}
use Rattle.world_rules.specs.Played.{Played}
use Rattle.world_rules.specs.Steps.{Known, Next, Possible, asked_of, happens, posts}
use Rattle.world_rules.specs.Worlds.{Told, World, opening_world}
use Rattle.world_law.specs.Grouped.{Grouped, Submits}

-- ---- places

-- neither a process nor an Answer that an owner keeps has a place beyond what its member applied
pub record PlacesWithin (w : World) : Type 0 where
  pub processes : (m i : ℕ) (r : Played) → (w.nodes m).played i ≡ Some r → r.place ≤ (w.nodes m).copies.applied
  pub given : (m i : ℕ) (one : Given) → (w.nodes m).given i ≡ Some one → one.place ≤ (w.nodes m).copies.applied

-- ---- letters

-- a letter goes from a member to a member. An Ask or Answer has a place up to what its sender applied, and an incarnation up to the one
-- that it installed
abbrev pub IsSent : Frame → (ℕ → Node) → Mail → Type 0
IsSent f nodes (Mail.Grouped letter) = (letter.packet.from < f.settings.nodes) × (letter.to < f.settings.nodes)
IsSent f nodes (Mail.Sends incarnation from to errand) =
    (from < f.settings.nodes) × (to < f.settings.nodes) × (place_of errand ≤ (nodes from).copies.applied)
    × (incarnation ≤ (nodes from).member.installed)

-- ---- numbers

-- a copy in flight is of one of the packets that were sent, and goes as its letter says
pub record IsNumbered (f : Frame) (sent : ℕ) (flight : Flight Carried) : Type 0 where
  pub some : 1 ≤ flight.number
  pub known : flight.number ≤ sent
  pub from : flight.from ≡ (posted f.settings.nodes flight.packet.mail).from
  pub to : flight.to ≡ (posted f.settings.nodes flight.packet.mail).to

-- the questions are about packets n + 1, n + 2 and so on
abbrev pub AreAsked : ℕ → List Told → Type 0
AreAsked n [] = Unit {0}
AreAsked n (one ∷ more) = (one.question.packet ≡ suc n) × AreAsked (suc n) more

-- `new`, so the next packet's number is in flight nowhere
pub record AreNumbered (f : Frame) (w : World) : Type 0 where
  pub order : InOrder w.flights
  pub each : Each (IsNumbered f w.sent) w.flights
  pub mails : Each (λ (flight : Flight Carried). IsSent f w.nodes flight.packet.mail) w.flights
  pub asked : AreAsked 0 w.told
  pub told : length w.told ≡ w.sent
  pub new : travels (suc w.sent) w.flights ≡ false

-- ---- a step

-- the wire in use is asked about each packet that a step sends, with the fates that the step has, and no other wire is asked anything
pub record TellsWire (w v : World) (step : Step) : Type 0 where
  pub more : List Told
  pub told : v.told ≡ w.told ++ more
  pub fates : map (λ (one : Told). one.fate) more ≡ step.fates
  pub wire : Each (λ (one : Told). one.wire ≡ v.swaps) more
  pub sent : v.sent ≡ w.sent + length step.fates
  pub others : (wire : ℕ) → (wire ≡ v.swaps → ⊥) → asked_of wire v.told ≡ asked_of wire w.told

-- `event`, an event leaves what is in flight numbered; `letters`, each letter that it sends goes so in the world that it leaves; `posts`,
-- and is numbered once it is posted; `step`, so it is after a step; `tells`, which tells the wire in use
pub record StepsNumber (f : Frame) : Type 0 where
  pub opening : AreNumbered f (opening_world f) × PlacesWithin (opening_world f)
  pub event :
      (w : World) (event : Event) (given : Known event) → Possible f w event given → Submits f w event → Grouped f w → PlacesWithin w →
      AreNumbered f w → AreNumbered f (happens f w event given).world × PlacesWithin (happens f w event given).world
  pub letters :
      (w : World) (event : Event) (given : Known event) → Possible f w event given → Submits f w event → Grouped f w → PlacesWithin w →
      AreNumbered f w → Each (IsSent f (happens f w event given).world.nodes) (happens f w event given).mails
  pub posts : (w : World) (mail : Mail) (fate : Fate) → IsSent f w.nodes mail → AreNumbered f w → AreNumbered f (posts f w mail fate)
  pub step :
      (w v : World) (step : Step) → Next f w step v → Submits f w step.event → Grouped f w → PlacesWithin w → AreNumbered f w →
      AreNumbered f v × PlacesWithin v
  pub tells : (w v : World) (step : Step) → Next f w step v → Submits f w step.event → Grouped f w → AreNumbered f w → TellsWire w v step

abbrev pub AllNumber : Type 0
AllNumber = (f : Frame) → 2 * f.settings.resilience < f.settings.nodes → StepsNumber f
