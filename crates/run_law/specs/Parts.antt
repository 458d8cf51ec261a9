-- The parts of an event: which members do one, how each begins, and that at a tick each does it as it stood before.
use Rattle.std.specs.Prelude.{◌≡◌, ◌<◌, ◌≤◌, ℕ, true, if◌then◌else◌, List, Some}
use Rattle.net_rules.specs.declared.flight.Flight.{Flight}
use Rattle.net_rules.specs.Flights.{ready_copy}
use Rattle.value_core.specs.Meaning.{Computes, Performs}
use Rattle.world_rules.specs.declared.event.Event.{Event}
use Rattle.world_rules.specs.declared.event.Event.TheVariants as event
use Rattle.world_rules.specs.declared.event.Step.{Step}
use Rattle.world_rules.specs.declared.standing.Standing.TheVariants.{Going}
use Rattle.world_rules.specs.Frame.{AreSettings, Frame}
use Rattle.world_rules.specs.Mail.{Carried, is_whole, receiver_of}
use Rattle.world_rules.specs.Standings.{standing}
use Rattle.world_rules.specs.Steps.{Known, Possible, Replays, lives_in}
use Rattle.world_rules.specs.Worlds.{World, home_of}
use Rattle.node_rules.specs.Conditions.{Fitness}
use Rattle.node_rules.specs.Starts.{EventFits, Start, part}
use Rattle.node_rules.specs.Starts.Start.{Acts, Comes, Ticks, Suspects}
use Rattle.world_calls.specs.Law.{ticking}

-- this is so of each member that does a part in the event, with how it begins: whose process acts, to which a whole letter comes, which
-- suspects its sequencer; and at a tick of each that lives
abbrev pub InParts : Frame → World → (ℕ → Start → Type 0) → Event → Type 0
InParts f w says (event.Act process) = says (home_of f w process.0) (Acts process.0)
InParts f w says (event.Deliver packet copy) =
    (flight : Flight Carried) → ready_copy packet copy w.flights ≡ Some flight → is_whole f.settings.nodes flight.packet ≡ true →
    lives_in f w (receiver_of flight.packet.mail) ≡ true → says (receiver_of flight.packet.mail) (Comes flight.packet.mail)
InParts f w says event.Tick = (m : ℕ) → m < f.settings.nodes → w.lives m ≡ true → says m Ticks
InParts f w says (event.Suspect node) = says node Suspects
InParts f w says (event.Burst process place turns) = Unit {0}
InParts f w says (event.Crash node) = Unit {0}
InParts f w says event.Swap = Unit {0}

-- so it is in each possible event of each run of a program with these meanings, by settings that a run may have
abbrev pub InAllParts : Performs → Computes → (Frame → World → ℕ → Start → Type 0) → Type 0
InAllParts p q says =
    (f : Frame) → f.performs ≡ p → f.computes ≡ q → AreSettings f.settings → (steps : List Step) (w : World) →
    Replays f steps w → (event : Event) (given : Known event) → Possible f w event given → InParts f w (says f w) event

-- ---- a tick

-- once the members below n ticked, they did their parts from where they stood before, and the others stand there
pub record TicksApart (f : Frame) (w : World) (n : ℕ) : Type 0 where
  pub lives : (ticking f w n).world.lives ≡ w.lives
  pub others : (m : ℕ) → n ≤ m → (ticking f w n).world.nodes m ≡ w.nodes m
  pub ticked :
      (m : ℕ) → m < n → (ticking f w n).world.nodes m ≡ (if w.lives m then (part f m Ticks (w.nodes m)).node else w.nodes m)

abbrev pub AllTicksApart : Type 0
AllTicksApart = (f : Frame) (w : World) (n : ℕ) → TicksApart f w n

-- so while a run is going, what is asked of an event is met at each member as it stood before, also at a tick
abbrev pub AllFitApart : Performs → Computes → Fitness → Type 0
AllFitApart p q fitness =
    (f : Frame) → f.performs ≡ p → f.computes ≡ q → AreSettings f.settings → (steps : List Step) (w : World) →
    Replays f steps w → standing f w ≡ Going → (event : Event) (given : Known event) → Possible f w event given →
    InParts f w (λ m start. EventFits f fitness m start (w.nodes m)) event
