-- What is promised of the calls that members make in every run.
use Rattle.std.specs.Prelude.{◌≡◌, ◌<◌, ℕ, true, List, Some}
use Rattle.orca_base.specs.declared.ids.ProcessNo.{ProcessNo}
use Rattle.value_core.specs.Meaning.{Computes, Performs}
use Rattle.object_manager.specs.Viewed.{Viewed}
use Rattle.net_rules.specs.declared.flight.Flight.{Flight}
use Rattle.net_rules.specs.Flights.{ready_copy, ticked}
use Rattle.world_rules.specs.declared.event.Event.{Event}
use Rattle.world_rules.specs.declared.event.Event.TheVariants as event
use Rattle.world_rules.specs.declared.event.Step.{Step}
use Rattle.world_rules.specs.Frame.{AreSettings, Frame}
use Rattle.world_rules.specs.Mail.{Carried, receiver_of}
use Rattle.world_rules.specs.Nodes.{Node}
use Rattle.world_rules.specs.Played.{Played}
use Rattle.world_rules.specs.Played.Stage.{Computing}
use Rattle.world_rules.specs.Standings.{standing}
use Rattle.world_rules.specs.declared.standing.Standing.TheVariants.{Going}
use Rattle.world_rules.specs.Steps.{AtWork, Known, Possible, Replays, lives_in, ticks_below, untouched}
use Rattle.world_rules.specs.Worlds.{World, home_of, played_in}
use Rattle.node_rules.specs.Bursting.{BurstFits}
use Rattle.node_rules.specs.Conditions.{Fitness}
use Rattle.node_rules.specs.Starts.{EventFits}
use Rattle.node_rules.specs.Starts.Start.{Acts, Comes, Ticks, Suspects}

-- the members below this one ticked
abbrev pub ticking : Frame → World → ℕ → AtWork
ticking f w m = ticks_below f m (untouched (record w { flights = ticked w.flights }))

-- what is asked of the event is met at each member that does a part in it: whose process acts, to which a letter comes, which suspects its
-- sequencer; and at a tick each that lives, in the world that the members below it leave
abbrev pub PartsFit : Frame → Fitness → World → Event → Type 0
PartsFit f fitness w (event.Act process) = EventFits f fitness (home_of f w process.0) (Acts process.0) (w.nodes (home_of f w process.0))
PartsFit f fitness w (event.Deliver packet copy) =
    (flight : Flight Carried) → ready_copy packet copy w.flights ≡ Some flight → lives_in f w (receiver_of flight.packet.mail) ≡ true →
    EventFits f fitness (receiver_of flight.packet.mail) (Comes flight.packet.mail) (w.nodes (receiver_of flight.packet.mail))
PartsFit f fitness w event.Tick =
    (m : ℕ) → m < f.settings.nodes → (ticking f w m).world.lives m ≡ true →
    EventFits f fitness m Ticks ((ticking f w m).world.nodes m)
PartsFit f fitness w (event.Suspect node) = EventFits f fitness node Suspects (w.nodes node)
PartsFit f fitness w (event.Burst process place turns) = Unit {0}
PartsFit f fitness w (event.Crash node) = Unit {0}
PartsFit f fitness w event.Swap = Unit {0}

-- so it is of each possible event, while a run of a program with these meanings is going, by settings that a run may have
abbrev pub AllPartsFit : Performs → Computes → Fitness → Type 0
AllPartsFit p q fitness =
    (f : Frame) → f.performs ≡ p → f.computes ≡ q → AreSettings f.settings → (steps : List Step) (w : World) →
    Replays f steps w → standing f w ≡ Going → (event : Event) (given : Known event) → Possible f w event given → PartsFit f fitness w event

-- ---- bursts

-- a view of the member's copies
abbrev pub view_of : Node → Viewed
view_of node = record { objects = node.copies.objects; place = node.copies.applied }

-- of each process that computes, a burst on its member's copies has what it asks
abbrev pub BurstsFit : Frame → Fitness → World → Type 0
BurstsFit f fitness w =
    (i : ProcessNo) (r : Played) → played_in f w i.0 ≡ Some r → r.stage ≡ Computing →
    BurstFits f fitness i (view_of (w.nodes (home_of f w i.0))) r

abbrev pub AllBurstsFit : Performs → Computes → Fitness → Type 0
AllBurstsFit p q fitness =
    (f : Frame) → f.performs ≡ p → f.computes ≡ q → AreSettings f.settings → (steps : List Step) (w : World) →
    Replays f steps w → standing f w ≡ Going → BurstsFit f fitness w
