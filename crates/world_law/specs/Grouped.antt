-- Each event of a run is a list of the group's events, where what it submits may be submitted. So the law of the group speaks of the
-- world's group.
use Rattle.std.specs.Prelude.{◌≡◌, ◌<◌, ◌*◌, ℕ, true, List, [], ◌∷◌, ◌++◌, length, Some}
use Rattle.value_core.specs.declared.action.Action.{Action}
use Rattle.value_core.specs.declared.message.Message.{Message}
use Rattle.group_rules.specs.Member.{Letter}
use Rattle.group_rules.specs.Sets.{In}
use Rattle.group_rules.specs.World.{Event, may_submit, opening, run}
use Rattle.net_rules.specs.declared.flight.Flight.{Flight}
use Rattle.world_rules.specs.declared.event.Event as world
use Rattle.world_rules.specs.declared.event.Event.TheVariants as event
use Rattle.world_rules.specs.declared.event.Step.{Step}
use Rattle.world_rules.specs.Frame.{Frame, group}
use Rattle.world_rules.specs.Mail.{Carried, Mail}
use Rattle.world_rules.specs.Played.{Played}
use Rattle.world_rules.specs.Played.Stage.{Acting}
use Rattle.world_rules.specs.Steps.{Next}
use Rattle.world_rules.specs.Worlds.{World, group_world, home_of, opening_world, played_in}

-- a letter of the group was sent, and comes to another than its sender
pub record Comes (letters : List (Letter Message)) (letter : Letter Message) : Type 0 where
  pub sent : In letter letters
  pub other : letter.to ≡ letter.packet.from → ⊥

abbrev pub Come : List (Letter Message) → Mail → Type 0
Come letters (Mail.Grouped letter) = Comes letters letter
Come letters (Mail.Sends incarnation from to errand) = Unit {0}

-- so does each that is in flight
abbrev pub AllFly : List (Letter Message) → List (Flight Carried) → Type 0
AllFly letters [] = Unit {0}
AllFly letters (flight ∷ flights) = Come letters flight.packet.mail × AllFly letters flights

-- `events` and `run`, the world's group is what a list of the group's events leads to; `level`, each member has noted just what its
-- copies applied; `travels`, what is in flight was sent
pub record Grouped (f : Frame) (w : World) : Type 0 where
  pub events : List (Event Message)
  pub run : group_world w ≡ run (group f) opening events
  pub level : (m : ℕ) → (w.nodes m).member.applied ≡ (w.nodes m).copies.applied
  pub travels : AllFly w.past.letters w.flights

-- a process at an action that wasn't carried out may submit its next message
abbrev pub MaySubmit : Frame → World → ℕ → Type 0
MaySubmit f w i =
    (r : Played) (act : Action) → played_in f w i ≡ Some r → r.stage ≡ Acting act →
    (x : Message) → x.process.0 ≡ i → x.call.0 ≡ length r.replies →
    may_submit (group f) (group_world w) (home_of f w i) x ≡ true

-- so it is with the process that the event carries out an action of
abbrev pub Submits : Frame → World → world.Event → Type 0
Submits f w (event.Act process) = MaySubmit f w process.0
Submits f w (event.Burst process place turns) = Unit {0}
Submits f w (event.Deliver packet copy) = Unit {0}
Submits f w event.Tick = Unit {0}
Submits f w (event.Crash node) = Unit {0}
Submits f w (event.Suspect node) = Unit {0}
Submits f w event.Swap = Unit {0}

-- after a step: the group's events went on from those before
pub record GoesOn (f : Frame) (before : List (Event Message)) (v : World) : Type 0 where
  pub grouped : Grouped f v
  pub more : List (Event Message)
  pub since : grouped.events ≡ before ++ more

-- the opening world is so, and each step leads from such a world to another
pub record StepsGrouped (f : Frame) : Type 0 where
  pub opening : Grouped f (opening_world f)
  pub step : (w v : World) (step : Step) → Next f w step v → Submits f w step.event → (h : Grouped f w) → GoesOn f h.events v

abbrev pub AllGrouped : Type 0
AllGrouped = (f : Frame) → 2 * f.settings.resilience < f.settings.nodes → StepsGrouped f
