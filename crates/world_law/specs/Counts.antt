-- How great the numbers of a run are. A step submits one message at most, and lets each member tick or coordinate once at most; so in a run
-- of as many steps as there may be all numbers of entries and of incarnations fit 62 bits.
use Rattle.std.specs.Prelude.{◌≡◌, ◌≤◌, ◌<◌, ◌*◌, ◌^◌, ℕ, suc, true, List, length}
use Rattle.std.specs.List.{AllByRecursion as Each}
use Rattle.orca_base.specs.declared.limits.TheConstants.{EVENTS, NODES}
use Rattle.value_core.specs.declared.message.Message.{Message}
use Rattle.group_law.specs.Numbers.{EntriesWithin, MOST, Numbers, coordinations, submissions}
use Rattle.group_rules.specs.Member.{Letter, Member}
use Rattle.group_rules.specs.Reset.{coordinate}
use Rattle.group_rules.specs.Steps.{deliver, submit, timer}
use Rattle.group_rules.specs.World.{Event, GroupWorld, may_submit, opening, run}
use Rattle.net_rules.specs.declared.flight.Flight.{Flight}
use Rattle.world_rules.specs.declared.event.Event as world
use Rattle.world_rules.specs.declared.event.Step.{Step}
use Rattle.world_rules.specs.Applying.{applies_one, notes}
use Rattle.world_rules.specs.Frame.{Frame, group}
use Rattle.world_rules.specs.Mail.{Carried, Mail, place_of}
use Rattle.world_rules.specs.Nodes.{NodeWork, does, idle, joins, past_after}
use Rattle.world_rules.specs.Nodes.Deed.{Submits as Submitting}
use Rattle.world_rules.specs.Steps.{AtWork, Known, Next, Possible, after_part, happens}
use Rattle.world_rules.specs.Worlds.{World, group_world, opening_world}
use Rattle.world_law.specs.Grouped.{Comes, Grouped, Submits}
use Rattle.world_law.specs.Moments.{IsMoment, Lives, world_at}
use Rattle.world_law.specs.Packets.{AreNumbered, PlacesWithin}

-- the group came to this by at most so many submissions, and so many ticks and coordinations
pub record Counted (f : Frame) (w : GroupWorld Message) (submitted ticked : ℕ) : Type 0 where
  pub events : List (Event Message)
  pub run : w ≡ run (group f) opening events
  pub few : submissions events ≤ submitted
  pub rare : coordinations events ≤ ticked

-- one submission for each step, and one tick or coordination of each member
abbrev pub AfterSteps : Frame → World → ℕ → Type 0
AfterSteps f w steps = Counted f (group_world w) steps (f.settings.nodes * steps)

-- ---- from step to step

-- a member's numbers are below 2^62
pub record HasSmallNumbers (s : Member Message) : Type 0 where
  pub installed : s.installed < 2 ^ 62
  pub promised : s.promised < 2 ^ 62
  pub applied : s.applied < 2 ^ 62
  pub accepted : s.accepted < 2 ^ 62
  pub entries : length s.log < 2 ^ 62

-- so are those of each member; and all numbers of the group's law, of members and of what was sent, are at most 2^62 - 2
pub record AreSmall (w : World) : Type 0 where
  pub members : (m : ℕ) → HasSmallNumbers (w.nodes m).member
  pub numbers : Numbers (group_world w) MOST MOST

-- the numbers of a letter are
abbrev pub IsSmallMail : Mail → Type 0
IsSmallMail (Mail.Grouped letter) = (letter.packet.inc ≤ MOST) × EntriesWithin MOST letter.packet.kind
IsSmallMail (Mail.Sends incarnation from to errand) = (incarnation ≤ MOST) × (place_of errand ≤ MOST)

-- `event` and `step`, an event, and so a step, is counted; `within`, it is one of so many as there may be; `small`, so all numbers of the
-- world are small; `flights` and `letters`, and those of what is in flight, and of what an event sends
pub record StepsCount (f : Frame) : Type 0 where
  pub opening : AfterSteps f (opening_world f) 0
  pub event :
      (w : World) (event : world.Event) (given : Known event) → Possible f w event given → Submits f w event → Grouped f w →
      AfterSteps f w w.steps → AfterSteps f (happens f w event given).world (suc w.steps)
  pub step :
      (w v : World) (step : Step) → Next f w step v → Submits f w step.event → Grouped f w → AfterSteps f w w.steps → AfterSteps f v v.steps
  pub within : (w v : World) (step : Step) → Next f w step v → (v.steps ≡ suc w.steps) × (w.steps < f.settings.events)
  pub small : (w : World) (steps : ℕ) → f.settings.nodes ≤ NODES → steps ≤ EVENTS → AfterSteps f w steps → AreSmall w
  pub flights :
      (w : World) → Grouped f w → AreNumbered f w → AreSmall w →
      Each (λ (flight : Flight Carried). IsSmallMail flight.packet.mail) w.flights
  pub letters :
      (w : World) (event : world.Event) (given : Known event) → Possible f w event given → Submits f w event → Grouped f w →
      PlacesWithin w → AreNumbered f w → AreSmall (happens f w event given).world → Each IsSmallMail (happens f w event given).mails

-- ---- within an event

-- while member m is at work
abbrev pub CountedAt : Frame → World → ℕ → NodeWork → ℕ → ℕ → Type 0
CountedAt f w m v submitted ticked = Counted f (group_world (world_at f w m v)) submitted ticked

-- it begins so, and each act of a member leads on: only what it submits, and its ticks and coordinations, count. `part`, so it is once the
-- member did its part; `small`, within a step of a run all numbers fit
pub record MomentsCount (f : Frame) : Type 0 where
  pub start : (w : World) (m s c : ℕ) → Counted f (group_world w) s c → CountedAt f w m (idle (w.nodes m)) s c
  pub stays :
      (w : World) (m s c : ℕ) (v u : NodeWork) → CountedAt f w m v s c → u.node.member ≡ v.node.member →
      past_after (group f) m u.deeds w.past ≡ past_after (group f) m v.deeds w.past → CountedAt f w m u s c
  pub applies : (w : World) (m s c : ℕ) (x : Message) (v : NodeWork) → CountedAt f w m v s c → CountedAt f w m (applies_one f m x v) s c
  pub notes :
      (w : World) (m s c : ℕ) (v : NodeWork) → Lives f w m → IsMoment f w m v → CountedAt f w m v s c → CountedAt f w m (notes f m v) s c
  pub ticks :
      (w : World) (m s c : ℕ) (v : NodeWork) → Lives f w m → CountedAt f w m v s c →
      CountedAt f w m (joins (timer (group f) m v.node.member) v) s (suc c)
  pub coordinates :
      (w : World) (m s c : ℕ) (v : NodeWork) → Lives f w m → CountedAt f w m v s c →
      CountedAt f w m (joins (coordinate (group f) m v.node.member) v) s (suc c)
  pub submits :
      (w : World) (m s c : ℕ) (x : Message) (v : NodeWork) → Lives f w m →
      may_submit (group f) (group_world (world_at f w m v)) m x ≡ true → CountedAt f w m v s c →
      CountedAt f w m (joins (submit (group f) m x v.node.member) (does (Submitting x) v)) (suc s) c
  pub delivers :
      (w : World) (s c : ℕ) (v : NodeWork) (letter : Letter Message) → Lives f w letter.to →
      Comes (past_after (group f) letter.to v.deeds w.past).letters letter → CountedAt f w letter.to v s c →
      CountedAt f w letter.to (joins (deliver (group f) letter.to letter.packet v.node.member) v) s c
  pub part : (u : AtWork) (m s c : ℕ) (v : NodeWork) → CountedAt f u.world m v s c → Counted f (group_world (after_part f m v u).world) s c
  pub small :
      (w : World) (m s c : ℕ) (v : NodeWork) → f.settings.nodes ≤ NODES → s ≤ EVENTS → c ≤ f.settings.nodes * EVENTS →
      CountedAt f w m v s c → AreSmall (world_at f w m v)

abbrev pub AllCount : Type 0
AllCount = (f : Frame) → 2 * f.settings.resilience < f.settings.nodes → StepsCount f

abbrev pub AllMomentsCount : Type 0
AllMomentsCount = (f : Frame) → 2 * f.settings.resilience < f.settings.nodes → MomentsCount f
