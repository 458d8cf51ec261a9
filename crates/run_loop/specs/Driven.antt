-- How a run stands while it is driven: what the functions of drive.rt say to each other, and those of stepper.rt to whoever steps
-- through a run.
use Rattle.std.specs.Prelude.{◌≡◌, ◌⊎◌, ◌<◌, ◌++◌, ℕ, suc, List, [], ◌∷◌, length, Option, slice_index_or, slice_set}
use Rattle.group_rules.specs.Sets.{In}
use Rattle.net_rules.specs.declared.asked.Asked.{Asked}
use Rattle.net_rules.specs.declared.asked.Asked.TheVariants.{Act}
use Rattle.net_rules.specs.declared.fate.WireAct.{WireAct}
use Rattle.world_rules.specs.declared.event.Event.{Event}
use Rattle.world_rules.specs.declared.event.Event.TheVariants as event
use Rattle.world_rules.specs.declared.event.Step.{Step}
use Rattle.world_rules.specs.declared.standing.Standing.TheVariants.{Going}
use Rattle.world_rules.specs.Acts.{WereUsed, acts_in}
use Rattle.world_rules.specs.Frame.{AreSettings, Frame}
use Rattle.world_rules.specs.Standings.{standing}
use Rattle.world_rules.specs.Steps.{Next, Replays}
use Rattle.world_rules.specs.Worlds.{World, opening_world}
use Rattle.world_enough.specs.Faultless.{IsFirst, LeadsFirst}
use Rattle.world_facts.specs.Possible.{MayStep}
use Rattle.world_parts.specs.Seen.{Of, Seen, tasks_out}
use Rattle.run_loop.specs.Asked.{AreBelow, AreInTime, HaveToldOn, NoneAskedBehind, WereUsedUpTo, asked_since}

-- ---- wires

-- the wire of this number told one thing more
abbrev pub told_more : ℕ → List Asked → List (List Asked) → List (List Asked)
told_more wire more told = slice_set told wire (slice_index_or told wire [] ++ more)

-- ---- between events

-- the run goes on by these steps, with no task out, and each packet that came was the first of those that were ready; the wire in use is
-- behind as many as there were swaps; and the wires, which told `old` before the run, were used in it, those behind the one in use asked
-- nothing; each question about an act was in time, and came before an event with a number below `next`
pub record IsDrivenTo {S : Type 0} (f : Frame) (s : Seen S) (next in_use : ℕ) (old new : List (List Asked)) : Type 0 where
  pub world : World
  pub replays : Replays f s.steps world
  pub first : LeadsFirst f (opening_world f) s.steps world
  pub swaps : in_use ≡ world.swaps
  pub within : in_use < length new
  pub wires : length new ≡ f.settings.wires
  pub told : HaveToldOn old new
  pub used : WereUsed f s.steps world (asked_since old new)
  pub unused : NoneAskedBehind in_use (asked_since old new)
  pub in_time : AreInTime f s.steps (asked_since old new)
  pub numbers : (wire : ℕ) → AreBelow next (acts_in (asked_since old new wire))
  pub idle : tasks_out s ≡ 0
  pub settings : AreSettings f.settings

-- no wire was asked about an act before the next event yet
abbrev pub IsDriven : {S : Type 0} → Frame → Seen S → ℕ → List (List Asked) → List (List Asked) → Type 0
IsDriven f s in_use old new = IsDrivenTo f s (suc (length s.steps)) in_use old new

-- it is going
abbrev pub IsGoing : {S : Type 0} → Frame → Seen S → Type 0
IsGoing f s = Of f s (λ w. standing f w ≡ Going)

-- the event may be
abbrev pub MayBe : {S : Type 0} → Frame → Seen S → Event → Type 0
MayBe f s event = Of f s (λ w. MayStep f w event)

-- where it delivers a packet, that is the first of those that are ready
abbrev pub ComesFirst : {S : Type 0} → Frame → Seen S → Event → Type 0
ComesFirst f s event = Of f s (λ w. IsFirst w event)

-- it is an action, a delivery or a tick
abbrev pub IsDue : Event → Type 0
IsDue (event.Act process) = Unit {0}
IsDue (event.Deliver packet copy) = Unit {0}
IsDue event.Tick = Unit {0}
IsDue (event.Burst process place turns) = ⊥
IsDue (event.Crash node) = ⊥
IsDue (event.Suspect node) = ⊥
IsDue event.Swap = ⊥

-- ---- before an event

-- the wire in use was asked about an act before the next event, and gave this
pub record HasAnswered {S : Type 0} (f : Frame) (s : Seen S) (in_use : ℕ) (old new : List (List Asked)) (answer : Option WireAct) : Type 0 where
  pub before : List (List Asked)
  pub driven : IsDriven f s in_use old before
  pub told : new ≡ told_more in_use (Act (suc (length s.steps)) answer ∷ []) before

-- it was asked, and what it gave is nothing, or was passed over
pub record MayGoOn {S : Type 0} (f : Frame) (s : Seen S) (in_use : ℕ) (old new : List (List Asked)) : Type 0 where
  pub driven : IsDrivenTo f s (suc (suc (length s.steps))) in_use old new
  pub answer : Option WireAct
  pub asked : In (suc (length s.steps), answer) (acts_in (asked_since old new in_use))

-- ---- after an event

-- the run went on by one step, which leads on from where it was; the steps before stay
pub record WentOn {S : Type 0} (f : Frame) (before after : Seen S) (in_use : ℕ) (old new : List (List Asked)) : Type 0 where
  pub driven : IsDriven f after in_use old new
  pub one : length after.steps ≡ suc (length before.steps)
  pub step : Step
  pub steps : after.steps ≡ before.steps ++ step ∷ []
  pub next : Of f before (λ w. (v : World) × Next f w step v)

-- memory lacked: the steps lead to a world that is going, each packet that came was the first of those that were ready, and the wires were
-- used but for a last question; those behind the one in use were asked nothing; each question about an act was in time
pub record HasStopped {S : Type 0} (f : Frame) (s : Seen S) (old new : List (List Asked)) : Type 0 where
  pub world : World
  pub replays : Replays f s.steps world
  pub first : LeadsFirst f (opening_world f) s.steps world
  pub going : standing f world ≡ Going
  pub told : HaveToldOn old new
  pub used : WereUsedUpTo f s.steps world (asked_since old new)
  pub unused : NoneAskedBehind world.swaps (asked_since old new)
  pub in_time : AreInTime f s.steps (asked_since old new)

-- ---- step by step

-- what contracts see of a run that is stepped through: its world, and the number of the wire in use
pub record Stepping (S : Type 0) : Type 0 where
  pub world : Seen S
  pub in_use : ℕ

-- it stands between two events, or memory lacked for the next one
abbrev pub HasCome : {S : Type 0} → Frame → Stepping S → List (List Asked) → List (List Asked) → Type 0
HasCome f s old new = IsDriven f s.world s.in_use old new ⊎ HasStopped f s.world old new
