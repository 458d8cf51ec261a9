-- Which events may be: none is possible in a run that isn't going.
use Rattle.std.specs.Prelude.{◌≡◌, ◌↔◌, ℕ, length}
use Rattle.world_rules.specs.declared.event.Event.{Event}
use Rattle.world_rules.specs.declared.event.Event.TheVariants as event
use Rattle.world_rules.specs.declared.event.Step.{Step}
use Rattle.world_rules.specs.declared.standing.Standing.TheVariants.{Going}
use Rattle.world_rules.specs.Frame.{Frame}
use Rattle.world_rules.specs.OneCell.{one_cell, one_cell_end}
use Rattle.world_rules.specs.Standings.{standing}
use Rattle.world_rules.specs.Steps.{Known, Next, Possible, after_step, happens}
use Rattle.world_rules.specs.Worlds.{World}

-- the event is possible: the run is going, and it is where the event may be
abbrev pub MayStep : Frame → World → Event → Type 0
MayStep f w event = (standing f w ≡ Going) × ((given : Known event) × Possible f w event given)

-- how many packets it sends
abbrev pub packets_sent : (f : Frame) (w : World) (event : Event) → MayStep f w event → ℕ
packets_sent f w event may = length (happens f w event may.1.0).mails

-- a step: its event is possible, it has as many fates as packets, and it leaves this world
abbrev pub IsStep : Frame → World → Step → World → Type 0
IsStep f w step v =
    (may : MayStep f w step.event) × (length step.fates ≡ packets_sent f w step.event may) × (v ≡ after_step f w step may.1.0)

pub record StepsMay : Type 0 where
  pub steps : (f : Frame) (w : World) (step : Step) (v : World) → Next f w step v ↔ IsStep f w step v
  -- so in a run that isn't going no event is possible, though it may be where it may be: as a tick is at the end of the run of one cell
  pub none : (f : Frame) (w : World) → (standing f w ≡ Going → ⊥) → (event : Event) → MayStep f w event → ⊥
  pub tick : Possible one_cell one_cell_end event.Tick tt
  pub no_tick : MayStep one_cell one_cell_end event.Tick → ⊥
