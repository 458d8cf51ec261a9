-- The list of a run: what any member applied. It grows at its end alone, and each member's entries begin it.
use Rattle.std.specs.Prelude.{◌≡◌, ◌<◌, ◌*◌, ℕ, List, ◌++◌}
use Rattle.value_core.specs.declared.message.Message.{Message}
use Rattle.group_rules.specs.Sets.{Begins}
use Rattle.world_rules.specs.declared.event.Step.{Step}
use Rattle.world_rules.specs.Frame.{Frame}
use Rattle.world_rules.specs.Nodes.{entries_of}
use Rattle.world_rules.specs.Steps.{Next}
use Rattle.world_rules.specs.Worlds.{World, agreed, applied_at}
use Rattle.world_law.specs.Grouped.{Grouped, Submits}

-- `begin`, what a member applied, and what its copies did, is the list's beginning; `some`, the list is what some member applied
pub record OneList (f : Frame) (w : World) : Type 0 where
  pub begin : (m : ℕ) → m < f.settings.nodes → Begins (applied_at w m) (agreed f w)
  pub copies : (m : ℕ) → m < f.settings.nodes → entries_of (w.nodes m) ≡ applied_at w m
  pub some : (m : ℕ) × (m < f.settings.nodes) × (agreed f w ≡ applied_at w m)

-- a step puts entries at its end
pub record ListsGrow (f : Frame) : Type 0 where
  pub one : (w : World) → Grouped f w → OneList f w
  pub grows :
      (w v : World) (step : Step) → Next f w step v → Submits f w step.event → Grouped f w →
      (more : List Message) × (agreed f v ≡ agreed f w ++ more)

abbrev pub AllGrow : Type 0
AllGrow = (f : Frame) → 2 * f.settings.resilience < f.settings.nodes → ListsGrow f
