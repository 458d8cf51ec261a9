-- Faulty steps, as idle stretches count faults.
use Rattle.std.specs.Prelude.{◌<◌, ◌↔◌, List}
use Rattle.world_rules.specs.declared.event.Step.{Step}
use Rattle.world_enough.specs.Faultless.{IsFaulty}
use Rattle.world_idle.specs.Faults.{last_fault}

-- steps are faulty exactly where their last fault has a number
abbrev pub FaultsAreNumbered : Type 0
FaultsAreNumbered = (steps : List Step) → IsFaulty steps ↔ (0 < last_fault steps)
