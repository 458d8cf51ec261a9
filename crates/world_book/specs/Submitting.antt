-- What a process is at: in every run a process at an action that wasn't carried out may submit it.
use Rattle.std.specs.Prelude.{◌≡◌, ℕ, List}
use Rattle.value_core.specs.Meaning.{Computes, Performs}
use Rattle.world_rules.specs.declared.event.Step.{Step}
use Rattle.world_rules.specs.Frame.{AreSettings, Frame}
use Rattle.world_rules.specs.Steps.{Replays}
use Rattle.world_rules.specs.Worlds.{World}
use Rattle.world_law.specs.Grouped.{MaySubmit}

-- so `group_steps` of world_law speaks of each of these runs
abbrev pub ProcessesMaySubmit : Performs → Computes → Type 0
ProcessesMaySubmit p q =
    (f : Frame) → f.performs ≡ p → f.computes ≡ q → AreSettings f.settings → (steps : List Step) (w : World) →
    Replays f steps w → (i : ℕ) → MaySubmit f w i
