-- Each process is at its home: who plays it is the member on which its entry began it.
use Rattle.std.specs.Prelude.{◌≡◌, ◌<◌, ◌*◌, ℕ, Some, length}
use Rattle.world_rules.specs.declared.event.Step.{Step}
use Rattle.world_rules.specs.Frame.{Frame}
use Rattle.world_rules.specs.Nodes.{Node, known}
use Rattle.world_rules.specs.Played.{Played}
use Rattle.world_rules.specs.Processes.{home_in}
use Rattle.world_rules.specs.Steps.{Next}
use Rattle.world_rules.specs.Worlds.{World, home_of, opening_world}
use Rattle.world_law.specs.Grouped.{Grouped, Submits}

-- of the processes that a member knows it plays those that are its own, and no others; and its copies count those that it knows
pub record IsHome (f : Frame) (m : ℕ) (node : Node) : Type 0 where
  pub known_here : (i : ℕ) (r : Played) → node.played i ≡ Some r → i < length (known f node)
  pub home : (i : ℕ) (r : Played) → node.played i ≡ Some r → home_in (known f node) i ≡ m
  pub counted : node.copies.processes ≡ length (known f node)

abbrev pub AreHome : Frame → World → Type 0
AreHome f w = (m : ℕ) → IsHome f m (w.nodes m)

-- `step`, so it stays; `home`, so who plays a process is its home; `once`, and no two members play it
pub record StepsHome (f : Frame) : Type 0 where
  pub opening : AreHome f (opening_world f)
  pub step : (w v : World) (step : Step) → Next f w step v → Submits f w step.event → Grouped f w → AreHome f w → AreHome f v
  pub home : (w : World) (m i : ℕ) (r : Played) → Grouped f w → AreHome f w → (w.nodes m).played i ≡ Some r → home_of f w i ≡ m
  pub once :
      (w : World) (m k i : ℕ) (r s : Played) → Grouped f w → AreHome f w → (w.nodes m).played i ≡ Some r →
      (w.nodes k).played i ≡ Some s → m ≡ k

abbrev pub AllHome : Type 0
AllHome = (f : Frame) → 2 * f.settings.resilience < f.settings.nodes → StepsHome f
