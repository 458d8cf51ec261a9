-- All tasks of a run are ended.
use Rattle.std.specs.Prelude.{◌≡◌, ℕ, List, length, Some, slice_get}
use Rattle.node_core.specs.CheckingIn.{HasRecalled}
use Rattle.node_parts.specs.Shown.{Left, Stood}
use Rattle.node_core.specs.Stands.{StandsAlike}
use Rattle.node_core.specs.declared.node.Node.{Node}

-- the member is this one with no task out, and stands for whatever that stood for
pub record IsRecalled {P S : Type 0} (stood : Stood S) (left : Left S) (old : List (Node P S)) (m : ℕ) (after : Node P S) : Type 0 where
  pub before : Node P S
  pub here : slice_get old m ≡ Some before
  pub recalled : HasRecalled before after
  pub alike : StandsAlike stood left before after

-- so is each
pub record AreRecalled {P S : Type 0} (stood : Stood S) (left : Left S) (old new : List (Node P S)) : Type 0 where
  pub count : length new ≡ length old
  pub each : (m : ℕ) (after : Node P S) → slice_get new m ≡ Some after → IsRecalled stood left old m after
