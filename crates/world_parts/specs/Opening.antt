-- The members of a run before its first event.
use Rattle.std.specs.Prelude.{◌≡◌, ℕ, List, length, None, Some, slice_get}
use Rattle.node_core.specs.Pieces.{resident_at}
use Rattle.node_parts.specs.Shown.{Left, Stood}
use Rattle.node_core.specs.Stands.{StandsAs}
use Rattle.node_core.specs.declared.node.Node.{Node}
use Rattle.node_parts.specs.declared.resident.Resident.{Resident}
use Rattle.world_rules.specs.Frame.{Frame}
use Rattle.world_rules.specs.Nodes.{opening_node}

-- they are the first so many, as all members begin, and no task is out
pub record AreOpening {P S : Type 0} (stood : Stood S) (left : Left S) (f : Frame) (count : ℕ) (nodes : List (Node P S)) : Type 0 where
  pub many : length nodes ≡ count
  pub each : (m : ℕ) (node : Node P S) → slice_get nodes m ≡ Some node → StandsAs stood left f m node (opening_node f m)
  pub none :
      (m i : ℕ) (node : Node P S) (r : Resident S) → slice_get nodes m ≡ Some node → resident_at node i ≡ Some r → r.out ≡ None
