use Rattle.std.proofs.Common.{◌≡◌, ◌≤◌, length, drop}
use Rattle.type_rules.specs.Types.{same_layers}
use Rattle.type_exprs.proofs.kinds.same_layers.Given as goal

abbrev pub invariant-layers : goal.invariant-layers
invariant-layers l = (l.left ≤ length l.one) × (length l.one ≡ length l.other) × (l.same ≡ same_layers (drop l.left l.one) (drop l.left l.other))

abbrev pub decreases-layers : goal.decreases-layers
decreases-layers l = l.left
