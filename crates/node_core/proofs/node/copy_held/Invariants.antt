use Rattle.std.proofs.Common.{◌≡◌, take}
use Rattle.node_core.proofs.node.copy_held.Given as goal

abbrev pub invariant-errands : goal.invariant-errands
invariant-errands l = l.copied.items ≡ take l.errand-index l.held
