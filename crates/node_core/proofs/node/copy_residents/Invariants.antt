use Rattle.std.proofs.Common.{◌≡◌, take}
use Rattle.node_core.proofs.node.copy_residents.Given as goal

abbrev pub invariant-residents : goal.invariant-residents
invariant-residents g l = l.copied.items ≡ take l.resident-index l.residents
