use Rattle.std.proofs.Common.{◌≡◌, ◌++◌, map, take, drop}
use Rattle.node_core.specs.CheckingIn.{recalled}
use Rattle.node_core.proofs.task.recall_all.Given as goal

abbrev pub invariant-residents : goal.invariant-residents
invariant-residents g l = l.residents.items ≡ map recalled (take l.at l.initial.residents.items) ++ drop l.at l.initial.residents.items
