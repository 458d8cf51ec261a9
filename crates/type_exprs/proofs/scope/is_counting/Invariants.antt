use Rattle.std.proofs.Common.{◌≡◌, drop}
use Rattle.type_exprs.specs.Scoped.{counts}
use Rattle.type_exprs.proofs.scope.is_counting.Given as goal

abbrev pub invariant-loops : goal.invariant-loops
invariant-loops l = counts (drop l.own-index l.loops) l.name ≡ counts l.loops l.name
