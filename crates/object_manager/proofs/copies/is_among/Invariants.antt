use Rattle.std.proofs.Common.{drop}
use Rattle.object_manager.specs.Singles.{IsCounted}
use Rattle.object_manager.proofs.copies.is_among.Given as goal

-- a pair that is looked for is among those that are left
abbrev pub invariant-loop-pair : goal.invariant-loop-pair
invariant-loop-pair l = IsCounted l.pairs l.object → IsCounted (drop l.pair-index l.pairs) l.object
