use Rattle.std.proofs.Common.{◌≡◌, length}
use Rattle.code_exprs.specs.Jumps.{aimed}
use Rattle.emitted_code.specs.Views.{code_of}
use Rattle.code_exprs.proofs.statements.fill.Given as goal

abbrev pub invariant-holes : goal.invariant-holes
invariant-holes l = aimed l.left.items l.to (code_of l.out) ≡ aimed l.fn.holes.items l.to (code_of l.initial.out)

abbrev pub decreases-holes : goal.decreases-holes
decreases-holes l = length l.left.items
