use Rattle.std.proofs.Common.{◌≡◌, ◌+◌, drop}
use Rattle.program_limits.specs.Counted.{names_in_heads}
use Rattle.program_limits.proofs.names.in_heads.Given as goal

abbrev pub invariant-heads : goal.invariant-heads
invariant-heads l = l.count + names_in_heads (drop l.head-index l.heads) ≡ names_in_heads l.heads
