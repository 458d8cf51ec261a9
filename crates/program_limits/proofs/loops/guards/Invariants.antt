use Rattle.std.proofs.Common.{◌≡◌, ◌+◌, drop}
use Rattle.program_limits.specs.Counted.{loops_in_guards}
use Rattle.program_limits.proofs.loops.guards.Given as goal

abbrev pub invariant-guards : goal.invariant-guards
invariant-guards l = l.count + loops_in_guards (drop l.guard-index l.others) ≡ loops_in_guards l.others
