use Rattle.std.proofs.Common.{◌≡◌, ◌+◌, drop}
use Rattle.program_limits.specs.Counted.{names_in_operations}
use Rattle.program_limits.proofs.names.in_operations.Given as goal

abbrev pub invariant-operations : goal.invariant-operations
invariant-operations l = l.count + names_in_operations (drop l.operation-index l.operations) ≡ names_in_operations l.operations
