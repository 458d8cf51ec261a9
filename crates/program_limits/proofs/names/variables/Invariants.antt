use Rattle.std.proofs.Common.{◌≡◌, ◌+◌, drop}
use Rattle.program_limits.specs.Counted.{names_of_variables}
use Rattle.program_limits.proofs.names.variables.Given as goal

abbrev pub invariant-variables : goal.invariant-variables
invariant-variables l = l.count + names_of_variables (drop l.of_one_type-index l.all) ≡ names_of_variables l.all
