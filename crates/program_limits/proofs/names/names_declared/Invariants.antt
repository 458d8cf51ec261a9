use Rattle.std.proofs.Common.{◌≡◌, ◌+◌, drop}
use Rattle.program_limits.specs.Counted.{names_in_declarations}
use Rattle.program_limits.proofs.names.names_declared.Given as goal

abbrev pub invariant-declarations : goal.invariant-declarations
invariant-declarations l = l.count + names_in_declarations (drop l.declaration-index l.declarations) ≡ names_in_declarations l.declarations
