use Rattle.std.proofs.Common.{◌≡◌, ◌+◌, drop}
use Rattle.program_limits.specs.Counted.{words_in_units}
use Rattle.program_limits.proofs.limits.words_of_all.Given as goal

abbrev pub invariant-units : goal.invariant-units
invariant-units l = l.count + words_in_units (drop l.unit-index l.units) ≡ words_in_units l.units
