use Rattle.std.proofs.Common.{◌≡◌, ◌++◌, drop, map}
use Rattle.value_core.specs.Datum.{list_of}
use Rattle.value_core.specs.View.{datum_of}
use Rattle.frame_variables.proofs.frame.add_copies.Given as goal

-- what was copied, and what is left
abbrev pub invariant-values : goal.invariant-values
invariant-values l = list_of l.all ++ map datum_of (drop l.value-index l.values) ≡ list_of l.initial.all ++ map datum_of l.values
