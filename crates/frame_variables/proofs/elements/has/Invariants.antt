use Rattle.std.proofs.Common.{◌≡◌, drop, map}
use Rattle.value_core.specs.View.{datum_of}
use Rattle.value_ops.specs.Elements as rules
use Rattle.frame_variables.proofs.elements.has.Given as goal

abbrev pub invariant-values : goal.invariant-values
invariant-values l = rules.has (datum_of l.element) (map datum_of (drop l.value-index l.values)) ≡ rules.has (datum_of l.element) (map datum_of l.values)
