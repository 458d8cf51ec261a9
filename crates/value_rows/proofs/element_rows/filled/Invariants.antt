use Rattle.value_core.specs.View.{datum_of}
use Rattle.value_ops.specs.Elements.{IsInOrder}
use Rattle.value_rows.proofs.element_rows.filled.Given as goal

abbrev pub invariant-loop-number : goal.invariant-loop-number
invariant-loop-number l = IsInOrder (datum_of l.all)
