use Rattle.value_core.specs.View.{datum_of}
use Rattle.value_ops.specs.Elements.{IsInOrder}
use Rattle.value_rows.proofs.element_rows.done_all.Given as goal

abbrev pub invariant-loop-deed : goal.invariant-loop-deed
invariant-loop-deed l = IsInOrder (datum_of l.all)
