use Rattle.value_core.specs.View.{datum_of}
use Rattle.graph_values.specs.Graphs.{IsGraph}
use Rattle.value_rows.proofs.graph_rows.done_all.Given as goal

abbrev pub invariant-loop-deed : goal.invariant-loop-deed
invariant-loop-deed l = IsGraph (datum_of l.graph)
