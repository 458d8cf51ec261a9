use Rattle.std.proofs.Common.{◌∙◌, sym}
use Rattle.value_core.specs.View.{datum_of}
use Rattle.frame_variables.proofs.Enlarging.{has_nodes, no_graph}
use Rattle.frame_variables.proofs.graphs.beside_node.Goals as goal

pub returns-then-is_empty-clause-grows : goal.returns-then-is_empty-clause-grows
returns-then-is_empty-clause-grows c = no_graph (datum_of c.args.graph.now)

pub returns-else-is_empty-clause-grows : goal.returns-else-is_empty-clause-grows
returns-else-is_empty-clause-grows c =
    has_nodes (datum_of c.args.graph.now) c.nodes_of.result.now c.nodes_of.ensures (sym c.is_empty.ensures ∙ c.if-is_empty.false)
