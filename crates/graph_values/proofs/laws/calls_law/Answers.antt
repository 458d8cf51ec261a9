use Rattle.graph_values.specs.Graphs.{empty_graph}
use Rattle.graph_values.proofs.Told.{calls_keep, empty_is_graph, names_given, nodes_told}
use Rattle.graph_values.proofs.laws.calls_law.Goals as goal

pub returns-clause-names : goal.returns-clause-names
returns-clause-names c calls = names_given empty_graph calls

pub returns-clause-nodes : goal.returns-clause-nodes
returns-clause-nodes c calls name = nodes_told name empty_graph calls empty_is_graph

pub returns-clause-graph : goal.returns-clause-graph
returns-clause-graph c calls = calls_keep empty_graph calls empty_is_graph
