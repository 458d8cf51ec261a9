use Rattle.std.proofs.lemmas.List.Elements.{recursion_from_All}
use Rattle.graph_values.specs.Graphs.{nodes_in}
use Rattle.graph_values.specs.SoundNodes.{IsSoundNode}
use Rattle.graph_values.proofs.Sound as graph
use Rattle.graph_values.proofs.Told.{bare_is_graph}
use Rattle.graph_values.proofs.laws.graphs_law.Goals as goal

pub returns-clause-bare : goal.returns-clause-bare
returns-clause-bare c = bare_is_graph

pub returns-clause-added : goal.returns-clause-added
returns-clause-added c = graph.kept_added

pub returns-clause-deleted : goal.returns-clause-deleted
returns-clause-deleted c = graph.kept_deleted

pub returns-clause-assigned : goal.returns-clause-assigned
returns-clause-assigned c = graph.kept_assigned

pub returns-clause-rises : goal.returns-clause-rises
returns-clause-rises c = graph.set_rises

pub returns-clause-sound : goal.returns-clause-sound
returns-clause-sound c g h fits sound = graph.graph_sound g h fits (recursion_from_All IsSoundNode (nodes_in g) sound)

pub returns-clause-nodes_sound : goal.returns-clause-nodes_sound
returns-clause-nodes_sound c = graph.nodes_sound

pub returns-clause-size_added : goal.returns-clause-size_added
returns-clause-size_added c = graph.size_added

pub returns-clause-size_deleted : goal.returns-clause-size_deleted
returns-clause-size_deleted c = graph.size_deleted

pub returns-clause-size_assigned : goal.returns-clause-size_assigned
returns-clause-size_assigned c = graph.size_assigned
