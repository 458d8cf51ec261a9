use Rattle.std.proofs.Common.{ap, ◌∙◌, pos, subst, sym}
use Rattle.std.proofs.lemmas.Result.{IfOk-weaker}
use Rattle.value_core.specs.Datum as datum
use Rattle.graph_values.specs.Graphs.{IsGraph}
use Rattle.graph_values.proofs.Making.{empty_is}
use Rattle.graph_values.proofs.Told.{empty_is_graph}
use Rattle.graph_values.proofs.graph.new_graph.Goals as goal

pub returns-clause-empty : goal.returns-clause-empty
returns-clause-empty c =
    let none = empty_is c.new.result c.in_ok-nodes.nodes c.new.ensures (c.in_ok-nodes.ensures {u = tt}) in
    IfOk-weaker c.pair_of.result _ _
    (λ g h. h ∙ ap (λ w. datum.fields (datum.more (datum.int (pos 1)) (datum.more (datum.set w) datum.none))) none) c.pair_of.ensures

pub returns-clause-graph : goal.returns-clause-graph
returns-clause-graph c =
    let none = empty_is c.new.result c.in_ok-nodes.nodes c.new.ensures (c.in_ok-nodes.ensures {u = tt}) in
    IfOk-weaker c.pair_of.result _ _
    (λ g h. subst IsGraph (sym (h ∙ ap (λ w. datum.fields (datum.more (datum.int (pos 1)) (datum.more (datum.set w) datum.none))) none)) empty_is_graph) c.pair_of.ensures
