use Rattle.std.proofs.Common.{pos, ap, ◌∙◌, sym, subst, arith}
use Rattle.std.proofs.lemmas.Int.{ints}
use Rattle.value_core.specs.Datum as datum
use Rattle.graph_values.specs.Graphs.{IsGraph}
use Rattle.value_rows.proofs.Empty.{empty_is, pair_is}
use Rattle.value_rows.proofs.graph_rows.last_graph.Goals as goal

pub returns : goal.returns
returns c =
    let none = empty_is c.new.result c.in_ok-nodes.nodes c.new.ensures (c.in_ok-nodes.ensures {u = tt}) in
    let pair = pair_is c.new-fields.result c.push.new.self c.push-2.new.self c.in_ok-graph.graph (datum.int (pos 9223372036854775807)) (datum.set c.in_ok-nodes.nodes)
    c.new-fields.ensures (c.in_ok-push.ensures {u = tt}).ok (c.in_ok-push-2.ensures {u = tt}).ok (c.in_ok-graph.ensures {u = tt}) in
    subst IsGraph (sym (pair ∙ ap (λ w. datum.fields (datum.more (datum.int (pos 9223372036854775807)) (datum.more (datum.set w) datum.none))) none))
    (c.graphs_law.ensures.bare (pos 9223372036854775807) (omega (arith, ints)))
