use Rattle.std.proofs.Common.{ap, sym}
use Rattle.value_core.specs.Datum.{list_of}
use Rattle.value_core.specs.View.{datum_of}
use Rattle.graph_values.specs.Graphs.{node_in, value_at}
use Rattle.graph_values.proofs.Forms.{stands_there, value_told}
use Rattle.graph_values.proofs.graph.node.Goals as goal

pub returns : goal.returns
returns c =
    let xs = list_of c.in_ok-nodes.nodes.now in
    let place = c.in_ok-place.place in
    let stands = stands_there c.args.name _ xs place c.ranges.name (c.in_ok-place.ensures {u = tt}) c.as_slice.ensures in
    value_told c.args.name xs place (datum_of c.in_ok-get.field-0.now) _ (node_in c.args.name (datum_of c.args.graph.now)) stands (sym (c.in_ok-get.ensures {u = tt})) c.field_of.ensures
    (ap (value_at c.args.name) (sym (c.in_ok-nodes.ensures {u = tt})))
