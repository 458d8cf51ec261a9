use Rattle.value_core.specs.Datum.{list_of}
use Rattle.value_core.specs.View.{datum_of}
use Rattle.value_writes.proofs.Changed.{absent_there, dropped_is, nowhere, stands_there}
use Rattle.value_writes.proofs.graphs.drop_node.Goals as goal

pub returns-in-Some-clause-ok : goal.returns-in-Some-clause-ok
returns-in-Some-clause-ok c =
    let xs = list_of c.args.nodes.now in
    let stands = stands_there c.args.name _ xs c.in-Some.place c.ranges.name (c.in-Some.ensures {u = tt}) c.as_slice.ensures in
    dropped_is c.args.name xs (list_of c.remove.new.self) c.in-Some.place (datum_of c.remove.result) stands c.remove.ensures.old c.remove.ensures.new

pub returns-in-None-clause-fault : goal.returns-in-None-clause-fault
returns-in-None-clause-fault c =
    rw c.fail.ensures (nowhere c.args.name (list_of c.args.nodes.now) _ (absent_there c.args.name _ (list_of c.args.nodes.now) c.ranges.name (c.in-None.ensures {u = tt}) c.as_slice.ensures))
