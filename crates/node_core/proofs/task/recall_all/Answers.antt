use Rattle.std.proofs.Common.{◌<◌, length, ap, ◌∙◌, arith}
use Rattle.node_core.specs.CheckingIn.{recalled}
use Rattle.node_core.proofs.TakingIn.{one_recalled}
use Rattle.node_core.proofs.task.recall_all.Goals as goal

pub residents-preserved : goal.residents-preserved
residents-preserved g c =
    let below = c.residents-test.true in
    let end = c.len-at-end.ensures in
    let within : c.residents.at < length c.args.residents.now.items = omega (arith, below, end) in
    one_recalled c.residents.residents.items c.args.residents.now.items c.residents.at c.index_mut.result.now c.recall_one.new.resident c.residents.invariant within
    (c.recall_one.ensures ∙ ap recalled c.index_mut.ensures.value)
