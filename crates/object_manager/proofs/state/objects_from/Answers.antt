use Rattle.std.proofs.Common.{◌∙◌}
use Rattle.object_manager.proofs.Sending.{put_next}
use Rattle.object_manager.proofs.state.objects_from.Goals as goal

pub loop-entry-preserved : goal.loop-entry-preserved
loop-entry-preserved c =
    let same = c.in_ok-copy.ensures {u = tt} in
    let entry = c.entry-item.result in
    (c.in_ok-put.ensures {u = tt}).ok
    ∙ put_next c.args.entries.now c.loop-entry.entry-index entry c.loop-entry.objects _ c.loop-entry-test.true c.entry-item.is (λ i. record { kind = entry.kind; state = same i }) c.loop-entry.invariant c.requires
