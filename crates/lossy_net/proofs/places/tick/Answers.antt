use Rattle.std.proofs.Common.{length, arith, ◌<◌}
use Rattle.lossy_net.proofs.Steps.{one_nearer}
use Rattle.lossy_net.proofs.places.tick.Goals as goal

pub loop-flight-preserved : goal.loop-flight-preserved
loop-flight-preserved c =
    let lt : c.loop-flight.flight-index < length c.make_contiguous-row.result.now = omega arith in
    one_nearer c.loop-flight.row c.make_contiguous-row.result.now c.loop-flight.flight-index c.saturating_sub-flight.result c.flight-item.result c.loop-flight.invariant lt c.saturating_sub-flight.ensures
