use Rattle.std.proofs.Common.{arith}
use Rattle.node_core.proofs.Reaching.{held_next, held_none, held_this}
use Rattle.node_core.proofs.owning.is_held.Goals as goal

pub returns-then-is_same : goal.returns-then-is_same
returns-then-is_same c =
    held_this c.args.errand.now c.other-item.result c.args.held.now c.errands.other-index c.is_same.result (omega arith) c.other-item.is c.is_same.ensures c.if-is_same.true c.errands.invariant

pub errands-preserved : goal.errands-preserved
errands-preserved c =
    held_next c.args.errand.now c.other-item.result c.args.held.now c.errands.other-index c.is_same.result (omega arith) c.other-item.is c.is_same.ensures c.if-is_same.false c.errands.invariant

pub returns : goal.returns
returns c = held_none c.args.errand.now c.args.held.now c.errands.other-index (omega arith) c.errands.invariant
