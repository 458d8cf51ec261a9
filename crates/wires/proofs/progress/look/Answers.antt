use Rattle.std.proofs.Common.{sym, ◌∙◌}
use Rattle.wires.proofs.Distances.{goes_on}
use Rattle.wires.proofs.progress.look.Goals as goal

pub acts-preserved : goal.acts-preserved
acts-preserved c asked are =
    let false_ = sym (c.is_due.ensures asked are) ∙ c.if-is_due.false in
    goes_on asked c.acts.place c.args.acts.now _ c.acts.packets c.reach.result c.min-packets.result c.acts-test.true false_ (c.reach.ensures asked are false_) c.min-packets.ensures (c.acts.invariant asked are)
