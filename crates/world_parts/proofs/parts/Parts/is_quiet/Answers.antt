use Rattle.std.proofs.Common.{not, ap}
use Rattle.world_parts.proofs.Quiet.{quiet_busy, quiet_due}
use Rattle.world_parts.proofs.parts.Parts.is_quiet.Goals as goal

pub returns-then-not-is_some : goal.returns-then-not-is_some
returns-then-not-is_some g c w is =
    quiet_busy g.P.OneRun.stood g.P.OneRun.left g.P.OneRun.run.frame c.args.self.now w is _ c.first_ready.result c.is_some.result c.some_busy.result c.first_ready.ensures.first c.is_some.ensures (ap not c.if-not-is_some.true) (c.some_busy.ensures w is)

pub returns-else-not-is_some : goal.returns-else-not-is_some
returns-else-not-is_some g c w is =
    quiet_due g.P.OneRun.stood g.P.OneRun.left g.P.OneRun.run.frame c.args.self.now w is _ c.first_ready.result c.is_some.result c.first_ready.ensures.first c.is_some.ensures (ap not c.if-not-is_some.false)
