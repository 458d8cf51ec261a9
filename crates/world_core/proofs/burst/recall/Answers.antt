use Rattle.std.proofs.Common.{refl}
use Rattle.world_core.proofs.Recalls.{recalled_stands}
use Rattle.world_core.proofs.burst.recall.Goals as goal

pub returns-clause-stands : goal.returns-clause-stands
returns-clause-stands g c = (recalled_stands g.P.OneRun.stood g.P.OneRun.left g.P.OneRun.run.frame c.args.parts.now (record c.args.parts.now { nodes = c.recall_all.new.nodes }) refl c.recall_all.ensures c.requires).0

pub returns-clause-out : goal.returns-clause-out
returns-clause-out g c = (recalled_stands g.P.OneRun.stood g.P.OneRun.left g.P.OneRun.run.frame c.args.parts.now (record c.args.parts.now { nodes = c.recall_all.new.nodes }) refl c.recall_all.ensures c.requires).1
