use Rattle.std.proofs.Common.{◌∙◌, ap}
use Rattle.world_rules.specs.Standings.{waits_for_group_at}
use Rattle.world_rules.specs.Worlds.{played_in}
use Rattle.node_parts.specs.Shown.{on_stage}
use Rattle.world_parts.proofs.Ruling.{waits_none, waits_there}
use Rattle.world_parts.proofs.parts.Parts.waits.Goals as goal

pub returns-in-Some : goal.returns-in-Some
returns-in-Some g c w is =
    waits_there g.P.OneRun.stood g.P.OneRun.left g.P.OneRun.run.frame w c.args.process.0 c.in-Some.resident.now (played_in g.P.OneRun.run.frame w c.args.process.0) _ (c.in-Some.ensures {u = tt} w is)
    (c.waits_as.ensures w is ∙ ap (λ stage. waits_for_group_at g.P.OneRun.run.frame w c.args.process.0 (on_stage stage)) c.stage.ensures)

pub returns-in-None : goal.returns-in-None
returns-in-None g c w is = waits_none g.P.OneRun.stood g.P.OneRun.left g.P.OneRun.run.frame w c.args.process.0 (played_in g.P.OneRun.run.frame w c.args.process.0) (c.in-None.ensures {u = tt} w is)
