use Rattle.std.proofs.Common.{◌∙◌, ap}
use Rattle.world_rules.specs.Standings.{rests_at}
use Rattle.world_rules.specs.Worlds.{played_in}
use Rattle.node_parts.specs.Shown.{on_stage}
use Rattle.world_parts.proofs.Ruling.{rests_none, rests_there}
use Rattle.world_parts.proofs.parts.Parts.rests.Goals as goal

pub returns-in-Some : goal.returns-in-Some
returns-in-Some g c w is =
    rests_there g.P.OneRun.stood g.P.OneRun.left g.P.OneRun.run.frame w c.args.process.0 c.in-Some.resident.now (played_in g.P.OneRun.run.frame w c.args.process.0) _ (c.in-Some.ensures {u = tt} w is)
    (c.rests_as.ensures w is ∙ ap (λ stage. rests_at g.P.OneRun.run.frame w c.args.process.0 (on_stage stage)) c.stage.ensures)

pub returns-in-None : goal.returns-in-None
returns-in-None g c w is = rests_none g.P.OneRun.stood g.P.OneRun.left g.P.OneRun.run.frame w c.args.process.0 (played_in g.P.OneRun.run.frame w c.args.process.0) (c.in-None.ensures {u = tt} w is)
