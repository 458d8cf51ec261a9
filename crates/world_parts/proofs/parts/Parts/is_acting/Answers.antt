use Rattle.std.proofs.Common.{◌∙◌, ap}
use Rattle.world_rules.specs.Steps.{is_acting}
use Rattle.world_rules.specs.Worlds.{played_in}
use Rattle.node_parts.specs.Shown.{on_stage}
use Rattle.world_parts.proofs.Staging.{acts_none, acts_there}
use Rattle.world_parts.proofs.parts.Parts.is_acting.Goals as goal

pub returns-in-Some : goal.returns-in-Some
returns-in-Some g c w is =
    c.is_acting.ensures ∙ ap (λ stage. is_acting (on_stage stage)) c.stage.ensures
    ∙ acts_there g.P.OneRun.stood g.P.OneRun.left c.args.process.0 c.in-Some.resident.now (played_in g.P.OneRun.run.frame w c.args.process.0) (c.in-Some.ensures {u = tt} w is)

pub returns-in-None : goal.returns-in-None
returns-in-None g c w is = acts_none g.P.OneRun.stood g.P.OneRun.left c.args.process.0 (played_in g.P.OneRun.run.frame w c.args.process.0) (c.in-None.ensures {u = tt} w is)
