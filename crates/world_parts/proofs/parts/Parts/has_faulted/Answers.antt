use Rattle.std.proofs.Common.{◌∙◌, ap}
use Rattle.world_rules.specs.Played.{has_faulted}
use Rattle.world_rules.specs.Worlds.{played_in}
use Rattle.node_parts.specs.Shown.{on_stage}
use Rattle.world_parts.proofs.Staging.{says_none, says_there}
use Rattle.world_parts.proofs.parts.Parts.has_faulted.Goals as goal

pub returns-in-Some : goal.returns-in-Some
returns-in-Some g c w is =
    c.is_faulted.ensures ∙ ap (λ stage. has_faulted (on_stage stage)) c.stage.ensures
    ∙ says_there g.P.OneRun.stood g.P.OneRun.left has_faulted c.args.process.0 c.in-Some.resident.now (played_in g.P.OneRun.run.frame w c.args.process.0) (c.in-Some.ensures {u = tt} w is)

pub returns-in-None : goal.returns-in-None
returns-in-None g c w is = says_none g.P.OneRun.stood g.P.OneRun.left has_faulted c.args.process.0 (played_in g.P.OneRun.run.frame w c.args.process.0) (c.in-None.ensures {u = tt} w is)
