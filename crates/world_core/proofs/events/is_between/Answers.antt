use Rattle.world_rules.specs.Worlds.{home_of, played_in}
use Rattle.world_core.proofs.Running.{between_none, between_there}
use Rattle.world_core.proofs.events.is_between.Goals as goal

pub returns-in-Some : goal.returns-in-Some
returns-in-Some g c w is =
    between_there g.P.OneRun.stood g.P.OneRun.left c.args.process.0 c.args.place c.applied_for-applied.result (w.nodes (home_of g.P.OneRun.run.frame w c.args.process.0)).member.applied c.in-Some.resident.now (played_in g.P.OneRun.run.frame w c.args.process.0) c.lies_between.result
    (c.in-Some.ensures {u = tt} w is) c.lies_between.ensures (c.applied_for-applied.ensures w is)

pub returns-in-None : goal.returns-in-None
returns-in-None g c w is =
    between_none g.P.OneRun.stood g.P.OneRun.left c.args.process.0 c.args.place (w.nodes (home_of g.P.OneRun.run.frame w c.args.process.0)).member.applied (played_in g.P.OneRun.run.frame w c.args.process.0) (c.in-None.ensures {u = tt} w is)
