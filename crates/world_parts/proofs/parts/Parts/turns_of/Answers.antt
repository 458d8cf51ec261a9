use Rattle.std.proofs.Common.{◌∙◌}
use Rattle.world_rules.specs.Worlds.{played_in}
use Rattle.world_parts.proofs.Turns.{took_none, took_there}
use Rattle.world_parts.proofs.parts.Parts.turns_of.Goals as goal

pub returns-in-Some : goal.returns-in-Some
returns-in-Some g c w is = c.turns.ensures ∙ took_there g.P.OneRun.stood g.P.OneRun.left c.args.process.0 c.in-Some.resident.now (played_in g.P.OneRun.run.frame w c.args.process.0) (c.in-Some.ensures {u = tt} w is)

pub returns-in-None : goal.returns-in-None
returns-in-None g c w is = took_none g.P.OneRun.stood g.P.OneRun.left c.args.process.0 (played_in g.P.OneRun.run.frame w c.args.process.0) (c.in-None.ensures {u = tt} w is)
