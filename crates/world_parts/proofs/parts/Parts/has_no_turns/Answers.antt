use Rattle.world_rules.specs.Worlds.{played_in}
use Rattle.world_parts.proofs.Ruling.{turns_none, turns_there}
use Rattle.world_parts.proofs.parts.Parts.has_no_turns.Goals as goal

pub returns-in-Some : goal.returns-in-Some
returns-in-Some g c w is =
    turns_there g.P.OneRun.stood g.P.OneRun.left g.P.OneRun.run.frame c.args.self.now.numbers.turns c.args.process.0 c.in-Some.resident.now (played_in g.P.OneRun.run.frame w c.args.process.0) _ c.requires.numbers.turns (c.in-Some.ensures {u = tt} w is) c.is_spent.ensures

pub returns-in-None : goal.returns-in-None
returns-in-None g c w is = turns_none g.P.OneRun.stood g.P.OneRun.left g.P.OneRun.run.frame c.args.process.0 (played_in g.P.OneRun.run.frame w c.args.process.0) (c.in-None.ensures {u = tt} w is)
