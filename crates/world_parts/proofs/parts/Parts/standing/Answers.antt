use Rattle.std.proofs.Common.{◌∙◌, ap}
use Rattle.world_rules.specs.Standings.{after_limit}
use Rattle.world_parts.proofs.parts.Parts.standing.Goals as goal

pub returns-in-Some : goal.returns-in-Some
returns-in-Some g c w is = ap (after_limit g.P.OneRun.run.frame w) (c.in-Some.ensures {u = tt} w is)

pub returns-in-None : goal.returns-in-None
returns-in-None g c w is = c.within_limits.ensures w is ∙ ap (after_limit g.P.OneRun.run.frame w) (c.in-None.ensures {u = tt} w is)
