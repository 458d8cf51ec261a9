use Rattle.std.proofs.Common.{◌∙◌, sym}
use Rattle.world_core.proofs.Running.{no_burst}
use Rattle.world_core.proofs.events.bursts.Goals as goal

pub computes-requires-clause-may : goal.computes-requires-clause-may
computes-requires-clause-may g c w is = sym (c.may_burst.ensures w is) ∙ c.if-may_burst.true

pub returns-else-may_burst-clause-refused : goal.returns-else-may_burst-clause-refused
returns-else-may_burst-clause-refused g c err w is = no_burst g.P.OneRun.run.frame w c.args.process c.args.place c.args.turns (sym (c.may_burst.ensures w is) ∙ c.if-may_burst.false)
