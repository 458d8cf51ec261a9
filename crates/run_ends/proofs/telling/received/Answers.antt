use Rattle.std.proofs.Common.{◌∙◌, ap}
use Rattle.orca_base.specs.declared.ids.CallNo.{CallNo}
use Rattle.world_rules.specs.Worlds.{played_in}
use Rattle.run_ends.proofs.Books.{heard_none, heard_there}
use Rattle.run_ends.proofs.telling.received.Goals as goal

pub returns-in-Some : goal.returns-in-Some
returns-in-Some g c w is =
    ap (λ (n : CallNo). n.0) c.next_call.ensures ∙ heard_there g.P.OneRun.stood g.P.OneRun.left c.args.process.0 c.in-Some.resident.now (played_in g.P.OneRun.run.frame w c.args.process.0) (c.in-Some.ensures {u = tt} w is)

pub returns-in-None : goal.returns-in-None
returns-in-None g c w is = heard_none g.P.OneRun.stood g.P.OneRun.left c.args.process.0 (played_in g.P.OneRun.run.frame w c.args.process.0) (c.in-None.ensures {u = tt} w is)
