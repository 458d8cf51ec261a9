use Rattle.std.proofs.Common.{◌∙◌, ap, is_some}
use Rattle.net_rules.specs.Flights.{ready_copy}
use Rattle.world_parts.specs.Standing.{spelled}
use Rattle.world_core.proofs.Asking.{ready_here, ready_there}
use Rattle.world_core.proofs.Doing.{not_both}
use Rattle.world_core.proofs.events.delivers.Goals as goal

pub returns-else-is_ready-clause-refused : goal.returns-else-is_ready-clause-refused
returns-else-is_ready-clause-refused g c err w is given may =
    let there = ready_here g.P.OneRun.stood g.P.OneRun.left g.P.OneRun.run.frame c.args.parts.now w c.args.packet c.args.copy is in
    not_both c.is_ready.result c.if-is_ready.false
    (c.is_ready.ensures ∙ ap is_some there ∙ ready_there (spelled g.P.OneRun.run.frame.settings.nodes) (ready_copy c.args.packet c.args.copy w.flights) may)
