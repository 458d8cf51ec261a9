use Rattle.std.proofs.Common.{◌∙◌, ap}
use Rattle.object_manager.specs.After.{Copied}
use Rattle.world_rules.specs.Standings.{waits_in}
use Rattle.world_parts.proofs.Waiting.{waits_so}
use Rattle.world_parts.proofs.standing.is_waiting.Goals as goal

pub returns : goal.returns
returns g c = waits_so c.copies.result.now.waits c.args.process c.is_waiting.result c.is_waiting.ensures ∙ ap (λ (d : Copied). waits_in c.args.process.0 d.waits) c.copies.ensures
