use Rattle.std.proofs.Common.{◌≡◌, None}
use Rattle.world_rules.specs.Standings.{limit_below}
use Rattle.world_rules.specs.Worlds.{World}
use Rattle.world_parts.specs.Standing.{IsWorld}
use Rattle.world_parts.proofs.parts.Parts.members_limit.Given as goal

abbrev pub invariant-members : goal.invariant-members
invariant-members g l = (w : World) → IsWorld g.P.OneRun.stood g.P.OneRun.left g.P.OneRun.run.frame l.self w → limit_below g.P.OneRun.run.frame w l.member ≡ None
