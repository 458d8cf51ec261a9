use Rattle.std.proofs.Common.{◌≡◌, ◌≤◌}
use Rattle.group_rules.specs.Sets.{count}
use Rattle.world_rules.specs.Worlds.{World}
use Rattle.world_parts.specs.Rows.{is_lost}
use Rattle.world_parts.specs.Standing.{IsWorld}
use Rattle.world_parts.proofs.parts.Parts.lost.Given as goal

abbrev pub invariant-members : goal.invariant-members
invariant-members g l = (l.lost ≤ l.member) × ((w : World) → IsWorld g.P.OneRun.stood g.P.OneRun.left g.P.OneRun.run.frame l.self w → l.lost ≡ count l.member (is_lost w))
