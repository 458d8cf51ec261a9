use Rattle.std.proofs.Common.{◌<◌, ◌≤◌}
use Rattle.world_rules.specs.Worlds.{World}
use Rattle.world_parts.proofs.Leading.{IsLeader}
use Rattle.world_parts.specs.Standing.{IsWorld}
use Rattle.world_parts.proofs.parts.Parts.leader.Given as goal

abbrev pub invariant-members : goal.invariant-members
invariant-members g l =
    (l.leader ≤ l.member) × (0 < l.member → l.leader < l.member)
    × ((w : World) → IsWorld g.P.OneRun.stood g.P.OneRun.left g.P.OneRun.run.frame l.self w → IsLeader w l.member l.leader l.most)
