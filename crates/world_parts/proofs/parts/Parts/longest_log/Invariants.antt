use Rattle.std.proofs.Common.{◌≡◌}
use Rattle.world_rules.specs.Worlds.{World}
use Rattle.world_facts.specs.Logs.{longest_below}
use Rattle.world_parts.specs.Standing.{IsWorld}
use Rattle.world_parts.proofs.parts.Parts.longest_log.Given as goal

abbrev pub invariant-members : goal.invariant-members
invariant-members g l = (w : World) → IsWorld g.P.OneRun.stood g.P.OneRun.left g.P.OneRun.run.frame l.self w → l.longest ≡ longest_below l.member w
