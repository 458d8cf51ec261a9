use Rattle.std.proofs.Common.{◌≡◌, length}
use Rattle.world_parts.specs.Seen.{Of}
use Rattle.world_rules.specs.Worlds.{longest}
use Rattle.follower_run.proofs.members.most_applied.Given as goal

-- of those below this number
abbrev pub invariant-members : goal.invariant-members
invariant-members g l = Of g.P.OneRun.run.frame l.world (λ w. l.most ≡ length (longest l.member w))
