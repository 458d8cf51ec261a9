use Rattle.std.proofs.Common.{◌≡◌, ◌<◌, IfSome}
use Rattle.join_law.specs.Rounds.{ahead}
use Rattle.world_parts.specs.Seen.{Of}
use Rattle.follower_run.proofs.members.ahead.Given as goal

-- of those below this number
abbrev pub invariant-members : goal.invariant-members
invariant-members g l =
    Of g.P.OneRun.run.frame l.world (λ w. l.found ≡ ahead g.P.OneRun.run.frame w l.member)
    × IfSome l.found (λ m. m < g.P.OneRun.run.frame.settings.nodes)
