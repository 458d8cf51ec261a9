use Rattle.std.proofs.Common.{take, map}
use Rattle.world_parts.specs.Standing.{IsWorld}
use Rattle.world_rules.specs.Worlds.{World}
use Rattle.run_ends.specs.Telling.{HasHeard}
use Rattle.run_ends.proofs.telling.heard.Given as goal

abbrev pub invariant-lines : goal.invariant-lines
invariant-lines g l = (w : World) → IsWorld g.P.OneRun.stood g.P.OneRun.left g.P.OneRun.run.frame l.parts w → HasHeard g.P.OneRun.run.frame w (take l.line-index l.lines) (map (λ v. v.items) l.replies.items)
