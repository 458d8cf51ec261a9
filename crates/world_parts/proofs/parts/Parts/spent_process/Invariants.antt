use Rattle.std.proofs.Common.{◌≡◌, None}
use Rattle.world_rules.specs.Standings.{has_no_turns}
use Rattle.world_rules.specs.Worlds.{World, played_in}
use Rattle.world_parts.specs.Choosing.{lowest}
use Rattle.world_parts.specs.Standing.{IsWorld}
use Rattle.world_parts.proofs.parts.Parts.spent_process.Given as goal

abbrev pub invariant-processes : goal.invariant-processes
invariant-processes g l =
    (w : World) → IsWorld g.P.OneRun.stood g.P.OneRun.left g.P.OneRun.run.frame l.self w → lowest l.process (λ i. has_no_turns g.P.OneRun.run.frame (played_in g.P.OneRun.run.frame w i)) ≡ None
