use Rattle.std.proofs.Common.{◌≡◌, None}
use Rattle.world_rules.specs.Steps.{may_act}
use Rattle.world_rules.specs.Worlds.{World}
use Rattle.world_parts.specs.Choosing.{lowest, process}
use Rattle.world_parts.specs.Standing.{IsWorld}
use Rattle.world_parts.proofs.parts.Parts.due_act.Given as goal

abbrev pub invariant-processes : goal.invariant-processes
invariant-processes g l =
    (w : World) → IsWorld g.P.OneRun.stood g.P.OneRun.left g.P.OneRun.run.frame l.self w → lowest l.process (λ i. may_act g.P.OneRun.run.frame w (process i)) ≡ None
