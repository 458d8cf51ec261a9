use Rattle.std.proofs.Common.{◌≡◌, ℕ, false, is_some}
use Rattle.value_core.specs.History.{object_at}
use Rattle.world_parts.specs.Standing.{IsWorld}
use Rattle.world_rules.specs.Standings.{any_below}
use Rattle.world_rules.specs.Worlds.{World}
use Rattle.run_ends.proofs.placing.some_keeps.Given as goal

abbrev pub invariant-members : goal.invariant-members
invariant-members g l =
    (w : World) → IsWorld g.P.OneRun.stood g.P.OneRun.left g.P.OneRun.run.frame l.parts w → any_below l.member (λ (m : ℕ). is_some (object_at (w.nodes m).copies.own l.object)) ≡ false
