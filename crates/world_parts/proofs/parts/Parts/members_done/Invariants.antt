use Rattle.std.proofs.Common.{◌≡◌, ◌||◌, not, true, ℕ}
use Rattle.world_parts.specs.Standing.{IsWorld}
use Rattle.world_rules.specs.Standings.{all_below, is_done}
use Rattle.world_rules.specs.Worlds.{World}
use Rattle.world_parts.proofs.parts.Parts.members_done.Given as goal

abbrev pub invariant-members : goal.invariant-members
invariant-members g l =
    (w : World) → IsWorld g.P.OneRun.stood g.P.OneRun.left g.P.OneRun.run.frame l.self w → all_below l.member (λ (i : ℕ). not (w.lives i) || is_done g.P.OneRun.run.frame w i (w.nodes i)) ≡ true
