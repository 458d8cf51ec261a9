use Rattle.std.proofs.Common.{◌≡◌, ℕ, not, true}
use Rattle.world_rules.specs.Standings.{all_below}
use Rattle.world_rules.specs.Worlds.{World}
use Rattle.world_parts.specs.Standing.{IsWorld}
use Rattle.world_parts.proofs.parts.Parts.nobody_lives.Given as goal

abbrev pub invariant-members : goal.invariant-members
invariant-members g l = (w : World) → IsWorld g.P.OneRun.stood g.P.OneRun.left g.P.OneRun.run.frame l.self w → all_below l.member (λ (m : ℕ). not (w.lives m)) ≡ true
