use Rattle.std.proofs.Common.{◌≡◌, ◌&&◌, false, ℕ}
use Rattle.world_parts.specs.Standing.{IsWorld}
use Rattle.world_rules.specs.Standings.{any_below, lives_at_home, waits_for_group}
use Rattle.world_rules.specs.Worlds.{World, played_in}
use Rattle.world_parts.proofs.parts.Parts.some_wait.Given as goal

abbrev pub invariant-processes : goal.invariant-processes
invariant-processes g l =
    (w : World) → IsWorld g.P.OneRun.stood g.P.OneRun.left g.P.OneRun.run.frame l.self w → any_below l.process (λ (i : ℕ). lives_at_home g.P.OneRun.run.frame w i && waits_for_group g.P.OneRun.run.frame w i (played_in g.P.OneRun.run.frame w i)) ≡ false
