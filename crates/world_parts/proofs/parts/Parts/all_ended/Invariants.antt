use Rattle.std.proofs.Common.{◌≡◌, ◌||◌, not, true, ℕ}
use Rattle.world_parts.specs.Standing.{IsWorld}
use Rattle.world_rules.specs.Played.{is_over}
use Rattle.world_rules.specs.Standings.{all_below, lives_at_home, stands}
use Rattle.world_rules.specs.Worlds.{World, played_in}
use Rattle.world_parts.proofs.parts.Parts.all_ended.Given as goal

abbrev pub invariant-processes : goal.invariant-processes
invariant-processes g l =
    (w : World) → IsWorld g.P.OneRun.stood g.P.OneRun.left g.P.OneRun.run.frame l.self w → all_below l.process (λ (i : ℕ). not (lives_at_home g.P.OneRun.run.frame w i) || stands is_over (played_in g.P.OneRun.run.frame w i)) ≡ true
