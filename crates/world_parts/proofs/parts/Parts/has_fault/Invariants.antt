use Rattle.std.proofs.Common.{◌≡◌, false, ℕ}
use Rattle.world_parts.specs.Standing.{IsWorld}
use Rattle.world_rules.specs.Played.{has_faulted}
use Rattle.world_rules.specs.Standings.{any_below, stands}
use Rattle.world_rules.specs.Worlds.{World, played_in}
use Rattle.world_parts.proofs.parts.Parts.has_fault.Given as goal

abbrev pub invariant-processes : goal.invariant-processes
invariant-processes g l =
    (w : World) → IsWorld g.P.OneRun.stood g.P.OneRun.left g.P.OneRun.run.frame l.self w → any_below l.process (λ (i : ℕ). stands has_faulted (played_in g.P.OneRun.run.frame w i)) ≡ false
