use Rattle.std.proofs.Common.{◌≡◌, drop}
use Rattle.std.specs.Prelude.{◌==◌}
use Rattle.std.specs.List.{list_any}
use Rattle.type_cycles.specs.Components.{membership}
use Rattle.type_cycles.proofs.components.has_rank.Given as goal

abbrev pub invariant-parts : goal.invariant-parts
invariant-parts l =
    list_any (λ h. (membership l.members h).rank == l.rank) (drop l.part-index l.parts) ≡ list_any (λ h. (membership l.members h).rank == l.rank) l.parts
