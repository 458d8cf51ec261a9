use Rattle.std.proofs.Common.{◌≡◌, drop, map}
use Rattle.std.specs.List.{list_any}
use Rattle.orca_syntax.specs.Shown.{parameter}
use Rattle.type_rules.specs.Declarations.{is_shared}
use Rattle.program_bodies.proofs.blocks.has_shared.Given as goal

abbrev pub invariant-parameters : goal.invariant-parameters
invariant-parameters l =
    list_any (λ p. is_shared p.mode) (map parameter (drop l.parameter-index l.parameters)) ≡ list_any (λ p. is_shared p.mode) (map parameter l.parameters)
