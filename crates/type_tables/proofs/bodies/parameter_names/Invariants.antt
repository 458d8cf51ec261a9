use Rattle.std.proofs.Common.{◌≡◌, map, take}
use Rattle.orca_syntax.specs.Shown.{parameter}
use Rattle.type_forms.specs.Seen.{lent}
use Rattle.type_tables.proofs.bodies.parameter_names.Given as goal

abbrev pub invariant-parameters : goal.invariant-parameters
invariant-parameters l = lent l.names.items ≡ map (λ p. p.name) (map parameter (take l.parameter-index l.parameters))
