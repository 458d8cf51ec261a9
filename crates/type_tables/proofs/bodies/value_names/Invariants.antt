use Rattle.std.proofs.Common.{◌≡◌, map, take}
use Rattle.orca_syntax.specs.Shown.{typed_name}
use Rattle.type_forms.specs.Seen.{lent}
use Rattle.type_tables.proofs.bodies.value_names.Given as goal

abbrev pub invariant-values : goal.invariant-values
invariant-values l = lent l.names.items ≡ map (λ t. t.name) (map typed_name (take l.value-index l.values))
