use Rattle.std.proofs.Common.{◌≡◌, map, take}
use Rattle.orca_syntax.specs.Shown.{typed_name}
use Rattle.type_forms.specs.Seen.{lent}
use Rattle.type_forms.proofs.records.field_names.Given as goal

abbrev pub invariant-fields : goal.invariant-fields
invariant-fields l = lent l.names.items ≡ map (λ f. f.name) (map typed_name (take l.field-index l.fields))
