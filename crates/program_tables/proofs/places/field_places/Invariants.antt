use Rattle.std.proofs.Common.{◌≡◌, ℕ, List, map, take}
use Rattle.std.specs.Prelude.{bytes_eq, position}
use Rattle.orca_syntax.specs.Shown.{typed_name}
use Rattle.type_tables.specs.Entries.{entry}
use Rattle.program_tables.proofs.places.field_places.Given as goal

abbrev pub invariant-fields : goal.invariant-fields
invariant-fields l = (n : List ℕ) → entry l.places n ≡ position (λ f. bytes_eq f.name.text n) (map typed_name (take l.place l.fields))
