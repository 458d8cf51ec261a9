-- Operands with a reply that isn't pushed yet.
use Rattle.std.specs.Prelude.{List, ◌∷◌, Option, Some, None}
use Rattle.value_core.specs.Datum.{Datum}
use Rattle.value_core.specs.View.{datum_of}
use Rattle.value_core.specs.declared.value.Value.{Value}

-- it stands on top
abbrev pub topped : Option Value → List Datum → List Datum
topped None stack = stack
topped (Some value) stack = datum_of value ∷ stack
