-- Types within the limits, and the declared types that are at hand.
use Rattle.std.specs.Prelude.{ℕ, ◌+◌, min, List, Option, Some, None, slice_get, option_map, if◌then◌else◌}
use Rattle.type_rules.specs.declared.types.Layer.{Layer}
use Rattle.type_rules.specs.declared.types.Measured.{Measured}
use Rattle.type_rules.specs.Types.{layered}
use Rattle.type_rules.specs.Rules.{Found}
use Rattle.type_rules.specs.TypePhrases.{is_small}

-- a type within the limits
abbrev pub if_small : Measured → Option Measured
if_small m = if is_small m then Some m else None

-- a type of this size, so many deeper than what it is of
abbrev pub wrapped : Layer → ℕ → ℕ → Measured → Measured
wrapped layer size depth m = record { kind = layered layer m.kind; size = size; nesting = depth + m.nesting }

abbrev pub declared_as : Option (Option Measured) → Option Measured
declared_as None = None
declared_as (Some m) = m

-- the declared type with this number, in a table
abbrev pub declared_in : List (Option Measured) → ℕ → Option Measured
declared_in types i = declared_as (slice_get types i)

-- ---- sizes and nesting that are cut off just above the limits

abbrev pub cut : Measured → Measured
cut m = record { kind = m.kind; size = min m.size 10001; nesting = min m.nesting 17 }

abbrev pub cut_found : Found Measured → Found Measured
cut_found f = record { is = option_map cut f.is; breaches = f.breaches }
