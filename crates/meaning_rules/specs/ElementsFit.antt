-- The elements of a set or bag of a type are of its elements' type, and what may be put in leaves it of its type.
use Rattle.std.specs.Prelude.{◌≡◌, List, Ok}
use Rattle.link_rules.specs.Units.{Source}
use Rattle.type_rules.specs.declared.types.DataType.{DataType}
use Rattle.type_rules.specs.declared.types.Layer.TheVariants as layer
use Rattle.type_rules.specs.Types as types
use Rattle.type_rules.specs.Types.{Outside, outside_of, inside_of}
use Rattle.value_core.specs.Datum.{Datum}
use Rattle.value_core.specs.Fits.{Kinds}
use Rattle.value_ops.specs.Elements.{inserted, deleted, least_of, without_least}
use Rattle.meaning_rules.specs.Fitting.{IsOf}

-- a set or a bag
abbrev pub Gathers : Outside → Type 0
Gathers (types.Within layer.Set) = Unit {0}
Gathers (types.Within layer.Bag) = Unit {0}
Gathers _ = ⊥

-- `insert`, `delete` and `from`
pub record KeepsElements (us : List Source) (kinds : Kinds) (t : DataType) (v : Datum) : Type 0 where
  pub puts : (e : Datum) → IsOf us kinds e (inside_of t) → IsOf us kinds (inserted e v) t
  pub drops : (e : Datum) → IsOf us kinds (deleted e v) t
  pub gives : (e : Datum) → least_of v ≡ Ok e → IsOf us kinds e (inside_of t)
  pub rests : IsOf us kinds (without_least v) t

abbrev pub ElementsFit : List Source → Type 0
ElementsFit us = (kinds : Kinds) (t : DataType) (v : Datum) → Gathers (outside_of t) → IsOf us kinds v t → KeepsElements us kinds t v
