-- Parts of a value of a type are of the parts' types, and a value in place of a part leaves the whole of its type.
use Rattle.std.specs.Prelude.{◌≡◌, ℕ, ℤ, List, slice_get, Some, Ok}
use Rattle.link_rules.specs.Units.{Source}
use Rattle.type_rules.specs.declared.types.DataType.{DataType}
use Rattle.type_rules.specs.declared.types.Base.TheVariants as base
use Rattle.type_rules.specs.declared.types.Layer.TheVariants as layer
use Rattle.type_rules.specs.Types as types
use Rattle.type_rules.specs.Types.{outside_of, inside_of}
use Rattle.value_core.specs.Datum.{Datum}
use Rattle.value_core.specs.Fits.{Kinds}
use Rattle.value_paths.specs.declared.step.Step.{Step}
use Rattle.value_paths.specs.declared.step.Step.TheVariants.{Field, Index, Node}
use Rattle.value_paths.specs.Paths.{part_to, with_step}
use Rattle.meaning_rules.specs.Openings.{field_types}
use Rattle.meaning_rules.specs.Fitting.{IsOf}

-- a step leads to a part of this type, which may be replaced by another of the type
pub record LeadsTo (us : List Source) (kinds : Kinds) (step : Step) (v : Datum) (t u : DataType) : Type 0 where
  pub part : (p : Datum) → part_to step v ≡ Ok p → IsOf us kinds p u
  pub put : (p x : Datum) → part_to step v ≡ Ok p → IsOf us kinds x u → IsOf us kinds (with_step step v x) t

-- by an index to an element of an array, to a field of a record, and by a name to the value of a graph's node
pub record HasParts (us : List Source) (kinds : Kinds) (t : DataType) (v : Datum) : Type 0 where
  pub elements : (low high index : ℤ) → outside_of t ≡ types.Within (layer.Array low high) →
      LeadsTo us kinds (Index low index) v t (inside_of t)
  pub fields : (i k : ℕ) (u : DataType) → outside_of t ≡ types.Bare (base.Record i) →
      slice_get (field_types us i) k ≡ Some (Some u) → LeadsTo us kinds (Field k) v t u
  pub nodes : (name : ℤ) → outside_of t ≡ types.Within layer.Graph → LeadsTo us kinds (Node name) v t (inside_of t)

abbrev pub PartsFit : List Source → Type 0
PartsFit us = (kinds : Kinds) (t : DataType) (v : Datum) → IsOf us kinds v t → HasParts us kinds t v
