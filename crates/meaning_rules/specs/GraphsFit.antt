-- A graph of a type stays of its type as nodes are added and deleted, and the names that it gives are numbers of 64 bits.
use Rattle.std.specs.Prelude.{◌≡◌, ℤ, List, Ok}
use Rattle.link_rules.specs.Units.{Source}
use Rattle.type_rules.specs.declared.types.DataType.{DataType}
use Rattle.type_rules.specs.declared.types.Layer.TheVariants as layer
use Rattle.type_rules.specs.Types as types
use Rattle.type_rules.specs.Types.{outside_of, inside_of}
use Rattle.value_core.specs.Datum.{Datum}
use Rattle.value_core.specs.Fits.{Kinds}
use Rattle.value_core.specs.Integers.{IsWord}
use Rattle.graph_values.specs.Graphs.{added, deleted}
use Rattle.meaning_rules.specs.Fitting.{IsOf}

-- `addnode` and `deletenode`
pub record KeepsGraph (us : List Source) (kinds : Kinds) (t : DataType) (v : Datum) : Type 0 where
  pub adds : (fresh grown : Datum) (name : ℤ) → IsOf us kinds fresh (inside_of t) → added fresh v ≡ Ok (name, grown) →
      IsWord name × IsOf us kinds grown t
  pub deletes : (name : ℤ) (rest : Datum) → deleted name v ≡ Ok rest → IsOf us kinds rest t

abbrev pub GraphsFit : List Source → Type 0
GraphsFit us =
    (kinds : Kinds) (t : DataType) (v : Datum) → outside_of t ≡ types.Within layer.Graph → IsOf us kinds v t → KeepsGraph us kinds t v
