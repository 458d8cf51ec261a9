-- Where a node stands among nodes whose names rise, as a search by halving finds it.
use Rattle.std.specs.Prelude.{◌≡◌, ℕ, ℤ, ◌<◌, Bool, true, false, List, Some, length, int_lt, remove, slice_get, slice_set}
use Rattle.std.specs.List.Sorted.{IsPartitionPoint}
use Rattle.value_core.specs.Datum.{Datum}
use Rattle.value_core.specs.View.{datum_of}
use Rattle.value_core.specs.declared.value.Value.{Value}
use Rattle.graph_values.specs.Graphs.{name_in, node_of, value_at, value_in, with_node, without_node}

-- whether a node's name is below this one
abbrev pub is_before : ℤ → Value → Bool
is_before name v = int_lt (name_in (datum_of v)) name

-- so many nodes in front have names below this one, and the others haven't
abbrev pub Parted : ℤ → List Value → ℕ → Type 0
Parted name vs place = IsPartitionPoint (λ v. is_before name v ≡ true) (λ v. is_before name v ≡ false) vs place

-- the node with this name stands at this place
pub record StandsAt (name : ℤ) (xs : List Datum) (place : ℕ) : Type 0 where
  pub within : place < length xs
  pub node : (x : Datum) → slice_get xs place ≡ Some x → x ≡ node_of name (value_in x)
  pub value : (x : Datum) → slice_get xs place ≡ Some x → value_at name xs ≡ Some (value_in x)
  pub set : (y : Datum) → with_node name y xs ≡ slice_set xs place y
  pub deleted : without_node name xs ≡ remove xs place
