-- The laws of values on which preservation stands (meaning_rules). A machine keeps a proof of them; and each has one proof.
use Rattle.std.specs.Prelude.{◌≡◌, ◌+◌, ◌+ℤ◌, ℕ, ℤ, List, pos, Some, Ok}
use Rattle.std.specs.List.{All}
use Rattle.value_core.specs.Datum.{Datum}
use Rattle.value_core.specs.Integers.{IsWord}
use Rattle.value_core.specs.Size.{size_of}
use Rattle.value_core.specs.Sound.{IsCode, IsShort, IsSound}
use Rattle.value_ops.specs.Elements.{IsInOrder, deleted, inserted, without_least}
use Rattle.value_ops.specs.Texts.{text_of}
use Rattle.graph_values.specs.Graphs as graphs
use Rattle.graph_values.specs.Graphs.{IsGraph, added, assigned, name_in, node_in, nodes_in}
use Rattle.graph_values.specs.SoundNodes.{IsSoundNode}
use Rattle.value_paths.specs.declared.step.Step.{Step}
use Rattle.value_paths.specs.Paths.{CanWalk, part_at, with_part}

pub record ValueLaws : Type 0 where
  -- elements stay in order
  pub inserted_in_order : (e v : Datum) → IsInOrder v → IsInOrder (inserted e v)
  pub deleted_in_order : (e v : Datum) → IsInOrder v → IsInOrder (deleted e v)
  pub rest_in_order : (v : Datum) → IsInOrder v → IsInOrder (without_least v)
  -- graphs stay graphs, are sound where their values are, and are smaller without a node
  pub added_graph : (fresh g h : Datum) (name : ℤ) → IsGraph g → added fresh g ≡ Ok (name, h) →
      IsGraph h × (name ≡ name_in g) × (name_in h ≡ (name +ℤ pos 1))
  pub deleted_graph : (name : ℤ) (g h : Datum) → IsGraph g → graphs.deleted name g ≡ Ok h → IsGraph h × (name_in h ≡ name_in g)
  pub assigned_graph : (name : ℤ) (v g h : Datum) → IsGraph g → assigned name v g ≡ Ok h → IsGraph h × (name_in h ≡ name_in g)
  pub sound_graph : (g : Datum) → IsGraph g → IsWord (name_in g) → All IsSoundNode (nodes_in g) → IsShort (nodes_in g) → IsSound g
  pub deleted_size : (name : ℤ) (g h v : Datum) → IsGraph g → node_in name g ≡ Some v → graphs.deleted name g ≡ Ok h →
      size_of h + size_of v + 2 ≡ size_of g
  -- a value is larger by as much as a part that is put in place of another
  pub part_size : (path : List Step) (v p x : Datum) → CanWalk path v → part_at path v ≡ Ok p →
      size_of (with_part path v x) + size_of p ≡ size_of v + size_of x
  -- what is written has the codes of chars
  pub told_codes : (names : List (List ℕ)) (v : Datum) → All (All IsCode) names → IsSound v → All IsCode (text_of names v)
