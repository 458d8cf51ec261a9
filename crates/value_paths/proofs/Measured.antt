-- The size of a value in which another part is put.
use Rattle.std.proofs.Common.{◌≡◌, ℕ, zero, suc, ◌+◌, cond, ℤ, List, [], ◌∷◌, Option, Some, None, Result, Ok, Err, refl, ap, arith}
use Rattle.std.specs.Prelude.{IfOk, is_some, length, slice_get, slice_set}
use Rattle.orca_base.specs.declared.fault.FaultKind.{FaultKind}
use Rattle.orca_base.specs.declared.fault.FaultKind.TheVariants.{IndexOutside}
use Rattle.value_core.specs.Datum.{Datum, Data, data_of, list_of, data_of-list_of}
use Rattle.value_core.specs.Datum as datum
use Rattle.value_core.specs.Size.{size_of, size_of_all}
use Rattle.value_ops.specs.Sizes.{place_of}
use Rattle.graph_values.specs.Graphs.{IsGraph, assigned, graph_of, name_in, node_in, node_of, nodes_in, with_node}
use Rattle.value_paths.specs.declared.step.Step.{Step}
use Rattle.value_paths.specs.declared.step.Step.TheVariants.{Index, Field, Node}
use Rattle.value_paths.specs.Paths.{CanStep, CanWalk, and_then, at_place, found, part_at, part_to, set_place, where_found, with_part, with_step}

size_set : (xs : List Datum) (i : ℕ) (p x : Datum) → slice_get xs i ≡ Some p → size_of_all (data_of (slice_set xs i x)) + size_of p ≡ size_of_all (data_of xs) + size_of x
size_set [] i p x h = absurd cc
size_set (y ∷ xs) zero p x h = let same : y ≡ p = cc in omega (arith, ap size_of same)
size_set (y ∷ xs) (suc i) p x h = omega (arith, size_set xs i p x h)

pub found_is : (o : Option Datum) (p : Datum) → found o ≡ Ok p → o ≡ Some p
found_is None p h = absurd cc
found_is (Some x) p h = cc

array_size : (w : Data) (q : Result ℕ FaultKind) (p x : Datum) → at_place q (list_of w) ≡ Ok p → size_of (datum.array (data_of (set_place q (list_of w) x))) + size_of p ≡ size_of (datum.array w) + size_of x
array_size w (Ok i) p x h = omega (arith, size_set (list_of w) i p x (found_is (slice_get (list_of w) i) p h), ap size_of_all (data_of-list_of w))
array_size w (Err fault) p x h = absurd cc

pub no_part : (q : Result ℕ FaultKind) (p : Datum) → at_place q [] ≡ Ok p → ⊥
no_part (Ok i) p h = cc
no_part (Err fault) p h = cc

pub no_field : (i : ℕ) (p : Datum) → found (slice_get [] i) ≡ Ok p → ⊥
no_field i p h = cc

-- what assigning to a node leaves of sizes
abbrev pub GraphSizes : Type 0
GraphSizes = (name : ℤ) (u v g h : Datum) → IsGraph g → node_in name g ≡ Some u → assigned name v g ≡ Ok h → size_of h + size_of u ≡ size_of g + size_of v

-- what is put into a node is assigned to it
pub is_assigned : (name : ℤ) (v p x : Datum) → node_in name v ≡ Some p → assigned name x v ≡ Ok (with_step (Node name) v x)
is_assigned name v p x there =
    ap (λ o. cond {A = Result Datum FaultKind} (is_some o) (Ok (graph_of (name_in v) (with_node name (node_of name x) (nodes_in v)))) (Err IndexOutside)) there

step_size : GraphSizes → (step : Step) (v p x : Datum) → CanStep step v → part_to step v ≡ Ok p → size_of (with_step step v x) + size_of p ≡ size_of v + size_of x
step_size graphs (Index low index) (datum.array w) p x can is = array_size w (place_of (length (list_of w)) low index) p x is
step_size graphs (Index low index) v p x can is = absurd (no_part (place_of 0 low index) p is)
step_size graphs (Field place) (datum.fields w) p x can is = omega (arith, size_set (list_of w) place p x (found_is (slice_get (list_of w) place) p is), ap size_of_all (data_of-list_of w))
step_size graphs (Field place) v p x can is = absurd (no_field place p is)
step_size graphs (Node name) v p x can is =
    let there : node_in name v ≡ Some p = found_is (node_in name v) p is in
    graphs name p x v (with_step (Node name) v x) can there (is_assigned name v p x there)

pub path_size : GraphSizes → (path : List Step) (v p x : Datum) → CanWalk path v → part_at path v ≡ Ok p → size_of (with_part path v x) + size_of p ≡ size_of v + size_of x
path_size graphs [] v p x walks is = let same : v ≡ p = cc in omega (arith, ap size_of same)
path_size graphs (step ∷ path) v p x walks is = by_part (part_to step v) refl is walks.1 (path_size graphs path)
  where
    by_part : (q : Result Datum FaultKind) → part_to step v ≡ q → and_then q (part_at path) ≡ Ok p → IfOk q (CanWalk path) →
        ((c y z : Datum) → CanWalk path c → part_at path c ≡ Ok y → size_of (with_part path c z) + size_of y ≡ size_of c + size_of z) →
        size_of (where_found q v (λ c. with_step step v (with_part path c x))) + size_of p ≡ size_of v + size_of x
    by_part (Ok c) leads end on rest = omega (arith, step_size graphs step v c (with_part path c x) walks.0 leads, rest c p x on end)
    by_part (Err fault) leads end on rest = absurd cc
