-- What a node adds to the size of a graph, and of what is taken for one.
use Rattle.std.proofs.Common.{◌≡◌, ℕ, ◌+◌, ◌+ℤ◌, ◌≤◌, ◌⊎◌, inl, inr, Bool, true, false, cond, ℤ, pos, List, [], ◌∷◌, ◌++◌, length, map, Some, Result, Ok, Err, refl, ap, sym, ◌∙◌, subst, arith}
use Rattle.std.specs.Prelude.{◌==◌, is_some}
use Rattle.std.specs.Ordering.{int_eq}
use Rattle.orca_base.specs.declared.fault.FaultKind.{FaultKind}
use Rattle.orca_base.specs.declared.fault.FaultKind.TheVariants.{IndexOutside, Overflow}
use Rattle.orca_base.specs.declared.limits.TheConstants.{VALUE_SIZE}
use Rattle.value_core.specs.Datum.{Data, Datum, data_of, list_of, data_of-list_of}
use Rattle.value_core.specs.Datum as datum
use Rattle.value_core.specs.Size.{size_of, size_of_all}
use Rattle.value_core.specs.View.{datum_of}
use Rattle.value_core.specs.declared.value.Value.{Value}
use Rattle.value_ops.specs.Sizes.{told_size}
use Rattle.graph_values.specs.Graphs as graphs
use Rattle.graph_values.specs.Graphs.{graph_of, is_named, last_name, name_in, node_in, node_of, nodes_in, nodes_of, value_at, value_in, without_node}
use Rattle.frame_variables.proofs.Standing.{has_size}

-- ---- the nodes of a graph, beside its size

no_fewer : (n u : ℕ) → n ≡ u → n ≤ u + 1
no_fewer n u same = omega (arith, same)

none_fewer : (n : ℕ) → 0 ≤ n
none_fewer n = omega arith

second_nodes : (b : Datum) → size_of_all (data_of (nodes_of (Some b))) ≤ size_of b
second_nodes (datum.set u) = no_fewer (size_of_all (data_of (list_of u))) (size_of_all u) (ap size_of_all (data_of-list_of u))
second_nodes v = none_fewer (size_of v)

second_fewer : (n first second others : ℕ) → n ≤ second → n + 1 ≤ first + (second + others) + 1
second_fewer n first second others h = omega (arith, h)

nodes_fewer : (g : Datum) → size_of_all (data_of (nodes_in g)) + 1 ≤ size_of g
nodes_fewer (datum.fields datum.none) = has_size (datum.fields datum.none)
nodes_fewer (datum.fields (datum.more a datum.none)) = has_size (datum.fields (datum.more a datum.none))
nodes_fewer (datum.fields (datum.more a (datum.more b w))) = second_fewer (size_of_all (data_of (nodes_of (Some b)))) (size_of a) (size_of b) (size_of_all w) (second_nodes b)
nodes_fewer v = has_size v

pub no_graph : (g : Datum) → size_of_all (data_of (nodes_in g)) + 5 ≤ size_of g + 4
no_graph g = omega (arith, nodes_fewer g)

set_inside : (n u first others : ℕ) → n ≡ u → 1 ≤ first → n + 3 ≤ first + ((u + 1) + others) + 1
set_inside n u first others same some = omega (arith, same, some)

nodes_inside : (g : Datum) → (nodes_in g ≡ []) ⊎ (size_of_all (data_of (nodes_in g)) + 3 ≤ size_of g)
nodes_inside (datum.fields datum.none) = inl refl
nodes_inside (datum.fields (datum.more a datum.none)) = inl refl
nodes_inside (datum.fields (datum.more a (datum.more (datum.set u) w))) =
    inr (set_inside (size_of_all (data_of (list_of u))) (size_of_all u) (size_of a) (size_of_all w) (ap size_of_all (data_of-list_of u)) (has_size a))
nodes_inside (datum.fields (datum.more a (datum.more b w))) = inl refl
nodes_inside v = inl refl

pub has_nodes : (g : Datum) (vs : List Value) → map datum_of vs ≡ nodes_in g → (length vs == 0) ≡ false → size_of_all (data_of (nodes_in g)) + 5 ≤ size_of g + 2
has_nodes g [] shown some = absurd cc
has_nodes g (v ∷ vs) shown some = by_nodes (nodes_inside g)
  where
    by_nodes : (nodes_in g ≡ []) ⊎ (size_of_all (data_of (nodes_in g)) + 3 ≤ size_of g) → size_of_all (data_of (nodes_in g)) + 5 ≤ size_of g + 2
    by_nodes (inl bare) = let nothing : datum_of v ∷ map datum_of vs ≡ [] = shown ∙ bare in absurd cc
    by_nodes (inr fewer) = omega (arith, fewer)

-- ---- `addnode`

size_behind : (xs : List Datum) (x : Datum) → size_of_all (data_of (xs ++ x ∷ [])) ≡ size_of_all (data_of xs) + size_of x
size_behind [] x = omega arith
size_behind (y ∷ xs) x = omega (arith, size_behind xs x)

abbrev graph_in : Result (ℤ × Datum) FaultKind → Datum
graph_in (Ok p) = p.1
graph_in (Err fault) = datum.int (pos 0)

added_is : (fresh g graph : Datum) (name : ℤ) → graphs.added fresh g ≡ Ok (name, graph) → graph ≡ graph_of (name_in g +ℤ pos 1) (nodes_in g ++ node_of (name_in g) fresh ∷ [])
added_is fresh g graph name given = by_test (int_eq (name_in g) last_name) given
  where
    by_test : (b : Bool) → cond {A = Result (ℤ × Datum) FaultKind} b (Err Overflow) (Ok (name_in g, graph_of (name_in g +ℤ pos 1) (nodes_in g ++ node_of (name_in g) fresh ∷ []))) ≡ Ok (name, graph) →
        graph ≡ graph_of (name_in g +ℤ pos 1) (nodes_in g ++ node_of (name_in g) fresh ∷ [])
    by_test true h = absurd cc
    by_test false h = sym (ap graph_in h)

pub add_differs : (fresh old graph : Datum) (name : ℤ) (bound told beside : ℕ) → graphs.added fresh old ≡ Ok (name, graph) → (bound ≤ VALUE_SIZE → told ≡ told_size (size_of fresh)) →
    size_of_all (data_of (nodes_in old)) + 5 ≤ size_of old + beside → bound ≤ VALUE_SIZE → told + beside ≤ VALUE_SIZE → size_of graph + 0 ≤ size_of old + (told + beside)
add_differs fresh old graph name bound told beside given told_is grows known fits =
    let size = size_behind (nodes_in old) (node_of (name_in old) fresh) in
    let exact : told ≡ size_of fresh = exactly (size_of fresh) told beside (told_is known) fits in
    subst (λ v. size_of v + 0 ≤ size_of old + (told + beside)) (sym (added_is fresh old graph name given)) (omega (arith, size, exact, grows))
  where
    exactly : (size told beside : ℕ) → told ≡ told_size size → told + beside ≤ VALUE_SIZE → told ≡ size
    exactly size told beside h1 h2 = omega (arith, h1, h2)

-- ---- `deletenode`

size_left : (name : ℤ) (xs : List Datum) → size_of_all (data_of (without_node name xs)) ≤ size_of_all (data_of xs)
size_left name [] = omega arith
size_left name (x ∷ xs) = by_name (is_named name x) (size_left name xs)
  where
    by_name : (b : Bool) → size_of_all (data_of (without_node name xs)) ≤ size_of_all (data_of xs) → size_of_all (data_of (cond b xs (x ∷ without_node name xs))) ≤ size_of_all (data_of (x ∷ xs))
    by_name true rest = omega arith
    by_name false rest = omega (arith, rest)

deleted_is : (name : ℤ) (g graph : Datum) → graphs.deleted name g ≡ Ok graph → (is_some (node_in name g) ≡ true) × (graph ≡ graph_of (name_in g) (without_node name (nodes_in g)))
deleted_is name g graph given = by_test (is_some (node_in name g)) refl given
  where
    by_test : (b : Bool) → is_some (node_in name g) ≡ b → cond b (Ok (graph_of (name_in g) (without_node name (nodes_in g)))) (Err IndexOutside) ≡ Ok graph →
        (is_some (node_in name g) ≡ true) × (graph ≡ graph_of (name_in g) (without_node name (nodes_in g)))
    by_test true is h = (is, (let same : graph_of (name_in g) (without_node name (nodes_in g)) ≡ graph = cc in sym same))
    by_test false is h = absurd cc

pub delete_differs : (name : ℤ) (old graph : Datum) → graphs.deleted name old ≡ Ok graph → size_of graph + 0 ≤ size_of old + 0
delete_differs name old graph given =
    let is = deleted_is name old graph given in
    subst (λ v. size_of v + 0 ≤ size_of old + 0) (sym is.1) (by_nodes (nodes_inside old) is.0)
  where
    by_nodes : (nodes_in old ≡ []) ⊎ (size_of_all (data_of (nodes_in old)) + 3 ≤ size_of old) → is_some (node_in name old) ≡ true →
        size_of (graph_of (name_in old) (without_node name (nodes_in old))) + 0 ≤ size_of old + 0
    by_nodes (inl bare) there = let nowhere : is_some (node_in name old) ≡ false = ap (λ xs. is_some (value_at name xs)) bare in absurd cc
    by_nodes (inr fewer) there = omega (arith, size_left name (nodes_in old), fewer)
