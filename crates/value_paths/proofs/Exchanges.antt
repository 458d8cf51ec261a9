-- A part that is taken out for a while, with anything in its place.
use Rattle.std.proofs.Common.{◌≡◌, ℕ, zero, suc, Bool, true, false, cond, ℤ, List, [], ◌∷◌, length, Some, Result, Ok, Err, refl, ap, sym, ◌∙◌, subst}
use Rattle.std.specs.Prelude.{IfOk, slice_get, slice_set}
use Rattle.std.specs.Cmp.{tied_itself}
use Rattle.std.specs.Ordering.{int_eq, is_eq}
use Rattle.std.proofs.lemmas.Cmp.{int_cmp_total}
use Rattle.std.proofs.lemmas.List.Elements.{recursion_from_All}
use Rattle.orca_base.specs.declared.fault.FaultKind.{FaultKind}
use Rattle.value_core.specs.Datum.{Datum, Data, data_of, list_of, list_of-data_of, data_of-list_of}
use Rattle.value_core.specs.Datum as datum
use Rattle.value_ops.specs.Sizes.{place_of}
use Rattle.graph_values.specs.Graphs.{IsGraph, IsNode, assigned, fields_in, graph_of, is_named, name_in, node_in, node_of, nodes_in, value_at, value_in, with_node}
use Rattle.value_paths.specs.declared.step.Step.{Step}
use Rattle.value_paths.specs.declared.step.Step.TheVariants.{Index, Field, Node}
use Rattle.value_paths.specs.Paths.{CanStep, CanWalk, and_then, array_in, at_place, found, part_at, part_to, set_place, where_found, with_part, with_step}
use Rattle.value_paths.proofs.Measured.{found_is, is_assigned, no_field, no_part}
use Rattle.value_paths.proofs.Steps.{node_same, set_same}

-- lists
set_length : (xs : List Datum) (i : ℕ) (x : Datum) → length (slice_set xs i x) ≡ length xs
set_length [] i x = refl
set_length (y ∷ xs) zero x = refl
set_length (y ∷ xs) (suc i) x = ap suc (set_length xs i x)

set_there : (xs : List Datum) (i : ℕ) (p x : Datum) → slice_get xs i ≡ Some p → slice_get (slice_set xs i x) i ≡ Some x
set_there [] i p x h = absurd cc
set_there (y ∷ xs) zero p x h = refl
set_there (y ∷ xs) (suc i) p x h = set_there xs i p x h

set_again : (xs : List Datum) (i : ℕ) (x y : Datum) → slice_set (slice_set xs i x) i y ≡ slice_set xs i y
set_again [] i x y = refl
set_again (z ∷ xs) zero x y = refl
set_again (z ∷ xs) (suc i) x y = ap (λ ys. z ∷ ys) (set_again xs i x y)

-- places of arrays
pub placed_length : (q : Result ℕ FaultKind) (xs : List Datum) (x : Datum) → length (set_place q xs x) ≡ length xs
placed_length (Ok i) xs x = set_length xs i x
placed_length (Err fault) xs x = refl

placed_there : (q : Result ℕ FaultKind) (xs : List Datum) (p x : Datum) → at_place q xs ≡ Ok p → at_place q (set_place q xs x) ≡ Ok x
placed_there (Ok i) xs p x is = ap found (set_there xs i p x (found_is (slice_get xs i) p is))
placed_there (Err fault) xs p x is = absurd cc

placed_again : (q : Result ℕ FaultKind) (xs : List Datum) (x y : Datum) → set_place q (set_place q xs x) y ≡ set_place q xs y
placed_again (Ok i) xs x y = set_again xs i x y
placed_again (Err fault) xs x y = refl

placed_same : (q : Result ℕ FaultKind) (xs : List Datum) (p : Datum) → at_place q xs ≡ Ok p → set_place q xs p ≡ xs
placed_same (Ok i) xs p is = set_same xs i p (found_is (slice_get xs i) p is)
placed_same (Err fault) xs p is = absurd cc

-- nodes
pub itself : (name : ℤ) → int_eq name name ≡ true
itself name = ap is_eq (tied_itself int_cmp_total name)

node_there : (name : ℤ) (p x : Datum) (xs : List Datum) → value_at name xs ≡ Some p → value_at name (with_node name (node_of name x) xs) ≡ Some x
node_there name p x [] is = absurd cc
node_there name p x (y ∷ xs) is = by_first (is_named name y) refl (node_there name p x xs)
  where
    by_first : (b : Bool) → is_named name y ≡ b → (value_at name xs ≡ Some p → value_at name (with_node name (node_of name x) xs) ≡ Some x) →
        value_at name (cond b (node_of name x ∷ xs) (y ∷ with_node name (node_of name x) xs)) ≡ Some x
    by_first true here rest = ap (λ b. cond b (Some x) (value_at name xs)) (itself name)
    by_first false elsewhere rest =
        ap (λ b. cond b (Some (value_in y)) (value_at name (with_node name (node_of name x) xs))) elsewhere
        ∙ rest (sym (ap (λ b. cond b (Some (value_in y)) (value_at name xs)) elsewhere) ∙ is)

node_again : (name : ℤ) (x y : Datum) (xs : List Datum) → with_node name (node_of name y) (with_node name (node_of name x) xs) ≡ with_node name (node_of name y) xs
node_again name x y [] = refl
node_again name x y (z ∷ xs) = by_first (is_named name z) refl (node_again name x y xs)
  where
    by_first : (b : Bool) → is_named name z ≡ b → with_node name (node_of name y) (with_node name (node_of name x) xs) ≡ with_node name (node_of name y) xs →
        with_node name (node_of name y) (cond b (node_of name x ∷ xs) (z ∷ with_node name (node_of name x) xs)) ≡ cond b (node_of name y ∷ xs) (z ∷ with_node name (node_of name y) xs)
    by_first true here rest = ap (λ b. cond b (node_of name y ∷ xs) (node_of name x ∷ with_node name (node_of name y) xs)) (itself name)
    by_first false elsewhere rest =
        ap (λ b. cond b (node_of name y ∷ with_node name (node_of name x) xs) (z ∷ with_node name (node_of name y) (with_node name (node_of name x) xs))) elsewhere
        ∙ ap (λ ys. z ∷ ys) rest

-- one step
pub step_stands : (step : Step) (v p x : Datum) → part_to step v ≡ Ok p → part_to step (with_step step v x) ≡ Ok x
step_stands (Index low index) v p x is =
    let xs = array_in v in
    let q = place_of (length xs) low index in
    ap (λ ys. at_place (place_of (length ys) low index) ys) (list_of-data_of (set_place q xs x))
    ∙ ap (λ n. at_place (place_of n low index) (set_place q xs x)) (placed_length q xs x)
    ∙ placed_there q xs p x is
step_stands (Field place) v p x is =
    let xs = fields_in v in
    ap (λ ys. found (slice_get ys place)) (list_of-data_of (slice_set xs place x)) ∙ ap found (set_there xs place p x (found_is (slice_get xs place) p is))
step_stands (Node name) v p x is =
    let xs = nodes_in v in
    ap (λ ys. found (value_at name ys)) (list_of-data_of (with_node name (node_of name x) xs)) ∙ ap found (node_there name p x xs (found_is (value_at name xs) p is))

step_again : (step : Step) (v x y : Datum) → with_step step (with_step step v x) y ≡ with_step step v y
step_again (Index low index) v x y =
    let xs = array_in v in
    let q = place_of (length xs) low index in
    ap (λ ys. datum.array (data_of (set_place (place_of (length ys) low index) ys y))) (list_of-data_of (set_place q xs x))
    ∙ ap (λ n. datum.array (data_of (set_place (place_of n low index) (set_place q xs x) y))) (placed_length q xs x)
    ∙ ap (λ ys. datum.array (data_of ys)) (placed_again q xs x y)
step_again (Field place) v x y =
    let xs = fields_in v in
    ap (λ ys. datum.fields (data_of (slice_set ys place y))) (list_of-data_of (slice_set xs place x)) ∙ ap (λ ys. datum.fields (data_of ys)) (set_again xs place x y)
step_again (Node name) v x y =
    let xs = nodes_in v in
    ap (λ ys. graph_of (name_in v) (with_node name (node_of name y) ys)) (list_of-data_of (with_node name (node_of name x) xs))
    ∙ ap (graph_of (name_in v)) (node_again name x y xs)

step_same : (step : Step) (v p : Datum) → CanStep step v → part_to step v ≡ Ok p → with_step step v p ≡ v
step_same (Index low index) (datum.array w) p can is =
    ap (λ xs. datum.array (data_of xs)) (placed_same (place_of (length (list_of w)) low index) (list_of w) p is) ∙ ap datum.array (data_of-list_of w)
step_same (Index low index) v p can is = absurd (no_part (place_of 0 low index) p is)
step_same (Field place) (datum.fields w) p can is =
    ap (λ xs. datum.fields (data_of xs)) (set_same (list_of w) place p (found_is (slice_get (list_of w) place) p is)) ∙ ap datum.fields (data_of-list_of w)
step_same (Field place) v p can is = absurd (no_field place p is)
step_same (Node name) v p can is =
    ap (graph_of (name_in v)) (node_same name p (nodes_in v) (recursion_from_All IsNode (nodes_in v) can.named.nodes) (found_is (node_in name v) p is)) ∙ sym can.form

-- what is assigned to a node of a graph leaves a graph
abbrev pub GraphStays : Type 0
GraphStays = (name : ℤ) (v g h : Datum) → IsGraph g → assigned name v g ≡ Ok h → IsGraph h × (name_in h ≡ name_in g)

step_stays : GraphStays → (step : Step) (v p x : Datum) → CanStep step v → part_to step v ≡ Ok p → CanStep step (with_step step v x)
step_stays stays (Index low index) v p x can is = tt
step_stays stays (Field place) v p x can is = tt
step_stays stays (Node name) v p x can is = (stays name x v (with_step (Node name) v x) can (is_assigned name v p x (found_is (node_in name v) p is))).0

-- paths
pub path_stands : (path : List Step) (v p x : Datum) → part_at path v ≡ Ok p → part_at path (with_part path v x) ≡ Ok x
path_stands [] v p x is = refl
path_stands (step ∷ path) v p x is = by_part (part_to step v) refl is (path_stands path)
  where
    by_part : (q : Result Datum FaultKind) → part_to step v ≡ q → and_then q (part_at path) ≡ Ok p →
        ((c y z : Datum) → part_at path c ≡ Ok y → part_at path (with_part path c z) ≡ Ok z) →
        part_at (step ∷ path) (where_found q v (λ c. with_step step v (with_part path c x))) ≡ Ok x
    by_part (Ok c) leads end rest = ap (λ r. and_then r (part_at path)) (step_stands step v c (with_part path c x) leads) ∙ rest c p x end
    by_part (Err fault) leads end rest = absurd cc

pub path_again : (path : List Step) (v p x y : Datum) → part_at path v ≡ Ok p → with_part path (with_part path v x) y ≡ with_part path v y
path_again [] v p x y is = refl
path_again (step ∷ path) v p x y is = by_part (part_to step v) refl is (path_again path)
  where
    by_part : (q : Result Datum FaultKind) → part_to step v ≡ q → and_then q (part_at path) ≡ Ok p →
        ((c u z w : Datum) → part_at path c ≡ Ok u → with_part path (with_part path c z) w ≡ with_part path c w) →
        with_part (step ∷ path) (where_found q v (λ c. with_step step v (with_part path c x))) y ≡ where_found q v (λ c. with_step step v (with_part path c y))
    by_part (Ok c) leads end rest =
        let inner = with_part path c x in
        let outer = with_step step v inner in
        ap (λ r. where_found r outer (λ d. with_step step outer (with_part path d y))) (step_stands step v c inner leads)
        ∙ ap (with_step step outer) (rest c p x y end)
        ∙ step_again step v inner (with_part path c y)
    by_part (Err fault) leads end rest = absurd cc

pub path_same : (path : List Step) (v p : Datum) → CanWalk path v → part_at path v ≡ Ok p → with_part path v p ≡ v
path_same [] v p walks is = let same : v ≡ p = cc in sym same
path_same (step ∷ path) v p walks is = by_part (part_to step v) refl is walks.1 (path_same path)
  where
    by_part : (q : Result Datum FaultKind) → part_to step v ≡ q → and_then q (part_at path) ≡ Ok p → IfOk q (CanWalk path) →
        ((c y : Datum) → CanWalk path c → part_at path c ≡ Ok y → with_part path c y ≡ c) →
        where_found q v (λ c. with_step step v (with_part path c p)) ≡ v
    by_part (Ok c) leads end on rest = ap (with_step step v) (rest c p on end) ∙ step_same step v c walks.0 leads
    by_part (Err fault) leads end on rest = absurd cc

pub path_walks : GraphStays → (path : List Step) (v p x : Datum) → CanWalk path v → part_at path v ≡ Ok p → CanWalk path (with_part path v x)
path_walks stays [] v p x walks is = tt
path_walks stays (step ∷ path) v p x walks is = by_part (part_to step v) refl is walks.1 (path_walks stays path)
  where
    by_part : (q : Result Datum FaultKind) → part_to step v ≡ q → and_then q (part_at path) ≡ Ok p → IfOk q (CanWalk path) →
        ((c y z : Datum) → CanWalk path c → part_at path c ≡ Ok y → CanWalk path (with_part path c z)) →
        CanWalk (step ∷ path) (where_found q v (λ c. with_step step v (with_part path c x)))
    by_part (Ok c) leads end on rest = (
      step_stays stays step v c (with_part path c x) walks.0 leads,
      subst (λ r. IfOk r (CanWalk path)) (sym (step_stands step v c (with_part path c x) leads)) (rest c p x on end),
    )
    by_part (Err fault) leads end on rest = absurd cc
