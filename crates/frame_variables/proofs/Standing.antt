-- What firm paths keep: order, and that sizes add up.
use Rattle.std.proofs.Common.{◌≡◌, ℕ, zero, suc, ◌+◌, ◌<◌, ◌≤◌, Bool, true, false, cond, ℤ, pos, List, [], ◌∷◌, get_or, length, map, Option, Some, None, Result, Ok, Err, refl, ap, sym, ◌∙◌, subst, arith}
use Rattle.std.specs.Prelude.{IfOk, not, position, slice_get, slice_set}
use Rattle.std.specs.List.{position_or_len}
use Rattle.orca_base.specs.declared.fault.FaultKind.{FaultKind}
use Rattle.value_core.specs.Datum.{Datum, Data, data_of, list_of, data_of-list_of}
use Rattle.value_core.specs.Datum as datum
use Rattle.value_core.specs.Size.{size_of, size_of_all}
use Rattle.value_core.specs.View.{datum_of}
use Rattle.value_core.specs.declared.value.Value.{Value}
use Rattle.value_core.specs.declared.value.Value.TheVariants.{Array, Fields}
use Rattle.graph_values.specs.Graphs.{fields_in, graph_of, is_named, name_in, node_of, nodes_in, value_at, value_in, with_node}
use Rattle.value_ops.specs.Sizes.{place_of}
use Rattle.value_paths.specs.declared.step.Step.{Step as ValueStep}
use Rattle.value_paths.specs.declared.step.Step.TheVariants.{Index, Field, Node}
use Rattle.value_paths.specs.Paths.{and_then, array_in, at_place, found, part_at, part_to, set_place, where_found, with_part, with_step}
use Rattle.frame_variables.specs.Firm.{IsFirm, IsFirmNode, IsFirmStep}
use Rattle.frame_variables.specs.Ordered.{AllOrdered, IsOrdered}
use Rattle.frame_variables.proofs.Keeping.{all_listed, array_ordered, as_data, fields_ordered, got, nodes_ordered, set_in, step_ordered}
use Rattle.frame_variables.proofs.Pairing.{shown_at}
use Rattle.frame_variables.proofs.Placing.{found_some, length_shown, node_place}
use Rattle.frame_variables.proofs.Rising.{get_next, node_ordered}

-- ---- order

placed_put : (q : Result ℕ FaultKind) (xs : List Datum) (x : Datum) → AllOrdered xs → IsOrdered x → AllOrdered (set_place q xs x)
placed_put (Ok place) xs x h one = set_in xs place x h one
placed_put (Err fault) xs x h one = h

node_put : (name : ℤ) (v x : Datum) → IsFirmNode name (nodes_in v) → IsOrdered v → IsOrdered x → IsOrdered (graph_of (name_in v) (with_node name (node_of name x) (nodes_in v)))
node_put name v x firm h one = let nodes = nodes_ordered v h in node_ordered name (name_in v) x (nodes_in v) firm.named firm.alone nodes.0 nodes.1 one

step_put : (step : ValueStep) (v x : Datum) → IsFirmStep step v → IsOrdered v → IsOrdered x → IsOrdered (with_step step v x)
step_put (Index low index) v x firm h one =
    let place = place_of (length (array_in v)) low index in
    as_data (set_place place (array_in v) x) (placed_put place (array_in v) x (array_ordered v h) one)
step_put (Field place) v x firm h one = as_data (slice_set (fields_in v) place x) (set_in (fields_in v) place x (fields_ordered v h) one)
step_put (Node name) v x firm h one = node_put name v x firm h one

pub firm_put : (path : List ValueStep) (v x : Datum) → IsFirm path v → IsOrdered v → IsOrdered x → IsOrdered (with_part path v x)
firm_put [] v x firm h one = one
firm_put (step ∷ path) v x firm h one = by_step (part_to step v) refl firm.1 (λ c inside ordered. firm_put path c x inside ordered one)
  where
    by_step : (q : Result Datum FaultKind) → part_to step v ≡ q → IfOk q (IsFirm path) → ((c : Datum) → IsFirm path c → IsOrdered c → IsOrdered (with_part path c x)) →
        IsOrdered (where_found q v (λ p. with_step step v (with_part path p x)))
    by_step (Ok c) leads inside rest = step_put step v (with_part path c x) firm.0 h (rest c inside (step_ordered step v c h leads))
    by_step (Err fault) leads inside rest = h

-- ---- sizes

size_set : (xs : List Datum) (i : ℕ) (p x : Datum) → slice_get xs i ≡ Some p → size_of_all (data_of (slice_set xs i x)) + size_of p ≡ size_of_all (data_of xs) + size_of x
size_set [] i p x is = absurd cc
size_set (y ∷ xs) zero p x is = let same : y ≡ p = cc in omega (arith, ap size_of same)
size_set (y ∷ xs) (suc i) p x is = omega (arith, size_set xs i p x is)

found_is : (o : Option Datum) (p : Datum) → found o ≡ Ok p → o ≡ Some p
found_is None p is = absurd cc
found_is (Some x) p is = cc

array_size : (w : Data) (q : Result ℕ FaultKind) (p x : Datum) → at_place q (list_of w) ≡ Ok p → size_of (datum.array (data_of (set_place q (list_of w) x))) + size_of p ≤ size_of (datum.array w) + size_of x
array_size w (Ok i) p x is = omega (arith, size_set (list_of w) i p x (found_is (slice_get (list_of w) i) p is), ap size_of_all (data_of-list_of w))
array_size w (Err fault) p x is = absurd cc

no_part : (q : Result ℕ FaultKind) (p : Datum) → at_place q [] ≡ Ok p → ⊥
no_part (Ok i) p is = cc
no_part (Err fault) p is = cc

no_field : (i : ℕ) (p : Datum) → found (slice_get [] i) ≡ Ok p → ⊥
no_field i p is = cc

pub has_size : (v : Datum) → 1 ≤ size_of v
has_size (datum.int z) = omega arith
has_size (datum.truth b) = omega arith
has_size (datum.char c) = omega arith
has_size (datum.enumerated n) = omega arith
has_size (datum.text t) = omega arith
has_size (datum.array w) = omega arith
has_size (datum.fields w) = omega arith
has_size (datum.set w) = omega arith
has_size (datum.bag w) = omega arith
has_size (datum.object p n) = omega arith

-- a node with a value is no smaller than a node of that value alone
two_fields : (a b : Datum) (w : Data) → size_of b + 2 ≤ size_of (datum.fields (datum.more a (datum.more b w)))
two_fields a b w = omega (arith, has_size a)

node_size : (y : Datum) → 2 ≤ length (fields_in y) → size_of (value_in y) + 2 ≤ size_of y
node_size (datum.fields (datum.more a (datum.more b w))) two = two_fields a b w
node_size (datum.fields (datum.more a datum.none)) two = absurd (omega (arith, two))
node_size (datum.fields datum.none) two = absurd (omega (arith, two))
node_size v two = absurd (omega (arith, two))

changed_size : (name : ℤ) (y x : Datum) (xs : List Datum) → 2 ≤ length (fields_in y) → size_of_all (data_of (node_of name x ∷ xs)) + size_of (value_in y) ≤ size_of_all (data_of (y ∷ xs)) + size_of x
changed_size name y x xs two = omega (arith, node_size y two)

kept_size : (y p x : Datum) (xs ys : List Datum) → size_of_all (data_of ys) + size_of p ≤ size_of_all (data_of xs) + size_of x → size_of_all (data_of (y ∷ ys)) + size_of p ≤ size_of_all (data_of (y ∷ xs)) + size_of x
kept_size y p x xs ys rest = omega (arith, rest)

with_size : (name : ℤ) (p x : Datum) (xs : List Datum) → ((z : Datum) → slice_get xs (node_place name xs) ≡ Some z → 2 ≤ length (fields_in z)) → value_at name xs ≡ Some p →
    size_of_all (data_of (with_node name (node_of name x) xs)) + size_of p ≤ size_of_all (data_of xs) + size_of x
with_size name p x [] valued is = absurd cc
with_size name p x (y ∷ xs) valued is = by_name (is_named name y) valued is (with_size name p x xs)
  where
    by_name : (b : Bool) → ((z : Datum) → slice_get (y ∷ xs) (cond (not b) (1 + node_place name xs) 0) ≡ Some z → 2 ≤ length (fields_in z)) → cond b (Some (value_in y)) (value_at name xs) ≡ Some p →
        (((z : Datum) → slice_get xs (node_place name xs) ≡ Some z → 2 ≤ length (fields_in z)) → value_at name xs ≡ Some p →
        size_of_all (data_of (with_node name (node_of name x) xs)) + size_of p ≤ size_of_all (data_of xs) + size_of x) →
        size_of_all (data_of (cond b (node_of name x ∷ xs) (y ∷ with_node name (node_of name x) xs))) + size_of p ≤ size_of_all (data_of (y ∷ xs)) + size_of x
    by_name true valued is rest =
        let same : value_in y ≡ p = cc in
        subst (λ u. size_of_all (data_of (node_of name x ∷ xs)) + size_of u ≤ size_of_all (data_of (y ∷ xs)) + size_of x) same (changed_size name y x xs (valued y refl))
    by_name false valued is rest =
        kept_size y p x xs (with_node name (node_of name x) xs)
        (rest (λ z stood. valued z (get_next y xs (node_place name xs) (1 + node_place name xs) (omega arith) ∙ stood)) is)

-- a value with nodes is no smaller than a graph of these nodes alone
set_size : (a : Datum) (u w : Data) → size_of_all (data_of (list_of u)) + 3 ≤ size_of (datum.fields (datum.more a (datum.more (datum.set u) w)))
set_size a u w = omega (arith, has_size a, ap size_of_all (data_of-list_of u))

nodes_size : (name : ℤ) (v p : Datum) → value_at name (nodes_in v) ≡ Some p → size_of_all (data_of (nodes_in v)) + 3 ≤ size_of v
nodes_size name (datum.fields (datum.more a (datum.more (datum.set u) w))) p is = set_size a u w
nodes_size name v p is = absurd cc

graph_size : (next : ℤ) (xs : List Datum) → size_of (graph_of next xs) ≡ size_of_all (data_of xs) + 3
graph_size next xs = omega arith

graph_put : (name : ℤ) (v p x : Datum) → IsFirmNode name (nodes_in v) → value_at name (nodes_in v) ≡ Some p →
    size_of (graph_of (name_in v) (with_node name (node_of name x) (nodes_in v))) + size_of p ≤ size_of v + size_of x
graph_put name v p x firm is =
    omega (arith, graph_size (name_in v) (with_node name (node_of name x) (nodes_in v)), with_size name p x (nodes_in v) firm.valued is, nodes_size name v p is)

step_size : (step : ValueStep) (v p x : Datum) → IsFirmStep step v → part_to step v ≡ Ok p → size_of (with_step step v x) + size_of p ≤ size_of v + size_of x
step_size (Index low index) (datum.array w) p x firm is = array_size w (place_of (length (list_of w)) low index) p x is
step_size (Index low index) v p x firm is = absurd (no_part (place_of 0 low index) p is)
step_size (Field place) (datum.fields w) p x firm is = omega (arith, size_set (list_of w) place p x (found_is (slice_get (list_of w) place) p is), ap size_of_all (data_of-list_of w))
step_size (Field place) v p x firm is = absurd (no_field place p is)
step_size (Node name) v p x firm is = graph_put name v p x firm (found_is (value_at name (nodes_in v)) p is)

-- where a path is firm, a value is no larger with what is put than without what stood there
pub firm_size : (path : List ValueStep) (v p x : Datum) → IsFirm path v → part_at path v ≡ Ok p → size_of (with_part path v x) + size_of p ≤ size_of v + size_of x
firm_size [] v p x firm is = let same : v ≡ p = cc in omega (arith, ap size_of same)
firm_size (step ∷ path) v p x firm is = by_step (part_to step v) refl is firm.1 (firm_size path)
  where
    by_step : (q : Result Datum FaultKind) → part_to step v ≡ q → and_then q (part_at path) ≡ Ok p → IfOk q (IsFirm path) →
        ((c y z : Datum) → IsFirm path c → part_at path c ≡ Ok y → size_of (with_part path c z) + size_of y ≤ size_of c + size_of z) →
        size_of (where_found q v (λ c. with_step step v (with_part path c x))) + size_of p ≤ size_of v + size_of x
    by_step (Ok c) leads end on rest = omega (arith, step_size step v c (with_part path c x) firm.0 leads, rest c p x on end)
    by_step (Err fault) leads end on rest = absurd cc

-- ---- as code tells it

pub firm_node : (name name' : ℤ) (vs : List Value) (place next : ℕ) (node : Value) → name' ≡ name → (name ≡ pos 0 → ⊥) → Some place ≡ position (λ v. is_named name' (datum_of v)) vs → node ≡ get_or vs place node →
    2 ≤ length (fields_in (datum_of node)) → next ≡ place + 1 → ((x : Datum) → slice_get (map datum_of vs) next ≡ Some x → is_named name' x ≡ false) → IsFirmNode name (map datum_of vs)
firm_node name name' vs place next node same other is stands two behind alone =
    let xs = map datum_of vs in
    let first = found_some (is_named name') vs xs place is refl in
    let low : place < length vs = subst (λ n. place < n) (length_shown vs) first.0 in
    let here : place ≡ position_or_len (is_named name) xs = subst (λ n. place ≡ position_or_len (is_named n) xs) same first.1 in
    let stood : slice_get xs place ≡ Some (datum_of node) = shown_at vs place node low stands in
    record {
      named = other;
      valued = λ x there.
          let both : Some (datum_of node) ≡ Some x = sym stood ∙ ap (slice_get xs) here ∙ there in
          let is_node : datum_of node ≡ x = cc in
          subst (λ y. 2 ≤ length (fields_in y)) is_node two;
      alone = λ x there. subst (λ n. is_named n x ≡ false) same (alone x (ap (slice_get xs) (behind ∙ ap (λ n. n + 1) here) ∙ there));
    }

not_true : (b : Bool) → not b ≡ true → b ≡ false
not_true true h = absurd cc
not_true false h = refl

pub other_at : (name name' : ℤ) (vs : List Value) (place : ℕ) (node : Value) (b : Bool) (x : Datum) → name' ≡ name → place < length vs → node ≡ get_or vs place node → b ≡ is_named name' (datum_of node) → not b ≡ true →
    slice_get (map datum_of vs) place ≡ Some x → is_named name x ≡ false
other_at name name' vs place node b x same low stands told passes there =
    let both : Some (datum_of node) ≡ Some x = sym (shown_at vs place node low stands) ∙ there in
    let is_node : datum_of node ≡ x = cc in
    subst (λ y. is_named name y ≡ false) is_node (ap (λ n. is_named n (datum_of node)) (sym same) ∙ sym told ∙ not_true b passes)

pub none_past : (vs : List Value) (i : ℕ) (x : Datum) → length vs ≤ i → slice_get (map datum_of vs) i ≡ Some x → ⊥
none_past [] i x past is = cc
none_past (v ∷ vs) zero x past is = omega (arith, past)
none_past (v ∷ vs) (suc i) x past is = none_past vs i x (omega (arith, past)) is

-- a part of what is in order
pub array_part : (v : Value) (w w' : Data) (place : ℕ) (x : Datum) → IsOrdered (datum_of v) → v ≡ Array w → w' ≡ w → slice_get (list_of w') place ≡ Some x → IsOrdered x
array_part v w w' place x h is same stands =
    got (list_of w') place x (subst (λ u. AllOrdered (list_of u)) (sym same) (all_listed w (subst (λ u. IsOrdered (datum_of u)) is h))) stands

pub fields_part : (v : Value) (w w' : Data) (place : ℕ) (x : Datum) → IsOrdered (datum_of v) → v ≡ Fields w → w' ≡ w → slice_get (list_of w') place ≡ Some x → IsOrdered x
fields_part v w w' place x h is same stands =
    got (list_of w') place x (subst (λ u. AllOrdered (list_of u)) (sym same) (all_listed w (subst (λ u. IsOrdered (datum_of u)) is h))) stands
