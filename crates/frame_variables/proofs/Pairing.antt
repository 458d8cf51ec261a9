-- Records of two fields: nodes and graphs.
use Rattle.std.proofs.Common.{◌≡◌, ◌<◌, zero, suc, get_or, arith, true, cond, ℤ, ℕ, List, [], ◌∷◌, ◌++◌, Some, None, Ok, Err, length, map, refl, ap, sym, ◌∙◌, subst}
use Rattle.std.specs.Prelude.{is_some, position, remove, slice_get}
use Rattle.orca_base.specs.declared.fault.FaultKind.TheVariants.{IndexOutside}
use Rattle.value_core.specs.Datum.{Datum, Data, data_of, list_of, data_of-list_of}
use Rattle.value_core.specs.Datum as datum
use Rattle.value_core.specs.View.{datum_of}
use Rattle.value_core.specs.declared.value.Value.{Value}
use Rattle.graph_values.specs.Graphs.{deleted, graph_of, is_named, name_in, node_in, nodes_in, value_at, value_in, without_node}
use Rattle.meaning_rules.specs.States.{State, Goes, Stops, Faults, gives}
use Rattle.frame_variables.proofs.Placing.{found_none, found_some, is_there, length_shown, node_gone, node_none, node_place, node_value}

pub whole_data : (w : Data) → data_of (list_of w) ≡ w
whole_data w = data_of-list_of w

pub pair_is : (empty one two fields : Data) (a b : Datum) → list_of empty ≡ [] → list_of one ≡ list_of empty ++ a ∷ [] → list_of two ≡ list_of one ++ b ∷ [] → fields ≡ two →
    datum.fields fields ≡ datum.fields (datum.more a (datum.more b datum.none))
pair_is empty one two fields a b bare first second is =
    ap datum.fields (is ∙ sym (data_of-list_of two) ∙ ap data_of (second ∙ ap (λ xs. xs ++ b ∷ []) (first ∙ ap (λ xs. xs ++ a ∷ []) bare)))

-- a node that isn't there, and one that is
pub node_nowhere : (name name' : ℤ) (g : Datum) (vs : List Value) (xs : List Datum) → name' ≡ name → xs ≡ nodes_in g → map datum_of vs ≡ xs → None ≡ position (λ v. is_named name' (datum_of v)) vs → node_in name g ≡ None
node_nowhere name name' g vs xs same nodes shown is =
    ap (value_at name) (sym nodes) ∙ ap (λ n. value_at n xs) (sym same) ∙ node_none name' xs (found_none (is_named name') vs xs is shown)

pub shown_at : (vs : List Value) (i : ℕ) (v : Value) → i < length vs → v ≡ get_or vs i v → slice_get (map datum_of vs) i ≡ Some (datum_of v)
shown_at [] i v h is = absurd (omega (arith, h))
shown_at (x ∷ vs) zero v h is = ap (λ y. Some (datum_of y)) (sym is)
shown_at (x ∷ vs) (suc i) v h is = shown_at vs i v (omega (arith, h)) is

pub node_found : (name name' : ℤ) (g : Datum) (vs : List Value) (place : ℕ) (v : Value) → name' ≡ name → map datum_of vs ≡ nodes_in g → Some place ≡ position (λ x. is_named name' (datum_of x)) vs → v ≡ get_or vs place v →
    node_in name g ≡ Some (value_in (datum_of v))
node_found name name' g vs place v same shown is at_place =
    let found = found_some (is_named name') vs (map datum_of vs) place is refl in
    let low : place < length vs = subst (λ n. place < n) (length_shown vs) found.0 in
    let stood : slice_get (map datum_of vs) (node_place name' (map datum_of vs)) ≡ Some (datum_of v) = subst (λ n. slice_get (map datum_of vs) n ≡ Some (datum_of v)) found.1 (shown_at vs place v low at_place) in
    ap (value_at name) (sym shown) ∙ ap (λ n. value_at n (map datum_of vs)) (sym same) ∙ node_value name' (map datum_of vs) (datum_of v) stood

-- `deletenode`, as code does it
pub not_deleted : (name name' : ℤ) (g : Datum) (vs : List Value) (xs : List Datum) (s : State) → name' ≡ name → xs ≡ nodes_in g → map datum_of vs ≡ xs → None ≡ position (λ v. is_named name' (datum_of v)) vs →
    gives (deleted name g) s ≡ Stops (Faults IndexOutside)
not_deleted name name' g vs xs s same nodes shown is =
    ap (λ o. gives (cond (is_some o) (Ok (graph_of (name_in g) (without_node name (nodes_in g)))) (Err IndexOutside)) s) (node_nowhere name name' g vs xs same nodes shown is)

pub is_deleted : (name name' : ℤ) (g v : Datum) (vs : List Value) (xs ys : List Datum) (place : ℕ) (next : ℤ) (s : State) → name' ≡ name → next ≡ name_in g → xs ≡ nodes_in g → map datum_of vs ≡ xs →
    Some place ≡ position (λ v. is_named name' (datum_of v)) vs → ys ≡ remove xs place → v ≡ graph_of next ys → gives (deleted name g) s ≡ Goes v s
is_deleted name name' g v vs xs ys place next s same next_is nodes shown is gone v_is =
    let found = found_some (is_named name') vs xs place is shown in
    let within : node_place name' xs < length xs = subst (λ n. n < length xs) found.1 found.0 in
    let there : is_some (node_in name g) ≡ true = ap (λ ys. is_some (value_at name ys)) (sym nodes) ∙ ap (λ n. is_some (value_at n xs)) (sym same) ∙ is_there name' xs within in
    let left : ys ≡ without_node name (nodes_in g) =
    gone ∙ ap (remove xs) found.1 ∙ sym (node_gone name' xs within) ∙ ap (λ n. without_node n xs) same ∙ ap (without_node name) nodes in
    ap (λ b. gives (cond b (Ok (graph_of (name_in g) (without_node name (nodes_in g)))) (Err IndexOutside)) s) there
    ∙ ap (λ d. Goes d s) (sym (v_is ∙ ap (λ n. graph_of n ys) next_is ∙ ap (graph_of (name_in g)) left))
