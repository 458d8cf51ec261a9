-- What lists of calls leave of each name.
use Rattle.std.proofs.Common.{◌≡◌, Bool, true, false, cond, ℤ, pos, List, [], ◌∷◌, ◌++◌, length, map, Option, Some, None, Result, Ok, Err, refl, ap, sym, ◌∙◌, subst, arith}
use Rattle.std.specs.Prelude.{◌+ℤ◌, ◌≤ℤ◌, ◌<ℤ◌, is_some, option_map}
use Rattle.std.specs.Cmp.{Equal-is, tied_itself}
use Rattle.std.specs.FinMap.{int_cmp-IsAntisymmetric}
use Rattle.std.specs.List.{AllByRecursion}
use Rattle.std.specs.List.Sorted.{IsStrictlySortedBy}
use Rattle.std.specs.declared.cmp.Ordering.{Ordering}
use Rattle.std.specs.declared.cmp.Ordering.TheVariants.{Less, Equal, Greater}
use Rattle.std.specs.Ordering.{int_cmp, int_eq, is_eq, ordering_reverse}
use Rattle.std.proofs.lemmas.Cmp.{int_cmp_total}
use Rattle.std.proofs.lemmas.Int.{ints}
use Rattle.std.proofs.lemmas.List.Elements.{recursion_from_All}
use Rattle.orca_base.specs.declared.fault.FaultKind.{FaultKind}
use Rattle.orca_base.specs.declared.fault.FaultKind.TheVariants.{IndexOutside, Overflow}
use Rattle.value_core.specs.Datum.{Datum, list_of-data_of}
use Rattle.graph_values.specs.Calls.{Call, Add, Delete, Set, after_call, after_calls, changed, given, grown, name_of, told, upwards}
use Rattle.graph_values.specs.Graphs.{IsGraph, assigned, deleted, empty_graph, graph_of, is_named, last_name, name_in, node_in, node_of, nodes_in, value_at, value_in, with_node, without_node}
use Rattle.graph_values.proofs.Kept.{IsGiven, added_graph, assigned_graph, by_test, deleted_graph, lower, make_graph, same_name}

-- integers that are the same, and that differ
same_from : (x y : ℤ) → int_eq x y ≡ true → x ≡ y
same_from x y h = int_cmp-IsAntisymmetric x y ((Equal-is (int_cmp x y)).0 h)

met : (x y : ℤ) → x ≡ y → int_eq x y ≡ true
met x y h = ap (λ z. is_eq (int_cmp z y)) h ∙ ap is_eq (tied_itself int_cmp_total y)

turned : (x y : ℤ) → int_eq x y ≡ int_eq y x
turned x y = ap is_eq (int_cmp_total.antisymm x y) ∙ reversed (int_cmp y x)
  where
    reversed : (r : Ordering) → is_eq (ordering_reverse r) ≡ is_eq r
    reversed Less = refl
    reversed Equal = refl
    reversed Greater = refl

-- a lower name is another
not_lower : (x y : ℤ) → x <ℤ y → int_eq x y ≡ false
not_lower x y h = ap is_eq (lower x y h)

-- nodes, and one more behind them
at_end : (name : ℤ) (xs : List Datum) (y : Datum) → AllByRecursion (λ x. is_named name x ≡ false) xs → is_named name y ≡ true → value_at name (xs ++ y ∷ []) ≡ Some (value_in y)
at_end name [] y all here = ap (λ b. cond b (Some (value_in y)) None) here
at_end name (x ∷ xs) y all here = ap (λ b. cond b (Some (value_in x)) (value_at name (xs ++ y ∷ []))) all.0 ∙ at_end name xs y all.1 here

not_at_end : (name : ℤ) (xs : List Datum) (y : Datum) → is_named name y ≡ false → value_at name (xs ++ y ∷ []) ≡ value_at name xs
not_at_end name [] y apart = ap (λ b. cond b (Some (value_in y)) None) apart
not_at_end name (x ∷ xs) y apart = ap (λ o. cond (is_named name x) (Some (value_in x)) o) (not_at_end name xs y apart)

below_all : (name : ℤ) (xs : List Datum) → AllByRecursion (IsGiven name) xs → AllByRecursion (λ x. is_named name x ≡ false) xs
below_all name [] all = tt
below_all name (x ∷ xs) all = (not_lower (name_in x) name all.0.1, below_all name xs all.1)

-- the node that is added is there, and the others as they were
pub node_added : (name : ℤ) (fresh g : Datum) → IsGraph g →
    node_in name (graph_of (name_in g +ℤ pos 1) (nodes_in g ++ node_of (name_in g) fresh ∷ [])) ≡ cond (int_eq (name_in g) name) (Some fresh) (node_in name g)
node_added name fresh g h =
    let next = name_in g in
    ap (value_at name) (list_of-data_of (nodes_in g ++ node_of next fresh ∷ []))
    ∙ by_name (int_eq next name) refl
  where
    by_name : (b : Bool) → int_eq (name_in g) name ≡ b → value_at name (nodes_in g ++ node_of (name_in g) fresh ∷ []) ≡ cond b (Some fresh) (node_in name g)
    by_name true is = at_end name (nodes_in g) (node_of (name_in g) fresh)
        (subst (λ z. AllByRecursion (λ x. is_named z x ≡ false) (nodes_in g)) (same_from (name_in g) name is) (below_all (name_in g) (nodes_in g) (recursion_from_All (IsGiven (name_in g)) (nodes_in g) h.given))) is
    by_name false is = not_at_end name (nodes_in g) (node_of (name_in g) fresh) is

-- the node that is deleted is gone, and the others are as they were
none_above : (name x : ℤ) (xs : List Datum) → x ≡ name → AllByRecursion (λ y. int_cmp x y ≡ Less) (map name_in xs) → value_at name xs ≡ None
none_above name x [] same all = refl
none_above name x (y ∷ xs) same all =
    ap (λ b. cond b (Some (value_in y)) (value_at name xs)) (turned (name_in y) name ∙ ap (λ z. int_eq z (name_in y)) (sym same) ∙ ap is_eq all.0) ∙ none_above name x xs same all.1

gone : (name : ℤ) (xs : List Datum) → IsStrictlySortedBy int_cmp (map name_in xs) → value_at name (without_node name xs) ≡ None
unfolding IsStrictlySortedBy
gone name [] rising = refl
gone name (x ∷ xs) rising = by_test (λ ys. value_at name ys ≡ None) (is_named name x) xs (x ∷ without_node name xs)
    (λ here. none_above name (name_in x) xs (same_name name x here) rising.0)
    (λ apart. ap (λ b. cond b (Some (value_in x)) (value_at name (without_node name xs))) apart ∙ gone name xs rising.1)

-- where the name is another, it isn't the node's
other_node : (name other : ℤ) (x : Datum) → int_eq other name ≡ false → is_named other x ≡ true → is_named name x ≡ false
other_node name other x apart here = ap (λ z. int_eq z name) (same_name other x here) ∙ apart

others_left : (name other : ℤ) (xs : List Datum) → int_eq other name ≡ false → value_at name (without_node other xs) ≡ value_at name xs
others_left name other [] apart = refl
others_left name other (x ∷ xs) apart = by_test (λ ys. value_at name ys ≡ value_at name (x ∷ xs)) (is_named other x) xs (x ∷ without_node other xs)
    (λ here. sym (ap (λ b. cond b (Some (value_in x)) (value_at name xs)) (other_node name other x apart here)))
    (λ elsewhere. ap (λ o. cond (is_named name x) (Some (value_in x)) o) (others_left name other xs apart))

-- the node that is set has the value, and the others are as they were
set_there : (name : ℤ) (v : Datum) (xs : List Datum) → value_at name (with_node name (node_of name v) xs) ≡ option_map (λ _. v) (value_at name xs)
set_there name v [] = refl
set_there name v (x ∷ xs) = by_first (is_named name x) refl (set_there name v xs)
  where
    by_first : (b : Bool) → is_named name x ≡ b → value_at name (with_node name (node_of name v) xs) ≡ option_map (λ _. v) (value_at name xs) →
        value_at name (cond b (node_of name v ∷ xs) (x ∷ with_node name (node_of name v) xs)) ≡ option_map (λ _. v) (cond b (Some (value_in x)) (value_at name xs))
    by_first true is rest = ap (λ b. cond b (Some v) (value_at name xs)) (met name name refl)
    by_first false is rest = ap (λ b. cond b (Some (value_in x)) (value_at name (with_node name (node_of name v) xs))) is ∙ rest

others_set : (name other : ℤ) (v : Datum) (xs : List Datum) → int_eq other name ≡ false → value_at name (with_node other (node_of other v) xs) ≡ value_at name xs
others_set name other v [] apart = refl
others_set name other v (x ∷ xs) apart = by_test (λ ys. value_at name ys ≡ value_at name (x ∷ xs)) (is_named other x) (node_of other v ∷ xs) (x ∷ with_node other (node_of other v) xs)
    (λ here. ap (λ b. cond b (Some v) (value_at name xs)) apart ∙ sym (ap (λ b. cond b (Some (value_in x)) (value_at name xs)) (other_node name other x apart here)))
    (λ elsewhere. ap (λ o. cond (is_named name x) (Some (value_in x)) o) (others_set name other v xs apart))

-- a call on a graph that has no such node leaves it
no_node : (o : Option Datum) → is_some o ≡ false → o ≡ None
no_node None h = refl
no_node (Some x) h = absurd cc

pub node_deleted : (name other : ℤ) (g : Datum) → IsGraph g → node_in name (changed (deleted other g) g) ≡ cond (int_eq other name) None (node_in name g)
node_deleted name other g h = by_there (is_some (node_in other g)) refl (int_eq other name) refl
  where
    by_there : (a : Bool) → is_some (node_in other g) ≡ a → (b : Bool) → int_eq other name ≡ b →
        node_in name (changed (cond {A = Result Datum FaultKind} a (Ok (graph_of (name_in g) (without_node other (nodes_in g)))) (Err IndexOutside)) g) ≡ cond b None (node_in name g)
    by_there true there true is = ap (value_at name) (list_of-data_of (without_node other (nodes_in g)))
        ∙ ap (λ z. value_at name (without_node z (nodes_in g))) (same_from other name is) ∙ gone name (nodes_in g) h.named.rising
    by_there true there false is = ap (value_at name) (list_of-data_of (without_node other (nodes_in g))) ∙ others_left name other (nodes_in g) is
    by_there false there true is = ap (λ z. node_in z g) (sym (same_from other name is)) ∙ no_node (node_in other g) there
    by_there false there false is = refl

pub node_assigned : (name other : ℤ) (v g : Datum) → IsGraph g → node_in name (changed (assigned other v g) g) ≡ cond (int_eq other name) (option_map (λ _. v) (node_in name g)) (node_in name g)
node_assigned name other v g h = by_there (is_some (node_in other g)) refl (int_eq other name) refl
  where
    by_there : (a : Bool) → is_some (node_in other g) ≡ a → (b : Bool) → int_eq other name ≡ b →
        node_in name (changed (cond {A = Result Datum FaultKind} a (Ok (graph_of (name_in g) (with_node other (node_of other v) (nodes_in g)))) (Err IndexOutside)) g)
        ≡ cond b (option_map (λ _. v) (node_in name g)) (node_in name g)
    by_there true there true is = ap (value_at name) (list_of-data_of (with_node other (node_of other v) (nodes_in g)))
        ∙ ap (λ z. value_at name (with_node z (node_of z v) (nodes_in g))) (same_from other name is) ∙ set_there name v (nodes_in g)
    by_there true there false is = ap (value_at name) (list_of-data_of (with_node other (node_of other v) (nodes_in g))) ∙ others_set name other v (nodes_in g) is
    by_there false there true is =
        let none : node_in name g ≡ None = ap (λ z. node_in z g) (sym (same_from other name is)) ∙ no_node (node_in other g) there in
        none ∙ sym (ap (option_map (λ _. v)) none)
    by_there false there false is = refl

-- a graph stays one
pub bare_is_graph : (next : ℤ) → pos 1 ≤ℤ next → IsGraph (graph_of next [])
unfolding IsStrictlySortedBy
bare_is_graph next least = make_graph next [] tt tt tt least

pub empty_is_graph : IsGraph empty_graph
empty_is_graph = bare_is_graph (pos 1) (omega (arith, ints))

by_fault : (P : Datum → Type 0) (b : Bool) (g h : Datum) (fault : FaultKind) → P g → P h → P (changed (cond {A = Result Datum FaultKind} b (Ok h) (Err fault)) g)
by_fault P true g h fault old new = new
by_fault P false g h fault old new = old

by_limit : (P : Datum → Type 0) (b : Bool) (g h : Datum) (n : ℤ) → P g → P h → P (grown (cond {A = Result (ℤ × Datum) FaultKind} b (Err Overflow) (Ok (n, h))) g)
by_limit P true g h n old new = old
by_limit P false g h n old new = new

pub call_keeps : (g : Datum) (call : Call) → IsGraph g → IsGraph (after_call g call)
call_keeps g (Add fresh) h = by_limit IsGraph (int_eq (name_in g) last_name) g (graph_of (name_in g +ℤ pos 1) (nodes_in g ++ node_of (name_in g) fresh ∷ [])) (name_in g) h (added_graph fresh g h)
call_keeps g (Delete name) h = by_fault IsGraph (is_some (node_in name g)) g (graph_of (name_in g) (without_node name (nodes_in g))) IndexOutside h (deleted_graph name g h)
call_keeps g (Set name v) h = by_fault IsGraph (is_some (node_in name g)) g (graph_of (name_in g) (with_node name (node_of name v) (nodes_in g))) IndexOutside h (assigned_graph name v g h)

pub calls_keep : (g : Datum) (calls : List Call) → IsGraph g → IsGraph (after_calls g calls)
calls_keep g [] h = h
calls_keep g (call ∷ calls) h = calls_keep (after_call g call) calls (call_keeps g call h)

-- what calls say of a name
pub nodes_told : (name : ℤ) (g : Datum) (calls : List Call) → IsGraph g → node_in name (after_calls g calls) ≡ told name (name_in g) (node_in name g) calls
nodes_told name g [] h = refl
nodes_told name g (Add fresh ∷ calls) h = by_last (int_eq (name_in g) last_name) (nodes_told name g calls h)
    (nodes_told name (graph_of (name_in g +ℤ pos 1) (nodes_in g ++ node_of (name_in g) fresh ∷ [])) calls (added_graph fresh g h))
  where
    by_last : (b : Bool) → node_in name (after_calls g calls) ≡ told name (name_in g) (node_in name g) calls →
        node_in name (after_calls (graph_of (name_in g +ℤ pos 1) (nodes_in g ++ node_of (name_in g) fresh ∷ [])) calls)
        ≡ told name (name_in g +ℤ pos 1) (node_in name (graph_of (name_in g +ℤ pos 1) (nodes_in g ++ node_of (name_in g) fresh ∷ []))) calls →
        node_in name (after_calls (grown (cond {A = Result (ℤ × Datum) FaultKind} b (Err Overflow) (Ok (name_in g, graph_of (name_in g +ℤ pos 1) (nodes_in g ++ node_of (name_in g) fresh ∷ [])))) g) calls)
        ≡ cond b (told name (name_in g) (node_in name g) calls) (told name (name_in g +ℤ pos 1) (cond (int_eq (name_in g) name) (Some fresh) (node_in name g)) calls)
    by_last true stays grows = stays
    by_last false stays grows = grows ∙ ap (λ o. told name (name_in g +ℤ pos 1) o calls) (node_added name fresh g h)
nodes_told name g (Delete other ∷ calls) h =
    nodes_told name (changed (deleted other g) g) calls (call_keeps g (Delete other) h)
    ∙ ap (λ n. told name n (node_in name (changed (deleted other g) g)) calls) (by_fault (λ k. name_in k ≡ name_in g) (is_some (node_in other g)) g (graph_of (name_in g) (without_node other (nodes_in g))) IndexOutside refl refl)
    ∙ ap (λ o. told name (name_in g) o calls) (node_deleted name other g h)
nodes_told name g (Set other v ∷ calls) h =
    nodes_told name (changed (assigned other v g) g) calls (call_keeps g (Set other v) h)
    ∙ ap (λ n. told name n (node_in name (changed (assigned other v g) g)) calls) (by_fault (λ k. name_in k ≡ name_in g) (is_some (node_in other g)) g (graph_of (name_in g) (with_node other (node_of other v) (nodes_in g))) IndexOutside refl refl)
    ∙ ap (λ o. told name (name_in g) o calls) (node_assigned name other v g h)

-- the names that calls give
pub names_given : (g : Datum) (calls : List Call) → given g calls ≡ upwards (length (given g calls)) (name_in g)
names_given g [] = refl
names_given g (Add fresh ∷ calls) = by_last (int_eq (name_in g) last_name) (names_given g calls) (names_given (graph_of (name_in g +ℤ pos 1) (nodes_in g ++ node_of (name_in g) fresh ∷ [])) calls)
  where
    by_last : (b : Bool) → given g calls ≡ upwards (length (given g calls)) (name_in g) →
        given (graph_of (name_in g +ℤ pos 1) (nodes_in g ++ node_of (name_in g) fresh ∷ [])) calls
        ≡ upwards (length (given (graph_of (name_in g +ℤ pos 1) (nodes_in g ++ node_of (name_in g) fresh ∷ [])) calls)) (name_in g +ℤ pos 1) →
        (let r = cond {A = Result (ℤ × Datum) FaultKind} b (Err Overflow) (Ok (name_in g, graph_of (name_in g +ℤ pos 1) (nodes_in g ++ node_of (name_in g) fresh ∷ []))) in
        name_of r ++ given (grown r g) calls ≡ upwards (length (name_of r ++ given (grown r g) calls)) (name_in g))
    by_last true stays grows = stays
    by_last false stays grows = ap (λ ns. name_in g ∷ ns) grows
names_given g (Delete other ∷ calls) =
    names_given (changed (deleted other g) g) calls
    ∙ ap (upwards (length (given (changed (deleted other g) g) calls))) (by_fault (λ k. name_in k ≡ name_in g) (is_some (node_in other g)) g (graph_of (name_in g) (without_node other (nodes_in g))) IndexOutside refl refl)
names_given g (Set other v ∷ calls) =
    names_given (changed (assigned other v g) g) calls
    ∙ ap (upwards (length (given (changed (assigned other v g) g) calls))) (by_fault (λ k. name_in k ≡ name_in g) (is_some (node_in other g)) g (graph_of (name_in g) (with_node other (node_of other v) (nodes_in g))) IndexOutside refl refl)
