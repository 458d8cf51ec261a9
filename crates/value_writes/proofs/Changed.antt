-- What calls leave of a graph, by what they leave of its nodes.
use Rattle.std.proofs.Common.{◌≡◌, ℕ, ℤ, pos, Bool, true, false, cond, List, ◌∷◌, ◌++◌, [], Option, Some, None, Result, Ok, Err, negsuc, ap, sym, ◌∙◌, subst, arith}
use Rattle.std.specs.Int.{cast_signed, cast_unsigned, w64}
use Rattle.std.specs.Prelude.{FitsSigned, MatchOption, ◌≤ℤ◌, ◌+ℤ◌, is_some, remove, slice_get, slice_set}
use Rattle.std.specs.Ordering.{int_eq}
use Rattle.std.proofs.lemmas.Int.{to_z-of_z}
use Rattle.orca_base.specs.declared.fault.FaultKind.{FaultKind}
use Rattle.orca_base.specs.declared.fault.FaultKind.TheVariants.{IndexOutside, Overflow}
use Rattle.value_core.specs.Datum.{Datum, Data, data_of, list_of, list_of-data_of}
use Rattle.value_core.specs.Datum as datum
use Rattle.graph_values.specs.Graphs.{HasForm, added, graph_of, last_name, name_in, node_of, nodes_in, value_at, value_in, where_named}
use Rattle.graph_values.specs.Places.{StandsAt}
use Rattle.value_writes.specs.Changes.{nodes_assigned, nodes_deleted, where_there}
use Rattle.value_writes.proofs.Lists.{graph_is, nodes_are, valued_is}

-- nodes at their names, as a caller speaks of them
pub stands_there : (name : ℤ) (xs ys : List Datum) (place : ℕ) → FitsSigned w64 name → StandsAt (cast_signed w64 (cast_unsigned w64 name)) xs place → xs ≡ ys → StandsAt name ys place
stands_there name xs ys place fits stands same = subst (λ zs. StandsAt name zs place) same (subst (λ z. StandsAt z xs place) (to_z-of_z w64 name fits) stands)

pub absent_there : (name : ℤ) (xs ys : List Datum) → FitsSigned w64 name → value_at (cast_signed w64 (cast_unsigned w64 name)) xs ≡ None → xs ≡ ys → value_at name ys ≡ None
absent_there name xs ys fits absent same = ap (value_at name) (sym same) ∙ ap (λ z. value_at z xs) (sym (to_z-of_z w64 name fits)) ∙ absent

pub at_none : (o : Option ℕ) (A : Type 0) (B : ℕ → Type 0) → o ≡ None → MatchOption o A B → A
at_none o A B is h = subst (λ q. MatchOption q A B) is h

-- a change of nodes
there : (name : ℤ) (xs ys : List Datum) (v : Datum) → value_at name xs ≡ Some v → where_there name xs ys ≡ Ok ys
there name xs ys v is = ap (λ o. cond {A = Result (List Datum) FaultKind} (is_some o) (Ok ys) (Err IndexOutside)) is

pub nowhere : (name : ℤ) (xs ys : List Datum) → value_at name xs ≡ None → where_there name xs ys ≡ Err IndexOutside
nowhere name xs ys absent = ap (λ o. cond {A = Result (List Datum) FaultKind} (is_some o) (Ok ys) (Err IndexOutside)) absent

pub dropped_is : (name : ℤ) (xs ys : List Datum) (place : ℕ) (x : Datum) → StandsAt name xs place → slice_get xs place ≡ Some x → ys ≡ remove xs place → nodes_deleted name xs ≡ Ok ys
dropped_is name xs ys place x stands is left = there name xs _ (value_in x) (stands.value x is) ∙ ap Ok (stands.deleted ∙ sym left)

pub assigned_is : (name : ℤ) (v : Datum) (xs : List Datum) (node w : Data) (place : ℕ) → StandsAt name xs place → slice_get xs place ≡ Some (datum.fields node) →
    list_of w ≡ slice_set (list_of node) 1 v → nodes_assigned name v xs ≡ Ok (list_of (data_of (slice_set xs place (datum.fields w))))
assigned_is name v xs node w place stands is set =
    there name xs _ (value_in (datum.fields node)) (stands.value (datum.fields node) is)
    ∙ ap Ok (stands.set (node_of name v)
    ∙ ap (slice_set xs place) (sym (valued_is name (value_in (datum.fields node)) v node w (stands.node (datum.fields node) is) set))
    ∙ sym (list_of-data_of (slice_set xs place (datum.fields w))))

-- the same change of the graph
pub within_graph : (name : ℤ) (change : List Datum → List Datum) (f nodes w : Data) → HasForm (datum.fields f) → slice_get (list_of f) 1 ≡ Some (datum.set nodes) →
    where_there name (list_of nodes) (change (list_of nodes)) ≡ Ok (list_of w) →
    where_named name (datum.fields f) (change (nodes_in (datum.fields f))) ≡ Ok (datum.fields (data_of (slice_set (list_of f) 1 (datum.set w))))
within_graph name change f nodes w form second changed =
    ap (λ xs. cond {A = Result Datum FaultKind} (is_some (value_at name xs)) (Ok (graph_of (name_in (datum.fields f)) (change xs))) (Err IndexOutside)) (nodes_are f nodes second)
    ∙ by_there (is_some (value_at name (list_of nodes))) changed
    ∙ ap Ok (graph_is f nodes w form second)
  where
    by_there : (b : Bool) → cond {A = Result (List Datum) FaultKind} b (Ok (change (list_of nodes))) (Err IndexOutside) ≡ Ok (list_of w) →
        cond {A = Result Datum FaultKind} b (Ok (graph_of (name_in (datum.fields f)) (change (list_of nodes)))) (Err IndexOutside) ≡ Ok (graph_of (name_in (datum.fields f)) (list_of w))
    by_there true is = let same : change (list_of nodes) ≡ list_of w = cc in ap (λ xs. Ok (graph_of (name_in (datum.fields f)) xs)) same
    by_there false is = absurd cc

pub fault_within : (name : ℤ) (change : List Datum → List Datum) (f nodes : Data) (fault : FaultKind) → slice_get (list_of f) 1 ≡ Some (datum.set nodes) →
    where_there name (list_of nodes) (change (list_of nodes)) ≡ Err fault → where_named name (datum.fields f) (change (nodes_in (datum.fields f))) ≡ Err fault
fault_within name change f nodes fault second changed =
    ap (λ xs. cond {A = Result Datum FaultKind} (is_some (value_at name xs)) (Ok (graph_of (name_in (datum.fields f)) (change xs))) (Err IndexOutside)) (nodes_are f nodes second)
    ∙ by_there (is_some (value_at name (list_of nodes))) changed
  where
    by_there : (b : Bool) → cond {A = Result (List Datum) FaultKind} b (Ok (change (list_of nodes))) (Err IndexOutside) ≡ Err fault →
        cond {A = Result Datum FaultKind} b (Ok (graph_of (name_in (datum.fields f)) (change (list_of nodes)))) (Err IndexOutside) ≡ Err fault
    by_there true is = absurd cc
    by_there false is = cc

-- a node more
pub added_is : (g fresh final node : Datum) (name next : ℤ) → name ≡ name_in g → int_eq name last_name ≡ false → node ≡ node_of name fresh →
    final ≡ graph_of next (nodes_in g ++ node ∷ []) → next ≡ name +ℤ pos 1 → added fresh g ≡ Ok (name, final)
added_is g fresh final node name next is more made put up =
    ap (λ b. cond {A = Result (ℤ × Datum) FaultKind} b (Err Overflow) (Ok (name_in g, graph_of (name_in g +ℤ pos 1) (nodes_in g ++ node_of (name_in g) fresh ∷ []))))
    (ap (λ z. int_eq z last_name) (sym is) ∙ more)
    ∙ ap (λ z. Ok (z, graph_of (z +ℤ pos 1) (nodes_in g ++ node_of z fresh ∷ []))) (sym is)
    ∙ ap (λ h. Ok (name, h))
    (ap (λ z. graph_of z (nodes_in g ++ node_of name fresh ∷ [])) (sym up)
    ∙ ap (λ y. graph_of next (nodes_in g ++ y ∷ [])) (sym made)
    ∙ sym put)

-- a name below the last is followed by one of 64 bits
pub fits_next : (n : ℤ) → pos 1 ≤ℤ n → FitsSigned w64 n → (cast_unsigned w64 n ≡ 9223372036854775807 → ⊥) → FitsSigned w64 (n +ℤ pos 1)
fits_next (pos k) least fits apart = record { sfits = omega (arith, fits.sfits) }
fits_next (negsuc k) least fits apart = absurd least.le
