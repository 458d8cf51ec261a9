-- A graph, whose nodes are changed where they stand.
use Rattle.std.proofs.Common.{◌≡◌, false, ℤ, pos, List, [], ◌∷◌, ◌++◌, Some, Result, Ok, Err, ap, sym, ◌∙◌, subst}
use Rattle.std.specs.Prelude.{OnErr, OnOk, ◌+ℤ◌, slice_get, slice_set}
use Rattle.std.specs.Ordering.{int_eq}
use Rattle.orca_base.specs.declared.fault.FaultKind.{FaultKind}
use Rattle.value_core.specs.Datum.{Datum, Data, data_of, list_of}
use Rattle.value_core.specs.Datum as datum
use Rattle.value_core.specs.View.{datum_of}
use Rattle.value_core.specs.declared.value.Value.{Value}
use Rattle.value_core.specs.declared.value.Value.TheVariants.{Fields, Set}
use Rattle.graph_values.specs.Graphs.{AreNamed, HasForm, IsGraph, added, graph_of, last_name, name_in, node_of, nodes_in, where_named}
use Rattle.value_writes.specs.declared.error.GraphError.{GraphError}
use Rattle.value_writes.specs.declared.error.GraphError.TheVariants.{Fault, NoMemory}
use Rattle.value_writes.specs.Changes.{IfFault, where_there}
use Rattle.value_writes.proofs.Changed.{added_is, fault_within, within_graph}
use Rattle.value_writes.proofs.Lists.{nodes_are, put_back}

-- the way down: the fields u of the graph g, the nodes v at p, what they are then (w), and the fields that are left (l)
pub record Way (g p : Value) (f u nodes v w l : Data) : Type 0 where
  pub is : g ≡ Fields f
  pub same : u ≡ f
  pub second : slice_get (list_of u) 1 ≡ Some (datum_of p)
  pub set : p ≡ Set nodes
  pub nodes_same : v ≡ nodes
  pub left : l ≡ data_of (slice_set (list_of u) 1 (datum.set w))

form_there : (g : Value) (f u : Data) → g ≡ Fields f → u ≡ f → HasForm (datum_of g) → HasForm (datum.fields u)
form_there g f u is same form = subst (λ y. HasForm (datum.fields y)) (sym same) (subst (λ y. HasForm (datum_of y)) is form)

pub fields_formed : (g : Value) (f u : Data) → g ≡ Fields f → u ≡ f → IsGraph (datum_of g) → HasForm (datum.fields u)
fields_formed g f u is same graph = form_there g f u is same graph.form

shown : (g p : Value) (f u nodes v w l : Data) → Way g p f u nodes v w l → slice_get (list_of u) 1 ≡ Some (datum.set v)
shown g p f u nodes v w l way = way.second ∙ ap (λ y. Some (datum_of y)) way.set ∙ ap (λ y. Some (datum.set y)) (sym way.nodes_same)

datum_is : (g p : Value) (f u nodes v w l : Data) → Way g p f u nodes v w l → datum.fields u ≡ datum_of g
datum_is g p f u nodes v w l way = ap datum.fields way.same ∙ sym (ap datum_of way.is)

-- a graph's nodes, which have their names
pub nodes_there : (g p : Value) (f u nodes v : Data) → g ≡ Fields f → u ≡ f → slice_get (list_of u) 1 ≡ Some (datum_of p) → p ≡ Set nodes → v ≡ nodes → nodes_in (datum_of g) ≡ list_of v
nodes_there g p f u nodes v is same second set nodes_same =
    ap (λ y. nodes_in (datum_of y)) is ∙ ap (λ y. nodes_in (datum.fields y)) (sym same) ∙ nodes_are u nodes (second ∙ ap (λ y. Some (datum_of y)) set) ∙ ap list_of (sym nodes_same)

pub named_there : (g p : Value) (f u nodes v : Data) → AreNamed (nodes_in (datum_of g)) → g ≡ Fields f → u ≡ f → slice_get (list_of u) 1 ≡ Some (datum_of p) → p ≡ Set nodes → v ≡ nodes → AreNamed (list_of v)
named_there g p f u nodes v named is same second set nodes_same = subst AreNamed (nodes_there g p f u nodes v is same second set nodes_same) named

-- nothing has changed
pub same_graph : (g p : Value) (f u nodes v w l : Data) → Way g p f u nodes v w l → w ≡ v → Fields l ≡ g
same_graph g p f u nodes v w l way stays =
    ap Fields (way.left ∙ put_back u 1 (datum.set v) (datum.set w) (shown g p f u nodes v w l way) (ap datum.set stays) ∙ way.same) ∙ sym way.is

-- the nodes' change is the graph's
pub changed_ok : {T : Type 0} (r : Result T GraphError) (name name' : ℤ) (change : ℤ → List Datum → List Datum) (g p : Value) (f u nodes v w l : Data) → Way g p f u nodes v w l → IsGraph (datum_of g) → name' ≡ name →
    OnOk r (where_there name' (list_of v) (change name' (list_of v)) ≡ Ok (list_of w)) → OnOk r (where_named name (datum_of g) (change name (nodes_in (datum_of g))) ≡ Ok (datum.fields l))
changed_ok (Err e) name name' change g p f u nodes v w l way graph same ok = tt
changed_ok (Ok x) name name' change g p f u nodes v w l way graph same ok =
    subst (λ y. where_named name y (change name (nodes_in y)) ≡ Ok (datum.fields l)) (datum_is g p f u nodes v w l way)
    (within_graph name (change name) u v w (form_there g f u way.is way.same graph.form) (shown g p f u nodes v w l way)
    (subst (λ z. where_there z (list_of v) (change z (list_of v)) ≡ Ok (list_of w)) same ok)
    ∙ ap (λ y. Ok (datum.fields y)) (sym way.left))

pub changed_fault : {T : Type 0} (r : Result T GraphError) (name name' : ℤ) (change : ℤ → List Datum → List Datum) (g p : Value) (f u nodes v w l : Data) → Way g p f u nodes v w l → name' ≡ name →
    IfFault r (λ fault. where_there name' (list_of v) (change name' (list_of v)) ≡ Err fault) → IfFault r (λ fault. where_named name (datum_of g) (change name (nodes_in (datum_of g))) ≡ Err fault)
changed_fault (Ok x) name name' change g p f u nodes v w l way same ok = tt
changed_fault (Err NoMemory) name name' change g p f u nodes v w l way same ok = tt
changed_fault (Err (Fault fault)) name name' change g p f u nodes v w l way same gone =
    subst (λ y. where_named name y (change name (nodes_in y)) ≡ Err fault) (datum_is g p f u nodes v w l way)
    (fault_within name (change name) u v fault (shown g p f u nodes v w l way) (subst (λ z. where_there z (list_of v) (change z (list_of v)) ≡ Err fault) same gone))

pub changed_err : {T : Type 0} (r : Result T GraphError) (g p : Value) (f u nodes v w l : Data) → Way g p f u nodes v w l → OnErr r (w ≡ v) → OnErr r (Fields l ≡ g)
changed_err (Ok x) g p f u nodes v w l way err = tt
changed_err (Err e) g p f u nodes v w l way err = same_graph g p f u nodes v w l way err

pub stays_graph : {T : Type 0} (r : Result T GraphError) (q : Result Datum FaultKind) (g : Value) (l : Data) → IsGraph (datum_of g) → ((h : Datum) → q ≡ Ok h → IsGraph h) → OnOk r (q ≡ Ok (datum.fields l)) → OnErr r (Fields l ≡ g) →
    IsGraph (datum.fields l)
stays_graph (Ok x) q g l graph law ok err = law (datum.fields l) ok
stays_graph (Err e) q g l graph law ok err = subst (λ y. IsGraph (datum_of y)) (sym err) graph

-- a node more
pub added_through : (g : Value) (fresh node : Datum) (f u w l : Data) (name next : ℤ) → name ≡ name_in (datum_of g) → int_eq name last_name ≡ false → node ≡ node_of name fresh → g ≡ Fields f → u ≡ f → l ≡ w →
    datum.fields w ≡ graph_of next (nodes_in (datum.fields u) ++ node ∷ []) → next ≡ name +ℤ pos 1 → added fresh (datum_of g) ≡ Ok (name, datum.fields l)
added_through g fresh node f u w l name next named more made is same left put up =
    added_is (datum_of g) fresh (datum.fields l) node name next named more made
    (ap datum.fields left ∙ put ∙ ap (λ y. graph_of next (nodes_in y ++ node ∷ [])) (ap datum.fields same ∙ sym (ap datum_of is))) up
