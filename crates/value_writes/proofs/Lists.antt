-- Lists of parts, one of which is changed, and the fields of a graph.
use Rattle.std.proofs.Common.{◌≡◌, ℕ, zero, suc, ◌<◌, ℤ, List, [], ◌∷◌, ◌++◌, length, Some, Result, Ok, Err, ap, sym, ◌∙◌, subst, arith}
use Rattle.std.specs.Prelude.{OnErr, slice_get, slice_set}
use Rattle.value_core.specs.Datum.{Datum, Data, data_of, list_of, data_of-list_of}
use Rattle.value_core.specs.Datum as datum
use Rattle.value_core.specs.OrderLaws.{parts_in}
use Rattle.value_core.specs.View.{datum_of, value_of, value_of-datum_of}
use Rattle.value_core.specs.declared.value.Value.{Value}
use Rattle.value_core.specs.declared.value.Value.TheVariants.{Fields}
use Rattle.graph_values.specs.Graphs.{HasForm, graph_of, name_in, node_of, nodes_in, nodes_of}

-- a list that gets what it had
pub set_same : (xs : List Datum) (i : ℕ) (x : Datum) → slice_get xs i ≡ Some x → slice_set xs i x ≡ xs
set_same [] i x h = absurd cc
set_same (y ∷ xs) zero x h = let same : y ≡ x = cc in ap (λ z. z ∷ xs) (sym same)
set_same (y ∷ xs) (suc i) x h = ap (λ ys. y ∷ ys) (set_same xs i x h)

pub put_back : (w : Data) (i : ℕ) (x y : Datum) → slice_get (list_of w) i ≡ Some x → y ≡ x → data_of (slice_set (list_of w) i y) ≡ w
put_back w i x y stands same = ap (λ z. data_of (slice_set (list_of w) i z)) same ∙ ap data_of (set_same (list_of w) i x stands) ∙ data_of-list_of w

-- the two fields of a graph
abbrev pub two_fields : ℤ → Data → Data
two_fields next nodes = datum.more (datum.int next) (datum.more (datum.set nodes) datum.none)

pub nodes_are : (f nodes : Data) → slice_get (list_of f) 1 ≡ Some (datum.set nodes) → nodes_in (datum.fields f) ≡ list_of nodes
nodes_are f nodes second = ap nodes_of second

pub fields_are : (f nodes : Data) → HasForm (datum.fields f) → slice_get (list_of f) 1 ≡ Some (datum.set nodes) → f ≡ two_fields (name_in (datum.fields f)) nodes
fields_are f nodes form second = ap parts_in form ∙ ap (two_fields (name_in (datum.fields f))) (ap data_of (nodes_are f nodes second) ∙ data_of-list_of nodes)

-- a graph whose nodes are changed
pub graph_is : (f nodes w : Data) → HasForm (datum.fields f) → slice_get (list_of f) 1 ≡ Some (datum.set nodes) →
    graph_of (name_in (datum.fields f)) (list_of w) ≡ datum.fields (data_of (slice_set (list_of f) 1 (datum.set w)))
graph_is f nodes w form second =
    ap (λ x. datum.fields (two_fields (name_in (datum.fields f)) x)) (data_of-list_of w)
    ∙ ap (λ x. datum.fields (data_of (slice_set (list_of x) 1 (datum.set w)))) (sym (fields_are f nodes form second))

-- a graph whose nodes and next name are changed
pub pushed_is : (f nodes pushed left new : Data) (next : ℤ) (node : Datum) → HasForm (datum.fields f) → slice_get (list_of f) 1 ≡ Some (datum.set nodes) →
    list_of pushed ≡ list_of nodes ++ node ∷ [] → left ≡ data_of (slice_set (list_of f) 1 (datum.set pushed)) → list_of new ≡ slice_set (list_of left) 0 (datum.int next) →
    datum.fields new ≡ graph_of next (nodes_in (datum.fields f) ++ node ∷ [])
pushed_is f nodes pushed left new next node form second more behind set =
    ap datum.fields (sym (data_of-list_of new) ∙ ap data_of set ∙ ap (λ x. data_of (slice_set (list_of x) 0 (datum.int next))) behind
    ∙ ap (λ x. data_of (slice_set (list_of (data_of (slice_set (list_of x) 1 (datum.set pushed)))) 0 (datum.int next))) (fields_are f nodes form second)
    ∙ ap (two_fields next) (sym (data_of-list_of pushed) ∙ ap data_of (more ∙ ap (λ xs. xs ++ node ∷ []) (sym (nodes_are f nodes second)))))

-- a record of two values
pub pair_is : (a b c w : Data) (x y : Datum) → list_of a ≡ [] → list_of b ≡ list_of a ++ x ∷ [] → list_of c ≡ list_of b ++ y ∷ [] → w ≡ c →
    datum.fields w ≡ datum.fields (datum.more x (datum.more y datum.none))
pair_is a b c w x y none one two same =
    let shown : list_of c ≡ x ∷ y ∷ [] = two ∙ ap (λ xs. xs ++ y ∷ []) (one ∙ ap (λ xs. xs ++ x ∷ []) none) in
    ap datum.fields (same ∙ sym (data_of-list_of c) ∙ ap data_of shown)

-- a node that gets another value
pub valued_is : (name : ℤ) (v u : Datum) (pair w : Data) → datum.fields pair ≡ node_of name v → list_of w ≡ slice_set (list_of pair) 1 u → datum.fields w ≡ node_of name u
valued_is name v u pair w is set =
    ap datum.fields (sym (data_of-list_of w) ∙ ap data_of (set ∙ ap (λ x. slice_set (list_of (parts_in x)) 1 u) is))

pub node_has_value : (name : ℤ) (v : Datum) (pair u : Data) → datum.fields pair ≡ node_of name v → u ≡ pair → 1 < length (list_of u)
node_has_value name v pair u is same =
    let two : 1 < length (list_of (datum.more (datum.int name) (datum.more v datum.none))) = omega arith in
    subst (λ y. 1 < length (list_of y)) (sym (same ∙ ap parts_in is)) two

pub node_is_record : (name : ℤ) (v : Datum) (p : Value) → datum_of p ≡ node_of name v → p ≡ Fields (datum.more (datum.int name) (datum.more v datum.none))
node_is_record name v p is = sym (value_of-datum_of p) ∙ ap value_of is

-- a list that isn't lent stays
pub none_lent : {T E : Type 0} (r : Result T E) (e : E) (l x y : Data) → r ≡ Err e → x ≡ y → OnErr r (l ≡ x) → l ≡ y
none_lent r e l x y is same held = let stays : l ≡ x = subst (λ q. OnErr q (l ≡ x)) is held in stays ∙ same

pub on_err : {T E : Type 0} (r : Result T E) (X : Type 0) → X → OnErr r X
on_err (Ok x) X h = tt
on_err (Err e) X h = h
