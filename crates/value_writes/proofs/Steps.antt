-- One step, and the rest of a path behind it.
use Rattle.std.proofs.Common.{◌≡◌, ℕ, zero, suc, ◌≤◌, Bool, true, false, cond, ℤ, pos, negsuc, List, [], ◌∷◌, length, Some, None, Result, Ok, Err, refl, ap, sym, ◌∙◌, subst, arith}
use Rattle.std.specs.Int.{cast_signed, cast_unsigned, w64}
use Rattle.std.specs.Prelude.{FitsSigned, IfOk, ◌-ℤ◌, nat_lt, slice_get, slice_set, unwrap_or}
use Rattle.std.proofs.lemmas.Int.{to_z-of_z}
use Rattle.orca_base.specs.declared.fault.FaultKind.{FaultKind}
use Rattle.orca_base.specs.declared.fault.FaultKind.TheVariants.{IndexOutside}
use Rattle.orca_base.specs.declared.refusal.Refusal.{Refusal}
use Rattle.orca_base.specs.declared.refusal.Refusal.TheVariants.{Because, NoMemory}
use Rattle.value_core.specs.Datum.{Datum, Data, data_of, list_of, list_of-data_of, data_of-list_of}
use Rattle.value_core.specs.Datum as datum
use Rattle.value_core.specs.View.{datum_of, value_of, value_of-datum_of}
use Rattle.value_core.specs.declared.value.Value.{Value}
use Rattle.value_core.specs.declared.value.Value.TheVariants.{Array, Fields}
use Rattle.value_ops.specs.Sizes.{place_of}
use Rattle.value_ops.specs.Sizes as sizes
use Rattle.graph_values.specs.Graphs.{HasForm, graph_of, name_in, node_of, value_at, value_in}
use Rattle.graph_values.specs.Places.{StandsAt}
use Rattle.value_paths.specs.declared.step.Step.{Step}
use Rattle.value_paths.specs.declared.step.Step.TheVariants.{Index, Field, Node}
use Rattle.value_paths.specs.Paths.{CanWalk, and_then, at_place, found, part_at, part_to, set_place, where_found, with_part, with_step}
use Rattle.value_writes.specs.Puts.{Puts, graph_with}
use Rattle.value_writes.proofs.Lists.{fields_are, set_same, two_fields, valued_is}

-- values that show the same are the same
same_values : (v w : Value) → datum_of v ≡ datum_of w → v ≡ w
same_values v w same = sym (value_of-datum_of v) ∙ ap value_of same ∙ value_of-datum_of w

-- what is put behind a step is put at the end of both, where the value is then as the step says, and as it was where nothing was put
pub puts_behind : (step : Step) (path : List Step) (x : Datum) (old new c c' : Value) (r : Result Value (Refusal FaultKind)) → part_to step (datum_of old) ≡ Ok (datum_of c) →
    datum_of new ≡ with_step step (datum_of old) (datum_of c') → with_step step (datum_of old) (datum_of c) ≡ datum_of old → Puts path x c r c' → Puts (step ∷ path) x old r new
puts_behind step path x old new c c' (Ok part) leads left same put = (
  ap (λ q. and_then q (part_at path)) leads ∙ put.0,
  left ∙ ap (with_step step (datum_of old)) put.1 ∙ sym (ap (λ q. where_found q (datum_of old) (λ p. with_step step (datum_of old) (with_part path p x))) leads),
)
puts_behind step path x old new c c' (Err (Because fault)) leads left same put = (
  ap (λ q. and_then q (part_at path)) leads ∙ put.0,
  same_values new old (left ∙ ap (λ d. with_step step (datum_of old) (datum_of d)) put.1 ∙ same),
)
puts_behind step path x old new c c' (Err NoMemory) leads left same put = same_values new old (left ∙ ap (λ d. with_step step (datum_of old) (datum_of d)) put ∙ same)

-- an array
pub array_puts : (low index : ℤ) (path : List Step) (x : Datum) (c c' : Value) (w : Data) (place : ℕ) (r : Result Value (Refusal FaultKind)) → place_of (length (list_of w)) low index ≡ Ok place →
    slice_get (list_of w) place ≡ Some (datum_of c) → Puts path x c r c' → Puts (Index low index ∷ path) x (Array w) r (Array (data_of (slice_set (list_of w) place (datum_of c'))))
array_puts low index path x c c' w place r placed stands put =
    puts_behind (Index low index) path x (Array w) (Array (data_of (slice_set (list_of w) place (datum_of c')))) c c' r
    (ap (λ q. at_place q (list_of w)) placed ∙ ap found stands)
    (sym (ap (λ q. datum.array (data_of (set_place q (list_of w) (datum_of c')))) placed))
    (ap (λ q. datum.array (data_of (set_place q (list_of w) (datum_of c)))) placed ∙ ap (λ xs. datum.array (data_of xs)) (set_same (list_of w) place (datum_of c) stands) ∙ ap datum.array (data_of-list_of w))
    put

-- a record
pub record_puts : (field : ℕ) (path : List Step) (x : Datum) (c c' : Value) (w : Data) (r : Result Value (Refusal FaultKind)) →
    slice_get (list_of w) field ≡ Some (datum_of c) → Puts path x c r c' → Puts (Field field ∷ path) x (Fields w) r (Fields (data_of (slice_set (list_of w) field (datum_of c'))))
record_puts field path x c c' w r stands put =
    puts_behind (Field field) path x (Fields w) (Fields (data_of (slice_set (list_of w) field (datum_of c')))) c c' r
    (ap found stands) refl (ap (λ xs. datum.fields (data_of xs)) (set_same (list_of w) field (datum_of c) stands) ∙ ap datum.fields (data_of-list_of w)) put

-- the nodes of a graph
pub nodes_put : (next name : ℤ) (path : List Step) (x : Datum) (c c' : Value) (w node : Data) (place : ℕ) (r : Result Value (Refusal FaultKind)) → StandsAt name (list_of w) place →
    slice_get (list_of w) place ≡ Some (datum.fields node) → slice_get (list_of node) 1 ≡ Some (datum_of c) → Puts path x c r c' →
    Puts (Node name ∷ path) x (graph_with next w) r (graph_with next (data_of (slice_set (list_of w) place (datum.fields (data_of (slice_set (list_of node) 1 (datum_of c')))))))
nodes_put next name path x c c' w node place r stands is second put =
    let changed = data_of (slice_set (list_of node) 1 (datum_of c')) in
    let value : value_in (datum.fields node) ≡ datum_of c = ap (λ o. unwrap_or o (datum.int (pos 0))) second in
    let node_is : datum.fields node ≡ node_of name (value_in (datum.fields node)) = stands.node (datum.fields node) is in
    puts_behind (Node name) path x (graph_with next w) (graph_with next (data_of (slice_set (list_of w) place (datum.fields changed)))) c c' r
    (ap found (stands.value (datum.fields node) is ∙ ap Some value))
    (ap (λ xs. graph_of next xs)
    (ap (λ y. slice_set (list_of w) place y) (valued_is name (value_in (datum.fields node)) (datum_of c') node changed node_is (list_of-data_of (slice_set (list_of node) 1 (datum_of c'))))
    ∙ sym (stands.set (node_of name (datum_of c')))))
    (ap (λ xs. graph_of next xs)
    (stands.set (node_of name (datum_of c)) ∙ ap (slice_set (list_of w) place) (sym (node_is ∙ ap (node_of name) value)) ∙ set_same (list_of w) place (datum.fields node) is)
    ∙ ap (λ y. datum.fields (two_fields next y)) (data_of-list_of w))
    put

-- a graph
pub graph_puts : (name : ℤ) (path : List Step) (x : Datum) (f nodes w : Data) (r : Result Value (Refusal FaultKind)) → HasForm (datum.fields f) → slice_get (list_of f) 1 ≡ Some (datum.set nodes) →
    ((next : ℤ) → Puts (Node name ∷ path) x (graph_with next nodes) r (graph_with next w)) →
    Puts (Node name ∷ path) x (Fields f) r (Fields (data_of (slice_set (list_of f) 1 (datum.set w))))
graph_puts name path x f nodes w r form second put =
    let next = name_in (datum.fields f) in
    let same = fields_are f nodes form second in
    subst (λ y. Puts (Node name ∷ path) x (Fields y) r (Fields (data_of (slice_set (list_of y) 1 (datum.set w))))) (sym same) (put next)

-- where a step leads nowhere
past : (xs : List Datum) (i : ℕ) → length xs ≤ i → slice_get xs i ≡ None
past [] i h = refl
past (x ∷ xs) zero h = absurd (omega (arith, h))
past (x ∷ xs) (suc i) h = past xs i (omega (arith, h))

pub array_nowhere : (low index : ℤ) (path : List Step) (w : Data) (fault : FaultKind) → place_of (length (list_of w)) low index ≡ Err fault → part_at (Index low index ∷ path) (datum.array w) ≡ Err fault
array_nowhere low index path w fault placed = ap (λ q. and_then (at_place q (list_of w)) (part_at path)) placed

pub field_nowhere : (field : ℕ) (path : List Step) (w : Data) → length (list_of w) ≤ field → part_at (Field field ∷ path) (datum.fields w) ≡ Err IndexOutside
field_nowhere field path w h = ap (λ o. and_then (found o) (part_at path)) (past (list_of w) field h)

pub node_nowhere : (next name : ℤ) (path : List Step) (w : Data) → value_at name (list_of w) ≡ None → part_at (Node name ∷ path) (datum_of (graph_with next w)) ≡ Err IndexOutside
node_nowhere next name path w absent = ap (λ o. and_then (found o) (part_at path)) absent

-- what the rest of a path asks for
pub walks_on : (step : Step) (path : List Step) (v p : Datum) → CanWalk (step ∷ path) v → part_to step v ≡ Ok p → CanWalk path p
walks_on step path v p walks leads = subst (λ r. IfOk r (CanWalk path)) leads walks.1

pub node_walks : (name : ℤ) (path : List Step) (c : Datum) (xs : List Datum) (node : Data) (place : ℕ) → StandsAt name xs place → slice_get xs place ≡ Some (datum.fields node) → slice_get (list_of node) 1 ≡ Some c →
    IfOk (found (value_at name xs)) (CanWalk path) → CanWalk path c
node_walks name path c xs node place stands is second walks =
    subst (λ o. IfOk (found o) (CanWalk path)) (stands.value (datum.fields node) is ∙ ap (λ o. Some (unwrap_or o (datum.int (pos 0)))) second) walks

-- want of memory
pub without : (path : List Step) (x : Datum) (old new : Value) (r : Result Value (Refusal FaultKind)) (e : Refusal FaultKind) → r ≡ Err e → e ≡ NoMemory → new ≡ old → Puts path x old r new
without path x old new r e is none same = subst (λ q. Puts path x old q new) (sym (is ∙ ap Err none)) same

-- the same of values that are the same
pub puts_same : (path : List Step) (x : Datum) (old old' new new' : Value) (r : Result Value (Refusal FaultKind)) → old ≡ old' → new ≡ new' → Puts path x old r new → Puts path x old' r new'
puts_same path x old old' new new' r is is' put = subst (λ v. Puts path x v r new') is (subst (λ v. Puts path x old r v) is' put)

-- values that have no parts of the sort
outside : (count : ℕ) (z : ℤ) → at_place (sizes.part_at count z) [] ≡ Err IndexOutside
outside count (negsuc n) = refl
outside count (pos n) = by_test (nat_lt n count)
  where
    by_test : (b : Bool) → at_place (cond {A = Result ℕ FaultKind} b (Ok n) (Err IndexOutside)) [] ≡ Err IndexOutside
    by_test true = refl
    by_test false = refl

pub no_array : (low index : ℤ) (path : List Step) (v : Value) → ((w : Data) → v ≡ Array w → ⊥) → part_at (Index low index ∷ path) (datum_of v) ≡ Err IndexOutside
no_array low index path (Array w) other = absurd (other w refl)
no_array low index path v other = ap (λ q. and_then q (part_at path)) (outside 0 (index -ℤ low))

pub no_record : (field : ℕ) (path : List Step) (v : Value) → ((w : Data) → v ≡ Fields w → ⊥) → part_at (Field field ∷ path) (datum_of v) ≡ Err IndexOutside
no_record field path (Fields w) other = absurd (other w refl)
no_record field path v other = refl

pub refused : (step s : Step) (path : List Step) (x : Datum) (v : Value) (r : Result Value (Refusal FaultKind)) (fault : FaultKind) → r ≡ Err (Because fault) → step ≡ s → part_at (s ∷ path) (datum_of v) ≡ Err fault → Puts (step ∷ path) x v r v
refused step s path x v r fault is same nowhere = subst (λ q. Puts (step ∷ path) x v q v) (sym is) (subst (λ z. part_at (z ∷ path) (datum_of v) ≡ Err fault) (sym same) nowhere, refl)

-- the same of a step that is the same
pub walks_same : (step s : Step) (path : List Step) (v w : Datum) → step ≡ s → v ≡ w → CanWalk (step ∷ path) v → CanWalk (s ∷ path) w
walks_same step s path v w is same walks = subst (λ z. CanWalk (s ∷ path) z) same (subst (λ z. CanWalk (z ∷ path) v) is walks)

pub puts_as : (step s : Step) (path : List Step) (x : Datum) (old old' new new' : Value) (r : Result Value (Refusal FaultKind)) → step ≡ s → old ≡ old' → new ≡ new' → Puts (s ∷ path) x old r new → Puts (step ∷ path) x old' r new'
puts_as step s path x old old' new new' r same is is' put = puts_same (step ∷ path) x old old' new new' r is is' (subst (λ z. Puts (z ∷ path) x old r new) (sym same) put)

pub index_as : (low index : ℤ) (step : Step) → FitsSigned w64 low → FitsSigned w64 index → step ≡ Index low index → step ≡ Index (cast_signed w64 (cast_unsigned w64 low)) (cast_signed w64 (cast_unsigned w64 index))
index_as low index step low_fits index_fits is =
    is ∙ ap (λ z. Index z index) (sym (to_z-of_z w64 low low_fits)) ∙ ap (Index (cast_signed w64 (cast_unsigned w64 low))) (sym (to_z-of_z w64 index index_fits))
