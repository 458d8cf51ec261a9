-- What is in order stays so where it is read, and where parts and elements come and go.
use Rattle.std.proofs.Common.{◌≡◌, ℕ, zero, suc, ◌+◌, Bool, true, false, cond, ℤ, List, [], ◌∷◌, ◌++◌, length, map, Option, Some, None, Result, Ok, Err, refl, sym, subst, arith}
use Rattle.std.specs.Prelude.{pos, slice_get, slice_set, unwrap_or}
use Rattle.std.specs.List.{AllByRecursion}
use Rattle.std.specs.List.Sorted.{IsSorted, IsStrictlySortedBy}
use Rattle.std.specs.declared.cmp.Ordering.{Ordering}
use Rattle.std.specs.declared.cmp.Ordering.TheVariants.{Less, Equal, Greater}
use Rattle.std.specs.Ordering.{is_eq, is_lt}
use Rattle.orca_base.specs.declared.fault.FaultKind.{FaultKind}
use Rattle.value_core.specs.Datum.{Datum, Data, data_of, list_of, list_of-data_of}
use Rattle.value_core.specs.Datum as datum
use Rattle.value_core.specs.Order.{datum_cmp}
use Rattle.value_core.specs.OrderLaws.{datum_total, parts_in}
use Rattle.value_core.specs.Sound.{AreSound, AreWellFormed, IsWellFormed}
use Rattle.value_core.specs.View.{data_in, datum_of}
use Rattle.value_core.specs.declared.value.Value.{Value}
use Rattle.value_ops.specs.Elements.{IsInOrder, deleted, has, inserted, put_in, rest_of, with_once, without, without_least}
use Rattle.graph_values.specs.Graphs.{fields_in, is_named, nodes_in, nodes_of, value_at, value_in}
use Rattle.value_ops.specs.Sizes.{place_of}
use Rattle.value_paths.specs.declared.step.Step.{Step as ValueStep}
use Rattle.value_paths.specs.declared.step.Step.TheVariants.{Index, Field, Node}
use Rattle.value_paths.specs.Paths.{and_then, array_in, at_place, found, part_at, part_to}
use Rattle.frame_variables.specs.Ordered.{AllOrdered, AreOrdered, Follow, IsOrdered}

-- ---- lists

pub listed : (xs : List Datum) → AreOrdered (data_of xs) → AllOrdered xs
listed [] h = tt
listed (x ∷ xs) h = (h.0, listed xs h.1)

pub all_listed : (w : Data) → AreOrdered w → AllOrdered (list_of w)
all_listed datum.none h = tt
all_listed (datum.more v w) h = (h.0, all_listed w h.1)

pub as_data : (xs : List Datum) → AllOrdered xs → AreOrdered (data_of xs)
as_data [] h = tt
as_data (x ∷ xs) h = (h.0, as_data xs h.1)

pub in_data : (w : Data) → AllOrdered (list_of w) → AreOrdered w
in_data datum.none h = tt
in_data (datum.more v w) h = (h.0, in_data w h.1)

pub got : (xs : List Datum) (i : ℕ) (x : Datum) → AllOrdered xs → slice_get xs i ≡ Some x → IsOrdered x
got [] i x h is = absurd cc
got (y ∷ xs) zero x h is = let same : y ≡ x = cc in subst IsOrdered same h.0
got (y ∷ xs) (suc i) x h is = got xs i x h.1 is

pub set_in : (xs : List Datum) (i : ℕ) (x : Datum) → AllOrdered xs → IsOrdered x → AllOrdered (slice_set xs i x)
set_in [] i x h one = tt
set_in (y ∷ xs) zero x h one = (one, h.1)
set_in (y ∷ xs) (suc i) x h one = (h.0, set_in xs i x h.1 one)

pub joined : (xs ys : List Datum) → AllOrdered xs → AllOrdered ys → AllOrdered (xs ++ ys)
joined [] ys h k = k
joined (x ∷ xs) ys h k = (h.0, joined xs ys h.1 k)

pub front_of : (xs ys : List Datum) → AllOrdered (xs ++ ys) → AllOrdered xs
front_of [] ys h = tt
front_of (x ∷ xs) ys h = (h.0, front_of xs ys h.1)

pub back_of : (xs ys : List Datum) → AllOrdered (xs ++ ys) → AllOrdered ys
back_of [] ys h = h
back_of (x ∷ xs) ys h = back_of xs ys h.1

-- ---- sound values

mutual
  pub sound_ordered : (v : Datum) → IsWellFormed v → IsOrdered v
  sound_ordered (datum.int z) h = tt
  sound_ordered (datum.truth b) h = tt
  sound_ordered (datum.char c) h = tt
  sound_ordered (datum.enumerated n) h = tt
  sound_ordered (datum.text t) h = tt
  sound_ordered (datum.array w) h = sound_all w h.0
  sound_ordered (datum.fields w) h = sound_all w h.0
  sound_ordered (datum.set w) h = (sound_all w h.0, h.2)
  sound_ordered (datum.bag w) h = (sound_all w h.0, h.2)
  sound_ordered (datum.object p n) h = tt

  sound_all : (w : Data) → AreWellFormed w → AreOrdered w
  sound_all datum.none h = tt
  sound_all (datum.more v w) h = (sound_ordered v h.0, sound_all w h.1)

pub lent_ordered : (vs : List Value) → AreSound (data_in vs) → AllOrdered (map datum_of vs)
lent_ordered vs h = listed (map datum_of vs) (sound_all (data_in vs) h.well_formed)

-- ---- what is read

pub in_order : (v : Datum) → IsOrdered v → IsInOrder v
in_order (datum.set w) h = h.1
in_order (datum.bag w) h = h.1
in_order v h = tt

pub fields_ordered : (v : Datum) → IsOrdered v → AllOrdered (fields_in v)
fields_ordered (datum.fields w) h = all_listed w h
fields_ordered v h = tt

pub array_ordered : (v : Datum) → IsOrdered v → AllOrdered (array_in v)
array_ordered (datum.array w) h = all_listed w h
array_ordered v h = tt

found_ordered : (xs : List Datum) (i : ℕ) (x : Datum) → AllOrdered xs → found (slice_get xs i) ≡ Ok x → IsOrdered x
found_ordered xs i x h is = by_place (slice_get xs i) refl is
  where
    by_place : (o : Option Datum) → slice_get xs i ≡ o → found o ≡ Ok x → IsOrdered x
    by_place None at_place is = absurd cc
    by_place (Some y) at_place is = let same : y ≡ x = cc in subst IsOrdered same (got xs i y h at_place)

placed_ordered : (q : Result ℕ FaultKind) (xs : List Datum) (x : Datum) → AllOrdered xs → at_place q xs ≡ Ok x → IsOrdered x
placed_ordered (Ok place) xs x h is = found_ordered xs place x h is
placed_ordered (Err fault) xs x h is = absurd cc

pub second_ordered : (v : Datum) → IsOrdered v → IsOrdered (value_in v)
second_ordered v h = by_field (slice_get (fields_in v) 1) (λ y is. got (fields_in v) 1 y (fields_ordered v h) is)
  where
    by_field : (o : Option Datum) → ((y : Datum) → o ≡ Some y → IsOrdered y) → IsOrdered (unwrap_or o (datum.int (pos 0)))
    by_field None h = tt
    by_field (Some y) h = h y refl

-- the nodes of a graph rise too
set_rises : (v : Datum) → IsOrdered v → AllOrdered (nodes_of (Some v)) × IsStrictlySortedBy datum_cmp (nodes_of (Some v))
unfolding IsStrictlySortedBy
set_rises (datum.set w) h = (all_listed w h.0, h.1)
set_rises v h = (tt, tt)

none_rises : AllOrdered (nodes_of None) × IsStrictlySortedBy datum_cmp (nodes_of None)
unfolding IsStrictlySortedBy
none_rises = (tt, tt)

pub nodes_ordered : (g : Datum) → IsOrdered g → AllOrdered (nodes_in g) × IsStrictlySortedBy datum_cmp (nodes_in g)
nodes_ordered g h = by_field (slice_get (fields_in g) 1) (λ y is. got (fields_in g) 1 y (fields_ordered g h) is)
  where
    by_field : (o : Option Datum) → ((y : Datum) → o ≡ Some y → IsOrdered y) → AllOrdered (nodes_of o) × IsStrictlySortedBy datum_cmp (nodes_of o)
    by_field None h = none_rises
    by_field (Some y) h = set_rises y (h y refl)

node_ordered : (name : ℤ) (xs : List Datum) (x : Datum) → AllOrdered xs → found (value_at name xs) ≡ Ok x → IsOrdered x
node_ordered name [] x h is = absurd cc
node_ordered name (y ∷ xs) x h is = by_name (is_named name y) (node_ordered name xs x h.1) is
  where
    by_name : (b : Bool) → (found (value_at name xs) ≡ Ok x → IsOrdered x) → found (cond b (Some (value_in y)) (value_at name xs)) ≡ Ok x → IsOrdered x
    by_name true rest is = let same : value_in y ≡ x = cc in subst IsOrdered same (second_ordered y h.0)
    by_name false rest is = rest is

pub step_ordered : (step : ValueStep) (v p : Datum) → IsOrdered v → part_to step v ≡ Ok p → IsOrdered p
step_ordered (Index low index) v p h is = placed_ordered (place_of (length (array_in v)) low index) (array_in v) p (array_ordered v h) is
step_ordered (Field place) v p h is = found_ordered (fields_in v) place p (fields_ordered v h) is
step_ordered (Node name) v p h is = node_ordered name (nodes_in v) p (nodes_ordered v h).0 is

pub path_ordered : (path : List ValueStep) (v p : Datum) → IsOrdered v → part_at path v ≡ Ok p → IsOrdered p
path_ordered [] v p h is = let same : v ≡ p = cc in subst IsOrdered same h
path_ordered (step ∷ path) v p h is = by_step (part_to step v) refl (λ c. path_ordered path c p) is
  where
    by_step : (q : Result Datum FaultKind) → part_to step v ≡ q → ((c : Datum) → IsOrdered c → part_at path c ≡ Ok p → IsOrdered p) → and_then q (part_at path) ≡ Ok p → IsOrdered p
    by_step (Ok c) leads rest is = rest c (step_ordered step v c h leads) is
    by_step (Err fault) leads rest is = absurd cc

-- ---- elements

put_all : (e : Datum) (xs : List Datum) → IsOrdered e → AllOrdered xs → AllOrdered (put_in e xs)
put_all e [] one h = (one, tt)
put_all e (x ∷ xs) one h = by_test (is_lt (datum_cmp x e)) (put_all e xs one h.1)
  where
    by_test : (b : Bool) → AllOrdered (put_in e xs) → AllOrdered (cond b (x ∷ put_in e xs) (e ∷ x ∷ xs))
    by_test true rest = (h.0, rest)
    by_test false rest = (one, h)

without_all : (e : Datum) (xs : List Datum) → AllOrdered xs → AllOrdered (without e xs)
without_all e [] h = tt
without_all e (x ∷ xs) h = by_test (is_eq (datum_cmp x e)) (without_all e xs h.1)
  where
    by_test : (b : Bool) → AllOrdered (without e xs) → AllOrdered (cond b xs (x ∷ without e xs))
    by_test true rest = h.1
    by_test false rest = (h.0, rest)

put_data : (e : Datum) (w : Data) → IsOrdered e → AreOrdered w → AreOrdered (data_of (put_in e (list_of w)))
put_data e w one h = as_data (put_in e (list_of w)) (put_all e (list_of w) one (all_listed w h))

once_data : (e : Datum) (w : Data) → IsOrdered e → AreOrdered w → AreOrdered (with_once e w)
once_data e w one h = by_test (has e (list_of w))
  where
    by_test : (b : Bool) → AreOrdered (cond b w (data_of (put_in e (list_of w))))
    by_test true = h
    by_test false = put_data e w one h

pub insert_keeps : (e v : Datum) → IsOrdered e → IsOrdered v → IsInOrder (inserted e v) → IsOrdered (inserted e v)
insert_keeps e (datum.set w) one h order = (once_data e w one h.0, order)
insert_keeps e (datum.bag w) one h order = (put_data e w one h.0, order)
insert_keeps e v one h order = h

pub delete_keeps : (e v : Datum) → IsOrdered v → IsInOrder (deleted e v) → IsOrdered (deleted e v)
delete_keeps e (datum.set w) h order = (as_data (without e (list_of w)) (without_all e (list_of w) (all_listed w h.0)), order)
delete_keeps e (datum.bag w) h order = (as_data (without e (list_of w)) (without_all e (list_of w) (all_listed w h.0)), order)
delete_keeps e v h order = h

rest_data : (w : Data) → AreOrdered w → AreOrdered (rest_of w)
rest_data datum.none h = tt
rest_data (datum.more x w) h = h.1

pub take_keeps : (v : Datum) → IsOrdered v → IsInOrder (without_least v) → IsOrdered (without_least v)
take_keeps (datum.set w) h order = (rest_data w h.0, order)
take_keeps (datum.bag w) h order = (rest_data w h.0, order)
take_keeps v h order = h

-- ---- neighbours that rise, or don't fall

pub above_first : (x y : Datum) (ys : List Datum) → datum_cmp x y ≡ Less → AllByRecursion (λ z. datum_cmp y z ≡ Less) ys → AllByRecursion (λ z. datum_cmp x z ≡ Less) ys
above_first x y [] less all = tt
above_first x y (z ∷ ys) less all = (datum_total.trans x y z less all.0, above_first x y ys less all.1)

pub is_less : (r : Ordering) → is_lt r ≡ true → r ≡ Less
is_less Less h = refl
is_less Equal h = absurd cc
is_less Greater h = absurd cc

rises_on : (x : Datum) (xs : List Datum) → Follow (λ y z. is_lt (datum_cmp y z) ≡ true) x xs → IsStrictlySortedBy datum_cmp (x ∷ xs)
unfolding IsStrictlySortedBy
rises_on x [] h = (tt, tt)
rises_on x (y ∷ ys) h =
    let rest = rises_on y ys h.1 in
    let less = is_less (datum_cmp x y) h.0 in
    ((less, above_first x y ys less rest.0), rest)

falls_not : (x : Datum) (xs : List Datum) → Follow (λ y z. is_lt (datum_cmp z y) ≡ false) x xs → IsSorted datum_cmp (x ∷ xs)
falls_not x [] h k d low lt = absurd (omega (arith, lt))
falls_not x (y ∷ ys) h zero d low lt = h.0
falls_not x (y ∷ ys) h (suc k) d low lt =
    let e : suc k + 1 ≡ suc (k + 1) = omega arith in
    rw e (falls_not y ys h.1 k d (omega arith) (omega (arith, lt)))

none_rise : IsStrictlySortedBy datum_cmp []
unfolding IsStrictlySortedBy
none_rise = tt

-- ---- as code tells it

pub ordered_by : (v : Datum) → IsInOrder v → AllOrdered (list_of (parts_in v)) → IsOrdered v
ordered_by (datum.int z) h all = tt
ordered_by (datum.truth b) h all = tt
ordered_by (datum.char c) h all = tt
ordered_by (datum.enumerated n) h all = tt
ordered_by (datum.text t) h all = tt
ordered_by (datum.array w) h all = in_data w all
ordered_by (datum.fields w) h all = in_data w all
ordered_by (datum.set w) h all = (in_data w all, h)
ordered_by (datum.bag w) h all = (in_data w all, h)
ordered_by (datum.object p n) h all = tt

pub values_rise : (vs rest : List Value) (v : Value) → vs ≡ v ∷ rest → Follow (λ x y. is_lt (datum_cmp x y) ≡ true) (datum_of v) (map datum_of rest) → IsStrictlySortedBy datum_cmp (map datum_of vs)
values_rise vs rest v is h = subst (λ us. IsStrictlySortedBy datum_cmp (map datum_of us)) (sym is) (rises_on (datum_of v) (map datum_of rest) h)

pub no_values_rise : (vs : List Value) → length vs ≡ 0 → IsStrictlySortedBy datum_cmp (map datum_of vs)
no_values_rise [] h = none_rise
no_values_rise (v ∷ vs) h = absurd (omega (arith, h))

pub values_follow : (vs rest : List Value) (v : Value) → vs ≡ v ∷ rest → Follow (λ x y. is_lt (datum_cmp y x) ≡ false) (datum_of v) (map datum_of rest) → IsSorted datum_cmp (map datum_of vs)
values_follow vs rest v is h = subst (λ us. IsSorted datum_cmp (map datum_of us)) (sym is) (falls_not (datum_of v) (map datum_of rest) h)
