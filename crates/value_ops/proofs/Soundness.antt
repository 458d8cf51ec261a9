-- Values stay sound, and their sizes grow by what is put in, as elements come and go.
use Rattle.std.proofs.Common.{Result, Err, ◌≡◌, ℕ, ◌+◌, ◌-◌, ◌<◌, ◌≤◌, Bool, true, false, cond, List, [], ◌∷◌, length, Ok, refl, ap, sym, ◌∙◌, subst, arith}
use Rattle.std.specs.Prelude.{◌||◌, OnErr, OnOk}
use Rattle.orca_base.specs.declared.refusal.NoMemory.{NoMemory}
use Rattle.std.specs.Cmp.{tied_itself}
use Rattle.std.specs.List.{All, AllByRecursion, Contains}
use Rattle.std.specs.List.Sorted.{IsPermutation, IsSorted, IsStrictlySortedBy}
use Rattle.std.specs.Ordering.{is_eq, is_lt}
use Rattle.std.proofs.lemmas.List.Elements.{All-cons, All-from_recursion}
use Rattle.orca_base.specs.declared.limits.TheConstants.{VALUE_NESTING}
use Rattle.value_core.specs.Datum.{Datum, Data, data_of, list_of, list_of-data_of, data_of-list_of}
use Rattle.value_core.specs.Datum as datum
use Rattle.value_core.specs.Order.{datum_cmp}
use Rattle.value_core.specs.OrderLaws.{datum_total}
use Rattle.value_core.specs.Size.{size_of, size_of_all}
use Rattle.value_core.specs.Sound.{AreWellFormed, IsShort, IsSound, IsWellFormed, nesting, nesting_of_all}
use Rattle.value_ops.specs.Elements.{IsInOrder, IsNotBelow, deleted, elements, first_of, has, inserted, least_of, put_in, rest_of, without, without_least}
use Rattle.value_ops.proofs.Members.{has-Contains, same_from, without_none}
use Rattle.value_ops.proofs.Orders.{NeverFalls, never_falls, rising_never_falls, sorted_again}
use Rattle.value_ops.proofs.Changes.{all_put, all_without, length-put, length-without, put_never_falls, put_permutes, put_rises, without_never_falls, without_permutes, without_rises}

-- lists of values, one by one
well_all : (w : Data) → AreWellFormed w → AllByRecursion IsWellFormed (list_of w)
well_all datum.none h = tt
well_all (datum.more v w) h = (h.0, well_all w h.1)

all_well : (xs : List Datum) → AllByRecursion IsWellFormed xs → AreWellFormed (data_of xs)
all_well [] h = tt
all_well (x ∷ xs) h = (h.0, all_well xs h.1)

nest_all : (n : ℕ) (w : Data) → nesting_of_all w ≤ n → AllByRecursion (λ v. nesting v ≤ n) (list_of w)
nest_all n datum.none h = tt
nest_all n (datum.more v w) h = (omega arith, nest_all n w (omega arith))

all_nest : (n : ℕ) (xs : List Datum) → AllByRecursion (λ v. nesting v ≤ n) xs → nesting_of_all (data_of xs) ≤ n
all_nest n [] h = omega arith
all_nest n (x ∷ xs) h = omega (arith, h.0, all_nest n xs h.1)

put_well : (e : Datum) (w : Data) → IsWellFormed e → AreWellFormed w → AreWellFormed (data_of (put_in e (list_of w)))
put_well e w h well = all_well (put_in e (list_of w)) (all_put IsWellFormed e (list_of w) h (well_all w well))

put_nests : (n : ℕ) (e : Datum) (w : Data) → nesting e ≤ n → nesting_of_all w ≤ n → nesting_of_all (data_of (put_in e (list_of w))) ≤ n
put_nests n e w h flat = all_nest n (put_in e (list_of w)) (all_put (λ v. nesting v ≤ n) e (list_of w) h (nest_all n w flat))

put_short : (e : Datum) (w : Data) → IsShort (e ∷ list_of w) → IsShort (list_of (data_of (put_in e (list_of w))))
put_short e w h = let same : length (list_of (data_of (put_in e (list_of w)))) ≡ length (put_in e (list_of w)) = ap length (list_of-data_of (put_in e (list_of w))) in
    omega (arith, h, same, length-put e (list_of w))

without_well : (e : Datum) (w : Data) → AreWellFormed w → AreWellFormed (data_of (without e (list_of w)))
without_well e w well = all_well (without e (list_of w)) (all_without IsWellFormed e (list_of w) (well_all w well))

without_nests : (n : ℕ) (e : Datum) (w : Data) → nesting_of_all w ≤ n → nesting_of_all (data_of (without e (list_of w))) ≤ n
without_nests n e w flat = all_nest n (without e (list_of w)) (all_without (λ v. nesting v ≤ n) e (list_of w) (nest_all n w flat))

without_short : (e : Datum) (w : Data) → IsShort (list_of w) → IsShort (list_of (data_of (without e (list_of w))))
without_short e w h = let same : length (list_of (data_of (without e (list_of w)))) ≡ length (without e (list_of w)) = ap length (list_of-data_of (without e (list_of w))) in
    omega (arith, h, same, length-without e (list_of w))

-- in order
pub set_put : (e : Datum) (w : Data) → has e (list_of w) ≡ false → IsStrictlySortedBy datum_cmp (list_of w) → IsStrictlySortedBy datum_cmp (list_of (data_of (put_in e (list_of w))))
set_put e w gone rises = subst (IsStrictlySortedBy datum_cmp) (sym (list_of-data_of (put_in e (list_of w)))) (put_rises e (list_of w) gone rises)

pub bag_put : (e : Datum) (w : Data) → IsSorted datum_cmp (list_of w) → IsSorted datum_cmp (list_of (data_of (put_in e (list_of w))))
bag_put e w sorted = subst (IsSorted datum_cmp) (sym (list_of-data_of (put_in e (list_of w)))) (sorted_again (put_in e (list_of w)) (put_never_falls e (list_of w) (never_falls (list_of w) sorted)))

pub set_without : (e : Datum) (w : Data) → IsStrictlySortedBy datum_cmp (list_of w) → IsStrictlySortedBy datum_cmp (list_of (data_of (without e (list_of w))))
set_without e w rises = subst (IsStrictlySortedBy datum_cmp) (sym (list_of-data_of (without e (list_of w)))) (without_rises e (list_of w) rises)

pub bag_without : (e : Datum) (w : Data) → IsSorted datum_cmp (list_of w) → IsSorted datum_cmp (list_of (data_of (without e (list_of w))))
bag_without e w sorted = subst (IsSorted datum_cmp) (sym (list_of-data_of (without e (list_of w)))) (sorted_again (without e (list_of w)) (without_never_falls e (list_of w) (never_falls (list_of w) sorted)))

-- by whether a set has the element
by_has : (P : Data → Type 0) (b : Bool) (w u : Data) → (b ≡ true → P w) → (b ≡ false → P u) → P (cond b w u)
by_has P true w u p q = p refl
by_has P false w u p q = q refl

pub inserted_in_order : (e v : Datum) → IsInOrder v → IsInOrder (inserted e v)
inserted_in_order e (datum.set w) h = by_has (λ u. IsStrictlySortedBy datum_cmp (list_of u)) (has e (list_of w)) w (data_of (put_in e (list_of w))) (λ there. h) (λ gone. set_put e w gone h)
inserted_in_order e (datum.bag w) h = bag_put e w h
inserted_in_order e v h = tt

pub deleted_in_order : (e v : Datum) → IsInOrder v → IsInOrder (deleted e v)
deleted_in_order e (datum.set w) h = set_without e w h
deleted_in_order e (datum.bag w) h = bag_without e w h
deleted_in_order e v h = tt

pub rest_rises : (w : Data) → IsStrictlySortedBy datum_cmp (list_of w) → IsStrictlySortedBy datum_cmp (list_of (rest_of w))
unfolding IsStrictlySortedBy
rest_rises datum.none h = h
rest_rises (datum.more x w) h = h.1

pub rest_sorted : (w : Data) → IsSorted datum_cmp (list_of w) → IsSorted datum_cmp (list_of (rest_of w))
rest_sorted datum.none h = h
rest_sorted (datum.more x w) h = sorted_again (list_of w) (never_falls (datum_list x w) h).1
  where
    datum_list : Datum → Data → List Datum
    datum_list x w = x ∷ list_of w

pub without_least_in_order : (v : Datum) → IsInOrder v → IsInOrder (without_least v)
without_least_in_order (datum.set w) h = rest_rises w h
without_least_in_order (datum.bag w) h = rest_sorted w h
without_least_in_order v h = tt

-- sound
set_sound : (e : Datum) (w : Data) → IsSound e → IsSound (datum.set w) → nesting e < VALUE_NESTING → IsShort (e ∷ list_of w) → has e (list_of w) ≡ false → IsSound (datum.set (data_of (put_in e (list_of w))))
set_sound e w h v flat short gone =
    let deep : nesting_of_all (data_of (put_in e (list_of w))) ≤ VALUE_NESTING - 1 = put_nests (VALUE_NESTING - 1) e w (omega (arith, flat)) (omega (arith, v.shallow)) in
    record {
      well_formed = (put_well e w h.well_formed v.well_formed.0, put_short e w short, set_put e w gone v.well_formed.2);
      shallow = omega (arith, deep);
    }

pub inserted_sound : (e v : Datum) → IsSound e → IsSound v → nesting e < VALUE_NESTING → IsShort (e ∷ elements v) → IsSound (inserted e v)
inserted_sound e (datum.set w) h v flat short = by_has (λ u. IsSound (datum.set u)) (has e (list_of w)) w (data_of (put_in e (list_of w))) (λ there. v) (set_sound e w h v flat short)
inserted_sound e (datum.bag w) h v flat short =
    let deep : nesting_of_all (data_of (put_in e (list_of w))) ≤ VALUE_NESTING - 1 = put_nests (VALUE_NESTING - 1) e w (omega (arith, flat)) (omega (arith, v.shallow)) in
    record {
      well_formed = (put_well e w h.well_formed v.well_formed.0, put_short e w short, bag_put e w v.well_formed.2);
      shallow = omega (arith, deep);
    }
inserted_sound e u h v flat short = v

pub deleted_sound : (e v : Datum) → IsSound v → IsSound (deleted e v)
deleted_sound e (datum.set w) v =
    let deep : nesting_of_all (data_of (without e (list_of w))) ≤ VALUE_NESTING - 1 = without_nests (VALUE_NESTING - 1) e w (omega (arith, v.shallow)) in
    record {
      well_formed = (without_well e w v.well_formed.0, without_short e w v.well_formed.1, set_without e w v.well_formed.2);
      shallow = omega (arith, deep);
    }
deleted_sound e (datum.bag w) v =
    let deep : nesting_of_all (data_of (without e (list_of w))) ≤ VALUE_NESTING - 1 = without_nests (VALUE_NESTING - 1) e w (omega (arith, v.shallow)) in
    record {
      well_formed = (without_well e w v.well_formed.0, without_short e w v.well_formed.1, bag_without e w v.well_formed.2);
      shallow = omega (arith, deep);
    }
deleted_sound e u v = v

rest_well : (w : Data) → AreWellFormed w → AreWellFormed (rest_of w)
rest_well datum.none h = h
rest_well (datum.more x w) h = h.1

rest_nests : (w : Data) → nesting_of_all (rest_of w) ≤ nesting_of_all w
rest_nests datum.none = omega arith
rest_nests (datum.more x w) = omega arith

rest_short : (w : Data) → length (list_of (rest_of w)) ≤ length (list_of w)
rest_short datum.none = omega arith
rest_short (datum.more x w) = omega arith

pub without_least_sound : (v : Datum) → IsSound v → IsSound (without_least v)
without_least_sound (datum.set w) v = record {
  well_formed = (rest_well w v.well_formed.0, (let l : length (list_of (rest_of w)) ≤ length (list_of w) = rest_short w in omega (arith, l, v.well_formed.1)), rest_rises w v.well_formed.2);
  shallow = omega (arith, rest_nests w, v.shallow);
}
without_least_sound (datum.bag w) v = record {
  well_formed = (rest_well w v.well_formed.0, (let l : length (list_of (rest_of w)) ≤ length (list_of w) = rest_short w in omega (arith, l, v.well_formed.1)), rest_sorted w v.well_formed.2);
  shallow = omega (arith, rest_nests w, v.shallow);
}
without_least_sound u v = v

-- sizes
size_put : (e : Datum) (xs : List Datum) → size_of_all (data_of (put_in e xs)) ≡ size_of_all (data_of xs) + size_of e
size_put e [] = omega arith
size_put e (x ∷ xs) = by_first (is_lt (datum_cmp x e)) (size_put e xs)
  where
    by_first : (b : Bool) → size_of_all (data_of (put_in e xs)) ≡ size_of_all (data_of xs) + size_of e →
        size_of_all (data_of (cond b (x ∷ put_in e xs) (e ∷ x ∷ xs))) ≡ size_of_all (data_of (x ∷ xs)) + size_of e
    by_first true rest = omega arith
    by_first false rest = omega arith

pub bag_size : (e : Datum) (w : Data) → size_of (inserted e (datum.bag w)) ≡ size_of (datum.bag w) + size_of e
bag_size e w = omega (arith, size_put e (list_of w), ap size_of_all (data_of-list_of w))

pub set_size : (e : Datum) (w : Data) → has e (list_of w) ≡ false → size_of (inserted e (datum.set w)) ≡ size_of (datum.set w) + size_of e
set_size e w gone = ap (λ b. size_of (datum.set (cond b w (data_of (put_in e (list_of w)))))) gone ∙ sizes
  where
    sizes : size_of (datum.set (data_of (put_in e (list_of w)))) ≡ size_of (datum.set w) + size_of e
    sizes = omega (arith, size_put e (list_of w), ap size_of_all (data_of-list_of w))

pub set_kept : (e : Datum) (w : Data) → has e (list_of w) ≡ true → inserted e (datum.set w) ≡ datum.set w
set_kept e w there = ap (λ b. datum.set (cond b w (data_of (put_in e (list_of w))))) there

size_without : (e : Datum) (xs : List Datum) → has e xs ≡ true → size_of_all (data_of (without e xs)) + size_of e ≡ size_of_all (data_of xs)
size_without e [] there = absurd cc
size_without e (x ∷ xs) there = by_first (is_eq (datum_cmp x e)) refl (size_without e xs)
  where
    by_first : (b : Bool) → is_eq (datum_cmp x e) ≡ b → (has e xs ≡ true → size_of_all (data_of (without e xs)) + size_of e ≡ size_of_all (data_of xs)) →
        size_of_all (data_of (cond b xs (x ∷ without e xs))) + size_of e ≡ size_of_all (data_of (x ∷ xs))
    by_first true is rest = omega (arith, ap size_of (same_from x e is))
    by_first false is rest = omega (arith, rest (ap (λ b. b || has e xs) (sym is) ∙ there))

nothing_there : (e : Datum) → ¬ (has e [] ≡ true)
nothing_there e h = cc

pub deleted_size : (e v : Datum) → has e (elements v) ≡ true → size_of (deleted e v) + size_of e ≡ size_of v
deleted_size e (datum.set w) there = omega (arith, size_without e (list_of w) there, ap size_of_all (data_of-list_of w))
deleted_size e (datum.bag w) there = omega (arith, size_without e (list_of w) there, ap size_of_all (data_of-list_of w))
deleted_size e v there = absurd (nothing_there e there)

-- the elements, in another order
pub bag_grows : (e : Datum) (w : Data) → IsPermutation (e ∷ list_of w) (elements (inserted e (datum.bag w)))
bag_grows e w = subst (IsPermutation (e ∷ list_of w)) (sym (list_of-data_of (put_in e (list_of w)))) (put_permutes e (list_of w))

pub set_grows : (e : Datum) (w : Data) → has e (list_of w) ≡ false → IsPermutation (e ∷ list_of w) (elements (inserted e (datum.set w)))
set_grows e w gone = subst (λ b. IsPermutation (e ∷ list_of w) (list_of (cond b w (data_of (put_in e (list_of w)))))) (sym gone) (bag_grows e w)

pub shrinks : (e v : Datum) → has e (elements v) ≡ true → IsPermutation (elements v) (e ∷ elements (deleted e v))
shrinks e (datum.set w) there = subst (λ xs. IsPermutation (list_of w) (e ∷ xs)) (sym (list_of-data_of (without e (list_of w)))) (without_permutes e (list_of w) there)
shrinks e (datum.bag w) there = subst (λ xs. IsPermutation (list_of w) (e ∷ xs)) (sym (list_of-data_of (without e (list_of w)))) (without_permutes e (list_of w) there)
shrinks e v there = absurd (nothing_there e there)

pub stays : (e v : Datum) → has e (elements v) ≡ false → deleted e v ≡ v
stays e (datum.set w) gone = ap datum.set (ap data_of (without_none e (list_of w) gone) ∙ data_of-list_of w)
stays e (datum.bag w) gone = ap datum.bag (ap data_of (without_none e (list_of w) gone) ∙ data_of-list_of w)
stays e v gone = refl

-- the first of elements in order is the least
itself : (x : Datum) → is_lt (datum_cmp x x) ≡ false
itself x = ap is_lt (tied_itself datum_total x)

least_of_all : (x : Datum) (xs : List Datum) → NeverFalls (x ∷ xs) → All (λ y. IsNotBelow y x) (x ∷ xs)
least_of_all x xs falls = All-cons (λ y. IsNotBelow y x) x xs (itself x) (All-from_recursion (λ y. IsNotBelow y x) xs falls.0)

first_least : (w : Data) (e : Datum) → NeverFalls (list_of w) → first_of (list_of w) ≡ Ok e → (list_of w ≡ e ∷ list_of (rest_of w)) × All (λ x. IsNotBelow x e) (list_of w)
first_least datum.none e falls is = absurd cc
first_least (datum.more x w) e falls is =
    let same : x ≡ e = cc in
    (ap (λ y. y ∷ list_of w) same, subst (λ y. All (λ z. IsNotBelow z y) (x ∷ list_of w)) same (least_of_all x (list_of w) falls))

pub least : (v e : Datum) → IsInOrder v → least_of v ≡ Ok e → (elements v ≡ e ∷ elements (without_least v)) × All (λ x. IsNotBelow x e) (elements v)
least (datum.set w) e order is = first_least w e (rising_never_falls (list_of w) order) is
least (datum.bag w) e order is = first_least w e (never_falls (list_of w) order) is
least v e order is = absurd cc

-- whether an element is there
pub there_from : (e : Datum) (xs : List Datum) → Contains xs e → has e xs ≡ true
there_from e xs h = (has-Contains e xs (has e xs) refl).1 h

pub gone_from : (e : Datum) (xs : List Datum) → ¬ Contains xs e → has e xs ≡ false
gone_from e xs h = by_answer (has e xs) refl
  where
    by_answer : (b : Bool) → has e xs ≡ b → b ≡ false
    by_answer true is = absurd (h ((has-Contains e xs (has e xs) refl).0 is))
    by_answer false is = refl

-- after an answer
pub put_sorted : (r : Result (Unit {0}) NoMemory) (old new : Data) (e : Datum) → OnOk r (new ≡ data_of (put_in e (list_of old))) → OnErr r (new ≡ old) → IsSorted datum_cmp (list_of old) → IsSorted datum_cmp (list_of new)
put_sorted (Ok x) old new e put same sorted = subst (λ w. IsSorted datum_cmp (list_of w)) (sym put) (bag_put e old sorted)
put_sorted (Err x) old new e put same sorted = subst (λ w. IsSorted datum_cmp (list_of w)) (sym same) sorted

pub put_rising : (r : Result (Unit {0}) NoMemory) (old new : Data) (e : Datum) → has e (list_of old) ≡ false → OnOk r (new ≡ data_of (put_in e (list_of old))) → OnErr r (new ≡ old) → IsStrictlySortedBy datum_cmp (list_of old) → IsStrictlySortedBy datum_cmp (list_of new)
put_rising (Ok x) old new e gone put same rises = subst (λ w. IsStrictlySortedBy datum_cmp (list_of w)) (sym put) (set_put e old gone rises)
put_rising (Err x) old new e gone put same rises = subst (λ w. IsStrictlySortedBy datum_cmp (list_of w)) (sym same) rises
