-- What stays as an element is put in or taken out.
use Rattle.std.proofs.Common.{◌≡◌, ◌+◌, ◌≤◌, Bool, true, false, cond, List, [], ◌∷◌, length, refl, ap, sym, ◌∙◌, subst, arith}
use Rattle.std.specs.Prelude.{◌||◌}
use Rattle.std.specs.List.{AllByRecursion}
use Rattle.std.specs.List.Sorted.{IsPermutation, IsStrictlySortedBy}
use Rattle.std.specs.declared.cmp.Ordering.{Ordering}
use Rattle.std.specs.declared.cmp.Ordering.TheVariants.{Less, Equal, Greater}
use Rattle.std.specs.Ordering.{is_eq, is_lt, ordering_reverse}
use Rattle.std.proofs.lemmas.List.Sorted.{ranks_by, IsPermutation-refl, IsPermutation-sym, IsPermutation-cons, IsPermutation-middle, IsPermutation-trans}
use Rattle.value_core.specs.Datum.{Datum}
use Rattle.value_core.specs.Order.{datum_cmp}
use Rattle.value_core.specs.OrderLaws.{datum_total}
use Rattle.value_ops.specs.Elements.{has, put_in, without}
use Rattle.value_ops.proofs.Orders.{NeverFalls, less, not_below}
use Rattle.value_ops.proofs.Members.{same_from}

-- both answers of a test
by_test : {A : Type 0} (P : A → Type 0) (b : Bool) (x y : A) → (b ≡ true → P x) → (b ≡ false → P y) → P (cond b x y)
by_test P true x y p q = p refl
by_test P false x y p q = q refl

-- what holds of each element
pub all_put : (P : Datum → Type 0) (e : Datum) (xs : List Datum) → P e → AllByRecursion P xs → AllByRecursion P (put_in e xs)
all_put P e [] h all = (h, tt)
all_put P e (x ∷ xs) h all = by_test (AllByRecursion P) (is_lt (datum_cmp x e)) (x ∷ put_in e xs) (e ∷ x ∷ xs) (λ under. (all.0, all_put P e xs h all.1)) (λ over. (h, all))

pub all_without : (P : Datum → Type 0) (e : Datum) (xs : List Datum) → AllByRecursion P xs → AllByRecursion P (without e xs)
all_without P e [] all = tt
all_without P e (x ∷ xs) all = by_test (AllByRecursion P) (is_eq (datum_cmp x e)) xs (x ∷ without e xs) (λ same. all.1) (λ apart. (all.0, all_without P e xs all.1))

-- the elements, in another order
swapped : (x e : Datum) (xs : List Datum) → IsPermutation (e ∷ x ∷ xs) (x ∷ e ∷ xs)
swapped x e xs = IsPermutation-sym (x ∷ e ∷ xs) (e ∷ x ∷ xs) (IsPermutation-middle (x ∷ []) e xs)

pub put_permutes : (e : Datum) (xs : List Datum) → IsPermutation (e ∷ xs) (put_in e xs)
put_permutes e [] = IsPermutation-refl (e ∷ [])
put_permutes e (x ∷ xs) = by_test (IsPermutation (e ∷ x ∷ xs)) (is_lt (datum_cmp x e)) (x ∷ put_in e xs) (e ∷ x ∷ xs)
    (λ under. IsPermutation-trans (e ∷ x ∷ xs) (x ∷ e ∷ xs) (x ∷ put_in e xs) (swapped x e xs) (IsPermutation-cons x (e ∷ xs) (put_in e xs) (put_permutes e xs)))
    (λ over. IsPermutation-refl (e ∷ x ∷ xs))

pub without_permutes : (e : Datum) (xs : List Datum) → has e xs ≡ true → IsPermutation xs (e ∷ without e xs)
without_permutes e [] h = absurd cc
without_permutes e (x ∷ xs) h = by_test (λ ys. IsPermutation (x ∷ xs) (e ∷ ys)) (is_eq (datum_cmp x e)) xs (x ∷ without e xs)
    (λ same. subst (λ y. IsPermutation (x ∷ xs) (y ∷ xs)) (same_from x e same) (IsPermutation-refl (x ∷ xs)))
    (λ apart. IsPermutation-trans (x ∷ xs) (x ∷ e ∷ without e xs) (e ∷ x ∷ without e xs)
    (IsPermutation-cons x xs (e ∷ without e xs) (without_permutes e xs (sym (ap (λ b. b || has e xs) apart) ∙ h)))
    (IsPermutation-middle (x ∷ []) e (without e xs)))

-- elements that never fall
above_chain : (x e : Datum) (xs : List Datum) → is_lt (datum_cmp x e) ≡ false → AllByRecursion (λ y. is_lt (datum_cmp y x) ≡ false) xs → AllByRecursion (λ y. is_lt (datum_cmp y e) ≡ false) xs
above_chain x e [] h all = tt
above_chain x e (y ∷ xs) h all = ((ranks_by datum_total (λ (v : Datum). v)).chain y x e all.0 h, above_chain x e xs h all.1)

pub put_never_falls : (e : Datum) (xs : List Datum) → NeverFalls xs → NeverFalls (put_in e xs)
put_never_falls e [] falls = (tt, tt)
put_never_falls e (x ∷ xs) falls = by_test NeverFalls (is_lt (datum_cmp x e)) (x ∷ put_in e xs) (e ∷ x ∷ xs)
    (λ under. (all_put (λ y. is_lt (datum_cmp y x) ≡ false) e xs (not_below x e (less (datum_cmp x e) under)) falls.0, put_never_falls e xs falls.1))
    (λ over. ((over, above_chain x e xs over falls.0), falls))

pub without_never_falls : (e : Datum) (xs : List Datum) → NeverFalls xs → NeverFalls (without e xs)
without_never_falls e [] falls = tt
without_never_falls e (x ∷ xs) falls = by_test NeverFalls (is_eq (datum_cmp x e)) xs (x ∷ without e xs)
    (λ same. falls.1)
    (λ apart. (all_without (λ y. is_lt (datum_cmp y x) ≡ false) e xs falls.0, without_never_falls e xs falls.1))

-- elements that rise
greater : (r : Ordering) → is_lt r ≡ false → is_eq r ≡ false → r ≡ Greater
greater Less h k = absurd cc
greater Equal h k = absurd cc
greater Greater h k = refl

rise_chain : (e x : Datum) (xs : List Datum) → datum_cmp e x ≡ Less → AllByRecursion (λ y. datum_cmp x y ≡ Less) xs → AllByRecursion (λ y. datum_cmp e y ≡ Less) xs
rise_chain e x [] h all = tt
rise_chain e x (y ∷ xs) h all = (datum_total.trans e x y h all.0, rise_chain e x xs h all.1)

neither : (a b : Bool) → (a || b) ≡ false → a ≡ false
neither true b h = absurd cc
neither false b h = refl

nor : (a b : Bool) → (a || b) ≡ false → b ≡ false
nor true b h = absurd cc
nor false b h = h

pub put_rises : (e : Datum) (xs : List Datum) → has e xs ≡ false → IsStrictlySortedBy datum_cmp xs → IsStrictlySortedBy datum_cmp (put_in e xs)
unfolding IsStrictlySortedBy
put_rises e [] gone rises = (tt, tt)
put_rises e (x ∷ xs) gone rises = by_test (IsStrictlySortedBy datum_cmp) (is_lt (datum_cmp x e)) (x ∷ put_in e xs) (e ∷ x ∷ xs)
    (λ under. (all_put (λ y. datum_cmp x y ≡ Less) e xs (less (datum_cmp x e) under) rises.0, put_rises e xs (nor (is_eq (datum_cmp x e)) (has e xs) gone) rises.1))
    (λ over.
    let first : datum_cmp e x ≡ Less = datum_total.antisymm e x ∙ ap ordering_reverse (greater (datum_cmp x e) over (neither (is_eq (datum_cmp x e)) (has e xs) gone)) in
    ((first, rise_chain e x xs first rises.0), rises))

pub without_rises : (e : Datum) (xs : List Datum) → IsStrictlySortedBy datum_cmp xs → IsStrictlySortedBy datum_cmp (without e xs)
unfolding IsStrictlySortedBy
without_rises e [] rises = tt
without_rises e (x ∷ xs) rises = by_test (IsStrictlySortedBy datum_cmp) (is_eq (datum_cmp x e)) xs (x ∷ without e xs)
    (λ same. rises.1)
    (λ apart. (all_without (λ y. datum_cmp x y ≡ Less) e xs rises.0, without_rises e xs rises.1))

-- how many
pub length-put : (e : Datum) (xs : List Datum) → length (put_in e xs) ≡ length xs + 1
length-put e [] = refl
length-put e (x ∷ xs) = by_test (λ ys. length ys ≡ length (x ∷ xs) + 1) (is_lt (datum_cmp x e)) (x ∷ put_in e xs) (e ∷ x ∷ xs)
    (λ under. omega (arith, length-put e xs)) (λ over. omega arith)

pub length-without : (e : Datum) (xs : List Datum) → length (without e xs) ≤ length xs
length-without e [] = omega arith
length-without e (x ∷ xs) = by_test (λ ys. length ys ≤ length (x ∷ xs)) (is_eq (datum_cmp x e)) xs (x ∷ without e xs)
    (λ same. omega arith) (λ apart. omega (arith, length-without e xs))
