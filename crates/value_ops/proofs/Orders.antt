-- Lists that never fall, element by element.
use Rattle.std.proofs.Common.{◌≡◌, ℕ, zero, suc, ◌+◌, true, false, List, [], ◌∷◌, get_or, refl, ap, sym, ◌∙◌, subst, arith}
use Rattle.std.specs.List.{AllByRecursion}
use Rattle.std.specs.List.Sorted.{IsSorted, IsStrictlySortedBy}
use Rattle.std.specs.declared.cmp.Ordering.{Ordering}
use Rattle.std.specs.declared.cmp.Ordering.TheVariants.{Less, Equal, Greater}
use Rattle.std.specs.Ordering.{is_lt, ordering_reverse}
use Rattle.std.proofs.lemmas.List.Elements.{recursion_from_All}
use Rattle.std.proofs.lemmas.List.Sorted.{ranks_by, sorted_far}
use Rattle.value_core.specs.Datum.{Datum}
use Rattle.value_core.specs.Order.{datum_cmp}
use Rattle.value_core.specs.OrderLaws.{datum_total}

-- no element is below one before it
abbrev pub NeverFalls : List Datum → Type 0
NeverFalls [] = Unit {0}
NeverFalls (x ∷ xs) = AllByRecursion (λ y. is_lt (datum_cmp y x) ≡ false) xs × NeverFalls xs

one_on : (k : ℕ) → suc k + 1 ≡ suc (k + 1)
one_on k = omega arith

tail_sorted : (x : Datum) (xs : List Datum) → IsSorted datum_cmp (x ∷ xs) → IsSorted datum_cmp xs
tail_sorted x xs sorted k d low lt =
    subst (λ (i : ℕ). is_lt (datum_cmp (get_or (x ∷ xs) i d) (get_or xs k d)) ≡ false) (one_on k) (sorted (suc k) d (omega arith) (omega (arith, lt)))

pub never_falls : (xs : List Datum) → IsSorted datum_cmp xs → NeverFalls xs
never_falls [] sorted = tt
never_falls (x ∷ xs) sorted = (
  recursion_from_All (λ y. is_lt (datum_cmp y x) ≡ false) xs
      (λ k d lt. sorted_far (λ a b. is_lt (datum_cmp a b)) (ranks_by datum_total (λ (v : Datum). v)) (x ∷ xs) sorted 0 (suc k) d (omega arith) (omega (arith, lt))),
  never_falls xs (tail_sorted x xs sorted),
)

pub sorted_again : (xs : List Datum) → NeverFalls xs → IsSorted datum_cmp xs
sorted_again [] h k d low lt = absurd (omega (arith, lt))
sorted_again (x ∷ []) h k d low lt = absurd (omega (arith, lt))
sorted_again (x ∷ y ∷ xs) h zero d low lt = h.0.0
sorted_again (x ∷ y ∷ xs) h (suc k) d low lt =
    let e : suc k + 1 ≡ suc (k + 1) = omega arith in
    rw e (sorted_again (y ∷ xs) h.1 k d (omega arith) (omega (arith, lt)))

pub not_below : (x y : Datum) → datum_cmp x y ≡ Less → is_lt (datum_cmp y x) ≡ false
not_below x y h = ap is_lt (datum_total.antisymm y x ∙ ap ordering_reverse h)

above_all : (x : Datum) (xs : List Datum) → AllByRecursion (λ y. datum_cmp x y ≡ Less) xs → AllByRecursion (λ y. is_lt (datum_cmp y x) ≡ false) xs
above_all x [] h = tt
above_all x (y ∷ xs) h = (not_below x y h.0, above_all x xs h.1)

-- what rises never falls
pub rising_never_falls : (xs : List Datum) → IsStrictlySortedBy datum_cmp xs → NeverFalls xs
unfolding IsStrictlySortedBy
rising_never_falls [] h = tt
rising_never_falls (x ∷ xs) h = (above_all x xs h.0, rising_never_falls xs h.1)

pub rising_sorted : (xs : List Datum) → IsStrictlySortedBy datum_cmp xs → IsSorted datum_cmp xs
rising_sorted xs h = sorted_again xs (rising_never_falls xs h)

-- what isn't above an element that is below e is below e
below_by : (x y e : Datum) (r : Ordering) → datum_cmp y x ≡ r → is_lt r ≡ false → datum_cmp y e ≡ Less → datum_cmp x e ≡ Less
below_by x y e Less p h k = absurd cc
below_by x y e Equal p h k = sym (datum_total.congr y x e p) ∙ k
below_by x y e Greater p h k = datum_total.trans x y e (datum_total.antisymm x y ∙ ap ordering_reverse p) k

pub less : (r : Ordering) → is_lt r ≡ true → r ≡ Less
less Less h = refl
less Equal h = absurd cc
less Greater h = absurd cc

pub below : (x y e : Datum) → is_lt (datum_cmp y x) ≡ false → is_lt (datum_cmp y e) ≡ true → is_lt (datum_cmp x e) ≡ true
below x y e h k = ap is_lt (below_by x y e (datum_cmp y x) refl h (less (datum_cmp y e) k))

-- what isn't below an element above e is above e
beyond_by : (x y e : Datum) (r : Ordering) → datum_cmp y x ≡ r → is_lt r ≡ false → datum_cmp x e ≡ Greater → datum_cmp y e ≡ Greater
beyond_by x y e Less p h k = absurd cc
beyond_by x y e Equal p h k = datum_total.congr y x e p ∙ k
beyond_by x y e Greater p h k =
    let e_below_x : datum_cmp e x ≡ Less = datum_total.antisymm e x ∙ ap ordering_reverse k in
    let x_below_y : datum_cmp x y ≡ Less = datum_total.antisymm x y ∙ ap ordering_reverse p in
    datum_total.antisymm y e ∙ ap ordering_reverse (datum_total.trans e x y e_below_x x_below_y)

pub beyond : (x y e : Datum) → is_lt (datum_cmp y x) ≡ false → datum_cmp x e ≡ Greater → datum_cmp y e ≡ Greater
beyond x y e h k = beyond_by x y e (datum_cmp y x) refl h k

pub beyond_all : (x e : Datum) (xs : List Datum) → AllByRecursion (λ y. is_lt (datum_cmp y x) ≡ false) xs → datum_cmp x e ≡ Greater → AllByRecursion (λ y. datum_cmp y e ≡ Greater) xs
beyond_all x e [] h k = tt
beyond_all x e (y ∷ xs) h k = (beyond x y e h.0 k, beyond_all x e xs h.1 k)
