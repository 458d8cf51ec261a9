-- Where each part may follow the one before it, a set rises and a bag never falls.
use Rattle.std.proofs.Common.{◌≡◌, ℕ, zero, suc, ◌+◌, ◌<◌, Bool, true, false, List, [], ◌∷◌, length, get_or, Option, Some, None, refl, ap, subst, arith}
use Rattle.std.specs.Prelude.{not}
use Rattle.std.specs.List.{AllByRecursion}
use Rattle.std.specs.List.Sorted.{IsSorted, IsStrictlySortedBy}
use Rattle.std.specs.declared.cmp.Ordering.{Ordering}
use Rattle.std.specs.declared.cmp.Ordering.TheVariants.{Less, Equal, Greater}
use Rattle.std.specs.Ordering.{is_lt}
use Rattle.value_core.specs.Datum.{Datum}
use Rattle.value_core.specs.Order.{datum_cmp}
use Rattle.value_core.specs.OrderLaws.{datum_total}
use Rattle.value_bytes.specs.Reading.{may_follow}
use Rattle.value_bytes.proofs.Items.{Follow}

less : (o : Ordering) → is_lt o ≡ true → o ≡ Less
less Less h = refl
less Equal h = absurd cc
less Greater h = absurd cc

no_more : (b : Bool) → not b ≡ true → b ≡ false
no_more true h = absurd cc
no_more false h = refl

less_all : (v w : Datum) (xs : List Datum) → datum_cmp v w ≡ Less → AllByRecursion (λ y. datum_cmp w y ≡ Less) xs → AllByRecursion (λ y. datum_cmp v y ≡ Less) xs
less_all v w [] first all = tt
less_all v w (x ∷ xs) first all = (datum_total.trans v w x first all.0, less_all v w xs first all.1)

above : (v : Datum) (xs : List Datum) → Follow (may_follow 8) (Some v) xs → IsStrictlySortedBy datum_cmp xs → AllByRecursion (λ y. datum_cmp v y ≡ Less) xs
unfolding IsStrictlySortedBy
above v [] follow sorted = tt
above v (x ∷ xs) follow sorted = (less _ follow.0, less_all v x xs (less _ follow.0) sorted.0)

-- a set
pub rises_after : (last : Option Datum) (xs : List Datum) → Follow (may_follow 8) last xs → IsStrictlySortedBy datum_cmp xs
unfolding IsStrictlySortedBy
rises_after last [] follow = tt
rises_after last (x ∷ xs) follow =
    let rest = rises_after (Some x) xs follow.1 in
    (above x xs follow.1 rest, rest)

follows_rising : (v : Datum) (xs : List Datum) → AllByRecursion (λ y. datum_cmp v y ≡ Less) xs → IsStrictlySortedBy datum_cmp xs → Follow (may_follow 8) (Some v) xs
unfolding IsStrictlySortedBy
follows_rising v [] all sorted = tt
follows_rising v (x ∷ xs) all sorted = (ap is_lt all.0, follows_rising x xs sorted.0 sorted.1)

pub set_follows : (xs : List Datum) → IsStrictlySortedBy datum_cmp xs → Follow (may_follow 8) None xs
unfolding IsStrictlySortedBy
set_follows [] sorted = tt
set_follows (x ∷ xs) sorted = (refl, follows_rising x xs sorted.0 sorted.1)

-- a bag
keeps : (xs : List Datum) (last : Option Datum) → Follow (may_follow 9) last xs → (k : ℕ) (d : Datum) → k + 1 < length xs → is_lt (datum_cmp (get_or xs (k + 1) d) (get_or xs k d)) ≡ false
keeps [] last follow k d lt = absurd (omega (arith, lt))
keeps (x ∷ []) last follow k d lt = absurd (omega (arith, lt))
keeps (x ∷ y ∷ xs) last follow zero d lt = no_more _ follow.1.0
keeps (x ∷ y ∷ xs) last follow (suc k) d lt =
    let e : suc k + 1 ≡ suc (k + 1) = omega arith in
    rw e (keeps (y ∷ xs) (Some x) follow.1 k d (omega (arith, lt)))

pub bag_sorted : (xs : List Datum) → Follow (may_follow 9) None xs → IsSorted datum_cmp xs
bag_sorted xs follow k d low lt = keeps xs None follow k d lt

one_on : (k : ℕ) → suc k + 1 ≡ suc (k + 1)
one_on k = omega arith

follows_sorted : (v : Datum) (xs : List Datum) → IsSorted datum_cmp (v ∷ xs) → Follow (may_follow 9) (Some v) xs
follows_sorted v [] sorted = tt
follows_sorted v (x ∷ xs) sorted =
    (ap not (sorted 0 v (omega arith) (omega arith)), follows_sorted x xs (λ k d low lt. subst (λ (i : ℕ). is_lt (datum_cmp (get_or (v ∷ x ∷ xs) i d) (get_or (x ∷ xs) k d)) ≡ false) (one_on k) (sorted (suc k) d (omega arith) (omega (arith, lt)))))

pub bag_follows : (xs : List Datum) → IsSorted datum_cmp xs → Follow (may_follow 9) None xs
bag_follows [] sorted = tt
bag_follows (x ∷ xs) sorted = (refl, follows_sorted x xs sorted)

-- any other list
pub any_follows : (tag : ℕ) (tag_apart : (last : Option Datum) (x : Datum) → may_follow tag last x ≡ true) (last : Option Datum) (xs : List Datum) → Follow (may_follow tag) last xs
any_follows tag apart last [] = tt
any_follows tag apart last (x ∷ xs) = (apart last x, any_follows tag apart (Some x) xs)
