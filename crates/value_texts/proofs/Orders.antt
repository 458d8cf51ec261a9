-- Where each part may follow the one before it, a set rises and a bag never falls.
use Rattle.std.proofs.Common.{◌≡◌, ℕ, zero, suc, ◌+◌, ◌<◌, Bool, true, false, List, [], ◌∷◌, length, get_or, Option, Some, None, refl, ap, subst, arith}
use Rattle.std.specs.Prelude.{not}
use Rattle.std.specs.List.{AllByRecursion}
use Rattle.std.specs.List.Sorted.{IsSorted, IsStrictlySortedBy}
use Rattle.std.specs.declared.cmp.Ordering.{Ordering}
use Rattle.std.specs.declared.cmp.Ordering.TheVariants.{Less, Equal, Greater}
use Rattle.std.specs.Ordering.{is_lt}
use Rattle.value_core.specs.Datum.{Datum}
use Rattle.value_core.specs.Order.{datum_cmp}
use Rattle.value_core.specs.OrderLaws.{datum_total}
use Rattle.value_texts.specs.declared.brackets.Brackets.{Brackets}
use Rattle.value_texts.specs.declared.brackets.Brackets.TheVariants.{Square, Round, Curly, Pointed}
use Rattle.value_texts.specs.Reading.{may_follow}

-- the part may stand behind the one before it, where there is one
abbrev pub Follows : Brackets → Option Datum → Datum → Type 0
Follows brackets None w = Unit {0}
Follows brackets (Some v) w = may_follow brackets v w ≡ true

abbrev pub Follow : Brackets → Option Datum → List Datum → Type 0
Follow brackets last [] = Unit {0}
Follow brackets last (x ∷ xs) = Follows brackets last x × Follow brackets (Some x) xs

less : (o : Ordering) → is_lt o ≡ true → o ≡ Less
less Less h = refl
less Equal h = absurd cc
less Greater h = absurd cc

no_more : (b : Bool) → not b ≡ true → b ≡ false
no_more true h = absurd cc
no_more false h = refl

less_all : (v w : Datum) (xs : List Datum) → datum_cmp v w ≡ Less → AllByRecursion (λ y. datum_cmp w y ≡ Less) xs → AllByRecursion (λ y. datum_cmp v y ≡ Less) xs
less_all v w [] first all = tt
less_all v w (x ∷ xs) first all = (datum_total.trans v w x first all.0, less_all v w xs first all.1)

above : (v : Datum) (xs : List Datum) → Follow Curly (Some v) xs → IsStrictlySortedBy datum_cmp xs → AllByRecursion (λ y. datum_cmp v y ≡ Less) xs
unfolding IsStrictlySortedBy
above v [] follow sorted = tt
above v (x ∷ xs) follow sorted = (less _ follow.0, less_all v x xs (less _ follow.0) sorted.0)

-- a set
pub set_sorted : (last : Option Datum) (xs : List Datum) → Follow Curly last xs → IsStrictlySortedBy datum_cmp xs
unfolding IsStrictlySortedBy
set_sorted last [] follow = tt
set_sorted last (x ∷ xs) follow =
    let rest = set_sorted (Some x) xs follow.1 in
    (above x xs follow.1 rest, rest)

follows_rising : (v : Datum) (xs : List Datum) → AllByRecursion (λ y. datum_cmp v y ≡ Less) xs → IsStrictlySortedBy datum_cmp xs → Follow Curly (Some v) xs
unfolding IsStrictlySortedBy
follows_rising v [] all sorted = tt
follows_rising v (x ∷ xs) all sorted = (ap is_lt all.0, follows_rising x xs sorted.0 sorted.1)

pub set_follows : (xs : List Datum) → IsStrictlySortedBy datum_cmp xs → Follow Curly None xs
unfolding IsStrictlySortedBy
set_follows [] sorted = tt
set_follows (x ∷ xs) sorted = (tt, follows_rising x xs sorted.0 sorted.1)

-- a bag
keeps : (xs : List Datum) (last : Option Datum) → Follow Pointed last xs → (k : ℕ) (d : Datum) → k + 1 < length xs → is_lt (datum_cmp (get_or xs (k + 1) d) (get_or xs k d)) ≡ false
keeps [] last follow k d lt = absurd (omega (arith, lt))
keeps (x ∷ []) last follow k d lt = absurd (omega (arith, lt))
keeps (x ∷ y ∷ xs) last follow zero d lt = no_more _ follow.1.0
keeps (x ∷ y ∷ xs) last follow (suc k) d lt =
    let e : suc k + 1 ≡ suc (k + 1) = omega arith in
    rw e (keeps (y ∷ xs) (Some x) follow.1 k d (omega (arith, lt)))

pub bag_sorted : (xs : List Datum) → Follow Pointed None xs → IsSorted datum_cmp xs
bag_sorted xs follow k d low lt = keeps xs None follow k d lt

one_on : (k : ℕ) → suc k + 1 ≡ suc (k + 1)
one_on k = omega arith

follows_sorted : (v : Datum) (xs : List Datum) → IsSorted datum_cmp (v ∷ xs) → Follow Pointed (Some v) xs
follows_sorted v [] sorted = tt
follows_sorted v (x ∷ xs) sorted =
    (ap not (sorted 0 v (omega arith) (omega arith)), follows_sorted x xs (λ k d low lt. subst (λ (i : ℕ). is_lt (datum_cmp (get_or (v ∷ x ∷ xs) i d) (get_or (x ∷ xs) k d)) ≡ false) (one_on k) (sorted (suc k) d (omega arith) (omega (arith, lt)))))

pub bag_follows : (xs : List Datum) → IsSorted datum_cmp xs → Follow Pointed None xs
bag_follows [] sorted = tt
bag_follows (x ∷ xs) sorted = (tt, follows_sorted x xs sorted)

-- an array and a record
pub array_follows : (last : Option Datum) (xs : List Datum) → Follow Square last xs
array_follows None [] = tt
array_follows (Some v) [] = tt
array_follows None (x ∷ xs) = (tt, array_follows (Some x) xs)
array_follows (Some v) (x ∷ xs) = (refl, array_follows (Some x) xs)

pub record_follows : (last : Option Datum) (xs : List Datum) → Follow Round last xs
record_follows None [] = tt
record_follows (Some v) [] = tt
record_follows None (x ∷ xs) = (tt, record_follows (Some x) xs)
record_follows (Some v) (x ∷ xs) = (refl, record_follows (Some x) xs)
