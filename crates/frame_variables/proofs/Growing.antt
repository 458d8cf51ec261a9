-- What a change adds to the size of a variable.
use Rattle.std.proofs.Common.{◌≡◌, ◌≢◌, ℕ, suc, ◌+◌, ◌<◌, ◌≤◌, Bool, true, false, cond, List, [], ◌∷◌, length, Some, Result, Ok, Err, refl, ap, sym, ◌∙◌, subst, arith}
use Rattle.std.specs.Prelude.{nat_le, ok_or, slice_get}
use Rattle.std.proofs.lemmas.Bool.{le-leb, leb-false, leb-true, lt-leb}
use Rattle.std.specs.Cmp.{Equal-is}
use Rattle.std.specs.Ordering.{is_eq, is_lt}
use Rattle.orca_base.specs.declared.fault.FaultKind.{FaultKind}
use Rattle.orca_base.specs.declared.fault.FaultKind.TheVariants.{IndexOutside, TooLarge}
use Rattle.orca_base.specs.declared.limits.TheConstants.{VALUE_SIZE}
use Rattle.value_core.specs.Datum.{Data, Datum, data_of, list_of, data_of-list_of, list_of-data_of}
use Rattle.value_core.specs.Datum as datum
use Rattle.value_core.specs.Order.{datum_cmp}
use Rattle.value_core.specs.OrderLaws.{datum_cmp-exact}
use Rattle.value_core.specs.Size.{size_of, size_of_all}
use Rattle.value_ops.specs.Elements.{deleted, elements, has, inserted, least_of, put_in, without, without_least}
use Rattle.value_ops.specs.Sizes.{told_size}
use Rattle.value_paths.specs.declared.step.Step.{Step as ValueStep}
use Rattle.value_paths.specs.Paths.{with_part}
use Rattle.meaning_rules.specs.States.{State, Goes, Stops, Faults, gives}
use Rattle.meaning_rules.specs.Operators.{fitting}
use Rattle.meaning_rules.specs.Variables.{Target, whole_at}
use Rattle.frame_variables.specs.Bounded.{AddsUp, IsBound, IsWithin}
use Rattle.frame_variables.specs.Exchanges.{IsPut}
use Rattle.frame_variables.specs.Firm.{IsFirm}
use Rattle.frame_variables.proofs.Changing.{whole_put}
use Rattle.frame_variables.proofs.Standing.{firm_size}
use Rattle.frame_variables.proofs.Staying.{some_whole}

-- ---- where a path is firm, sizes add up

pub firm_adds : (path : List ValueStep) (v : Datum) → IsFirm path v → AddsUp path v
firm_adds path v firm p x stood = firm_size path v p x firm stood

-- ---- a variable where something was put at a target

pub put_within : (to : Target) (old new : Datum) (s s1 : State) (bound more less most : ℕ) → IsPut to old new s s1 →
    ((whole : Datum) → slice_get s.frame to.slot ≡ Some whole → IsBound bound to.path whole) →
    (bound ≤ VALUE_SIZE → more ≤ VALUE_SIZE → size_of new + less ≤ size_of old + more) →
    (most ≤ VALUE_SIZE → (bound ≤ VALUE_SIZE) × (more ≤ VALUE_SIZE) × (bound + more ≤ most + less)) →
    (whole : Datum) → slice_get s1.frame to.slot ≡ Some whole → IsWithin most whole
put_within to old new s s1 bound more less most p known differs grows whole is few =
    let sum = grows few in
    let before = known p.whole (some_whole (slice_get s.frame to.slot) p.whole p.is) sum.0 in
    let adds = before.1 old new p.stood in
    let change = differs sum.0 sum.1 in
    let found : whole_at to s1 ≡ Ok whole = ap (λ o. ok_or o IndexOutside) is in
    let put = whole_put to old new s s1 p in
    let same : whole ≡ with_part to.path p.whole new = cc in
    subst (λ v. size_of v ≤ most) (sym same) (summed (size_of p.whole) (size_of old) (size_of new) (size_of (with_part to.path p.whole new)) bound more less most before.0 adds change sum.2)
  where
    summed : (whole old new after bound more less most : ℕ) → whole ≤ bound → after + old ≤ whole + new → new + less ≤ old + more → bound + more ≤ most + less → after ≤ most
    summed whole old new after bound more less most h1 h2 h3 h4 = omega (arith, h1, h2, h3, h4)

-- ---- what was told of sizes

-- a bound within the limit tells that a size is, and so does what is counted
pub told_same : (n m : ℕ) → n ≤ VALUE_SIZE → m ≤ n → nat_le n VALUE_SIZE ≡ nat_le m VALUE_SIZE
told_same n m few within = le-leb n VALUE_SIZE few ∙ sym (le-leb m VALUE_SIZE (omega (arith, few, within)))

pub counted_same : (n m : ℕ) → n ≡ told_size m → nat_le n VALUE_SIZE ≡ nat_le m VALUE_SIZE
counted_same n m told = by_test (nat_le m VALUE_SIZE) refl
  where
    by_test : (b : Bool) → nat_le m VALUE_SIZE ≡ b → nat_le n VALUE_SIZE ≡ nat_le m VALUE_SIZE
    by_test true is = let low : m ≤ VALUE_SIZE = leb-true m VALUE_SIZE is in le-leb n VALUE_SIZE (omega (arith, low, told)) ∙ sym is
    by_test false is = let high : VALUE_SIZE < m = leb-false m VALUE_SIZE is in lt-leb n VALUE_SIZE (omega (arith, high, told)) ∙ sym is

pub counted_within : (n : ℕ) (v : Datum) → n ≡ told_size (size_of v) → IsWithin n v
counted_within n v told few = omega (arith, told, few)

pub told_fits : (n : ℕ) (whole : Datum) (s : State) (u : Unit {0}) → nat_le n VALUE_SIZE ≡ nat_le (size_of whole) VALUE_SIZE →
    ◌≡◌ {A = Result (Unit {0}) FaultKind} (Ok u) (cond (nat_le n VALUE_SIZE) (Ok tt) (Err TooLarge)) → gives (fitting whole) s ≡ Goes whole s
told_fits n whole s u same is = by_test (nat_le n VALUE_SIZE) (nat_le (size_of whole) VALUE_SIZE) same is
  where
    by_test : (a b : Bool) → a ≡ b → ◌≡◌ {A = Result (Unit {0}) FaultKind} (Ok u) (cond a (Ok tt) (Err TooLarge)) → gives (cond b (Ok whole) (Err TooLarge)) s ≡ Goes whole s
    by_test true true same is = refl
    by_test true false same is = absurd cc
    by_test false b same is = absurd cc

pub told_large : (n : ℕ) (whole : Datum) (s : State) (fault : FaultKind) → nat_le n VALUE_SIZE ≡ nat_le (size_of whole) VALUE_SIZE →
    ◌≡◌ {A = Result (Unit {0}) FaultKind} (Err fault) (cond (nat_le n VALUE_SIZE) (Ok tt) (Err TooLarge)) → gives (fitting whole) s ≡ Stops (Faults fault)
told_large n whole s fault same is = by_test (nat_le n VALUE_SIZE) (nat_le (size_of whole) VALUE_SIZE) same is
  where
    by_test : (a b : Bool) → a ≡ b → ◌≡◌ {A = Result (Unit {0}) FaultKind} (Err fault) (cond a (Ok tt) (Err TooLarge)) → gives (cond b (Ok whole) (Err TooLarge)) s ≡ Stops (Faults fault)
    by_test true b same is = absurd cc
    by_test false true same is = absurd cc
    by_test false false same is = let large : fault ≡ TooLarge = cc in ap (λ f. Stops (Faults f)) (sym large)

-- something else is put
pub stored : (new old bound more less : ℕ) → (bound ≤ VALUE_SIZE → more ≡ told_size new) → (bound ≤ VALUE_SIZE → less ≡ told_size old) →
    bound ≤ VALUE_SIZE → more ≤ VALUE_SIZE → new + less ≤ old + more
stored new old bound more less is_more is_less known fits = omega (arith, is_more known, is_less known, fits)

-- ---- elements

length_put : (e : Datum) (xs : List Datum) → length (put_in e xs) ≡ length xs + 1
length_put e [] = refl
length_put e (x ∷ xs) = by_first (is_lt (datum_cmp x e)) (length_put e xs)
  where
    by_first : (b : Bool) → length (put_in e xs) ≡ length xs + 1 → length (cond b (x ∷ put_in e xs) (e ∷ x ∷ xs)) ≡ length (x ∷ xs) + 1
    by_first true rest = omega (arith, rest)
    by_first false rest = omega arith

size_put : (e : Datum) (xs : List Datum) → size_of_all (data_of (put_in e xs)) ≡ size_of_all (data_of xs) + size_of e
size_put e [] = omega arith
size_put e (x ∷ xs) = by_first (is_lt (datum_cmp x e)) (size_put e xs)
  where
    by_first : (b : Bool) → size_of_all (data_of (put_in e xs)) ≡ size_of_all (data_of xs) + size_of e →
        size_of_all (data_of (cond b (x ∷ put_in e xs) (e ∷ x ∷ xs))) ≡ size_of_all (data_of (x ∷ xs)) + size_of e
    by_first true rest = omega (arith, rest)
    by_first false rest = omega arith

-- of the parts of a set or bag that gets one more
parts_grow : (e : Datum) (w : Data) (more : ℕ) → (length (list_of (data_of (put_in e (list_of w)))) ≢ length (list_of w) → more ≡ size_of e) →
    size_of_all (data_of (put_in e (list_of w))) ≤ size_of_all w + more
parts_grow e w more h =
    let counted : length (list_of (data_of (put_in e (list_of w)))) ≡ length (list_of w) + 1 = ap length (list_of-data_of (put_in e (list_of w))) ∙ length_put e (list_of w) in
    let is : more ≡ size_of e = h (λ same. absurd (omega (arith, same, counted))) in
    let sizes : size_of_all (data_of (put_in e (list_of w))) ≡ size_of_all w + size_of e = size_put e (list_of w) ∙ ap (λ u. size_of_all u + size_of e) (data_of-list_of w) in
    omega (arith, is, sizes)

set_grows : (e : Datum) (w : Data) (more : ℕ) (b : Bool) → (length (list_of (cond b w (data_of (put_in e (list_of w))))) ≢ length (list_of w) → more ≡ size_of e) →
    size_of (datum.set (cond b w (data_of (put_in e (list_of w))))) ≤ size_of (datum.set w) + more
set_grows e w more true h = omega arith
set_grows e w more false h = omega (arith, parts_grow e w more h)

put_grows : (e v : Datum) (more : ℕ) → (length (elements (inserted e v)) ≢ length (elements v) → more ≡ size_of e) → size_of (inserted e v) ≤ size_of v + more
put_grows e (datum.set w) more h = set_grows e w more (has e (list_of w)) h
put_grows e (datum.bag w) more h = omega (arith, parts_grow e w more h)
put_grows e v more h = omega arith

pub put_differs : (e old new : Datum) (bound told more before : ℕ) → new ≡ inserted e old → (bound ≤ VALUE_SIZE → told ≡ told_size (size_of e)) → before ≡ length (elements old) →
    (length (elements new) ≢ before → more ≡ told) → bound ≤ VALUE_SIZE → more ≤ VALUE_SIZE → size_of new + 0 ≤ size_of old + more
put_differs e old new bound told more before is told_is count_is moved known fits =
    let grows : size_of (inserted e old) ≤ size_of old + more = put_grows e old more (λ apart.
    let here : more ≡ told = moved (λ same. apart (ap (λ v. length (elements v)) (sym is) ∙ same ∙ count_is)) in
    exact (size_of e) told more (told_is known) here fits) in
    subst (λ v. size_of v + 0 ≤ size_of old + more) (sym is) (omega (arith, grows))
  where
    exact : (size told more : ℕ) → told ≡ told_size size → more ≡ told → more ≤ VALUE_SIZE → more ≡ size
    exact size told more h1 h2 h3 = omega (arith, h1, h2, h3)

same_from : (x e : Datum) → is_eq (datum_cmp x e) ≡ true → x ≡ e
same_from x e h = (datum_cmp-exact x e).0 ((Equal-is (datum_cmp x e)).0 h)

without_shrinks : (e : Datum) (xs : List Datum) (less : ℕ) → (length (without e xs) ≡ length xs → less ≡ 0) → less ≤ size_of e →
    size_of_all (data_of (without e xs)) + less ≤ size_of_all (data_of xs)
without_shrinks e [] less h most = omega (arith, h refl)
without_shrinks e (x ∷ xs) less h most = by_first (is_eq (datum_cmp x e)) refl h (without_shrinks e xs less)
  where
    by_first : (b : Bool) → is_eq (datum_cmp x e) ≡ b → (length (cond b xs (x ∷ without e xs)) ≡ length (x ∷ xs) → less ≡ 0) →
        ((length (without e xs) ≡ length xs → less ≡ 0) → less ≤ size_of e → size_of_all (data_of (without e xs)) + less ≤ size_of_all (data_of xs)) →
        size_of_all (data_of (cond b xs (x ∷ without e xs))) + less ≤ size_of_all (data_of (x ∷ xs))
    by_first true is h rest = omega (arith, ap size_of (same_from x e is), most)
    by_first false is h rest = omega (arith, rest (λ same. h (ap suc same)) most)

parts_shrink : (e : Datum) (w : Data) (less : ℕ) → (length (list_of (data_of (without e (list_of w)))) ≡ length (list_of w) → less ≡ 0) → less ≤ size_of e →
    size_of_all (data_of (without e (list_of w))) + less ≤ size_of_all w
parts_shrink e w less h most =
    let shrinks = without_shrinks e (list_of w) less (λ same. h (ap length (list_of-data_of (without e (list_of w))) ∙ same)) most in
    subst (λ u. size_of_all (data_of (without e (list_of w))) + less ≤ size_of_all u) (data_of-list_of w) shrinks

drop_shrinks : (e v : Datum) (less : ℕ) → (length (elements (deleted e v)) ≡ length (elements v) → less ≡ 0) → less ≤ size_of e → size_of (deleted e v) + less ≤ size_of v
drop_shrinks e (datum.set w) less h most = omega (arith, parts_shrink e w less h most)
drop_shrinks e (datum.bag w) less h most = omega (arith, parts_shrink e w less h most)
drop_shrinks e v less h most = omega (arith, h refl)

pub drop_differs : (e old new : Datum) (bound told less before : ℕ) → new ≡ deleted e old → (bound ≤ VALUE_SIZE → told ≡ told_size (size_of e)) → before ≡ length (elements old) →
    (length (elements new) ≡ before → less ≡ 0) → less ≤ told → bound ≤ VALUE_SIZE → size_of new + less ≤ size_of old + 0
drop_differs e old new bound told less before is told_is count_is stayed most known =
    let shrinks : size_of (deleted e old) + less ≤ size_of old = drop_shrinks e old less
    (λ same. stayed (ap (λ v. length (elements v)) is ∙ same ∙ sym count_is)) (at_most (size_of e) told less (told_is known) most) in
    subst (λ v. size_of v + less ≤ size_of old + 0) (sym is) (omega (arith, shrinks))
  where
    at_most : (size told less : ℕ) → told ≡ told_size size → less ≤ told → less ≤ size
    at_most size told less h1 h2 = omega (arith, h1, h2)

take_shrinks : (v e : Datum) (less : ℕ) → least_of v ≡ Ok e → less ≤ size_of e → size_of (without_least v) + less ≤ size_of v
take_shrinks (datum.set datum.none) e less is most = absurd cc
take_shrinks (datum.set (datum.more x w)) e less is most = let same : x ≡ e = cc in omega (arith, ap size_of same, most)
take_shrinks (datum.bag datum.none) e less is most = absurd cc
take_shrinks (datum.bag (datum.more x w)) e less is most = let same : x ≡ e = cc in omega (arith, ap size_of same, most)
take_shrinks (datum.int z) e less is most = absurd cc
take_shrinks (datum.truth b) e less is most = absurd cc
take_shrinks (datum.char k) e less is most = absurd cc
take_shrinks (datum.enumerated n) e less is most = absurd cc
take_shrinks (datum.text t) e less is most = absurd cc
take_shrinks (datum.array w) e less is most = absurd cc
take_shrinks (datum.fields w) e less is most = absurd cc
take_shrinks (datum.object p n) e less is most = absurd cc

pub take_differs : (old new least : Datum) (bound less : ℕ) → new ≡ without_least old → least_of old ≡ Ok least → (bound ≤ VALUE_SIZE → less ≡ told_size (size_of least)) →
    bound ≤ VALUE_SIZE → size_of new + less ≤ size_of old + 0
take_differs old new least bound less is first told_is known =
    let shrinks : size_of (without_least old) + less ≤ size_of old = take_shrinks old least less first (at_most (size_of least) less (told_is known)) in
    subst (λ v. size_of v + less ≤ size_of old + 0) (sym is) (omega (arith, shrinks))
  where
    at_most : (size less : ℕ) → less ≡ told_size size → less ≤ size
    at_most size less h = omega (arith, h)
