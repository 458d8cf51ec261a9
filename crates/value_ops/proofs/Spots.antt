-- What a search by halving finds.
use Rattle.std.proofs.Common.{◌≡◌, ℕ, zero, suc, ◌<◌, ◌≤◌, Bool, true, false, cond, List, [], ◌∷◌, length, get_or, map, refl, ap, sym, ◌∙◌, arith}
use Rattle.std.specs.Prelude.{insert, remove, ◌||◌}
use Rattle.std.specs.List.{AllByRecursion}
use Rattle.std.specs.List.Sorted.{IsSorted, IsPartitionedBy}
use Rattle.std.specs.declared.cmp.Ordering.{Ordering}
use Rattle.std.specs.declared.cmp.Ordering.TheVariants.{Less, Equal, Greater}
use Rattle.std.specs.Ordering.{is_eq, is_lt}
use Rattle.std.proofs.lemmas.List.Sorted.{ranks_by, sorted_far}
use Rattle.value_core.specs.Datum.{Datum}
use Rattle.value_core.specs.Order.{datum_cmp}
use Rattle.value_core.specs.OrderLaws.{datum_total}
use Rattle.value_core.specs.View.{datum_of}
use Rattle.value_core.specs.declared.value.Value.{Value}
use Rattle.value_ops.specs.Elements.{has, put_in, without}
use Rattle.value_ops.specs.Spots.{IsSpot, Parted, is_under}
use Rattle.value_ops.proofs.Orders.{NeverFalls, below, beyond_all, never_falls}

further : (e : Datum) (v : Value) (vs : List Value) (i : ℕ) → Parted e (v ∷ vs) (suc i) → Parted e vs i
further e v vs i spot = (λ k d low lt. spot.0 (suc k) d (omega arith) (omega (arith, lt)), λ k d low lt. spot.1 (suc k) d (omega (arith, low)) (omega (arith, lt)))

pub put_at : (e : Datum) (vs : List Value) (i : ℕ) → i ≤ length vs → Parted e vs i → put_in e (map datum_of vs) ≡ insert (map datum_of vs) i e
put_at e [] zero h spot = refl
put_at e [] (suc i) h spot = absurd (omega (arith, h))
put_at e (v ∷ vs) zero h spot = ap (λ b. cond b (datum_of v ∷ put_in e (map datum_of vs)) (e ∷ datum_of v ∷ map datum_of vs)) (spot.1 0 v (omega arith) (omega arith))
put_at e (v ∷ vs) (suc i) h spot =
    ap (λ b. cond b (datum_of v ∷ put_in e (map datum_of vs)) (e ∷ datum_of v ∷ map datum_of vs)) (spot.0 0 v (omega arith) (omega arith))
    ∙ ap (λ xs. datum_of v ∷ xs) (put_at e vs i (omega (arith, h)) (further e v vs i spot))

unlike : (r : Ordering) → is_lt r ≡ true → is_eq r ≡ false
unlike Less h = refl
unlike Equal h = absurd cc
unlike Greater h = refl

-- in front of the spot is no e
front : (e : Datum) (v : Value) (vs : List Value) (i : ℕ) → Parted e (v ∷ vs) (suc i) → is_eq (datum_cmp (datum_of v) e) ≡ false
front e v vs i spot = unlike (datum_cmp (datum_of v) e) (spot.0 0 v (omega arith) (omega arith))

-- an element that stands at the spot
pub there_at : (e : Datum) (vs : List Value) (i : ℕ) (d : Value) → i < length vs → Parted e vs i → is_eq (datum_cmp (datum_of (get_or vs i d)) e) ≡ true → has e (map datum_of vs) ≡ true
there_at e [] i d h spot same = absurd (omega (arith, h))
there_at e (v ∷ vs) zero d h spot same = ap (λ b. b || has e (map datum_of vs)) same
there_at e (v ∷ vs) (suc i) d h spot same =
    ap (λ b. b || has e (map datum_of vs)) (front e v vs i spot) ∙ there_at e vs i d (omega (arith, h)) (further e v vs i spot) same

pub taken_at : (e : Datum) (vs : List Value) (i : ℕ) (d : Value) → i < length vs → Parted e vs i → is_eq (datum_cmp (datum_of (get_or vs i d)) e) ≡ true → without e (map datum_of vs) ≡ remove (map datum_of vs) i
taken_at e [] i d h spot same = absurd (omega (arith, h))
taken_at e (v ∷ vs) zero d h spot same = ap (λ b. cond b (map datum_of vs) (datum_of v ∷ without e (map datum_of vs))) same
taken_at e (v ∷ vs) (suc i) d h spot same =
    ap (λ b. cond b (map datum_of vs) (datum_of v ∷ without e (map datum_of vs))) (front e v vs i spot)
    ∙ ap (λ xs. datum_of v ∷ xs) (taken_at e vs i d (omega (arith, h)) (further e v vs i spot) same)

-- an element that doesn't
none_of : (e : Datum) (xs : List Datum) → AllByRecursion (λ y. datum_cmp y e ≡ Greater) xs → has e xs ≡ false
none_of e [] h = refl
none_of e (x ∷ xs) h = ap (λ r. is_eq r || has e xs) h.0 ∙ none_of e xs h.1

greater : (r : Ordering) → is_lt r ≡ false → is_eq r ≡ false → r ≡ Greater
greater Less h k = absurd cc
greater Equal h k = absurd cc
greater Greater h k = refl

pub absent_at : (e : Datum) (vs : List Value) (i : ℕ) → NeverFalls (map datum_of vs) → Parted e vs i → ((d : Value) → i < length vs → is_eq (datum_cmp (datum_of (get_or vs i d)) e) ≡ false) → has e (map datum_of vs) ≡ false
absent_at e [] i falls spot apart = refl
absent_at e (v ∷ vs) zero falls spot apart =
    let here : datum_cmp (datum_of v) e ≡ Greater = greater (datum_cmp (datum_of v) e) (spot.1 0 v (omega arith) (omega arith)) (apart v (omega arith)) in
    ap (λ r. is_eq r || has e (map datum_of vs)) here ∙ none_of e (map datum_of vs) (beyond_all (datum_of v) e (map datum_of vs) falls.0 here)
absent_at e (v ∷ vs) (suc i) falls spot apart =
    ap (λ b. b || has e (map datum_of vs)) (front e v vs i spot)
    ∙ absent_at e vs i falls.1 (further e v vs i spot) (λ d h. apart d (omega (arith, h)))

length_map : (vs : List Value) → length (map datum_of vs) ≡ length vs
length_map [] = refl
length_map (v ∷ vs) = ap suc (length_map vs)

at_map : (vs : List Value) (k : ℕ) (d : Value) → get_or (map datum_of vs) k (datum_of d) ≡ datum_of (get_or vs k d)
at_map [] k d = refl
at_map (v ∷ vs) zero d = refl
at_map (v ∷ vs) (suc k) d = at_map vs k d

-- values that never fall are parted by any element
pub parted : (e : Datum) (vs : List Value) → IsSorted datum_cmp (map datum_of vs) → IsPartitionedBy (is_under e) vs
parted e vs sorted i j d le lt under =
    let here : j < length (map datum_of vs) = omega (arith, length_map vs, lt) in
    let apart : is_lt (datum_cmp (get_or (map datum_of vs) j (datum_of d)) (get_or (map datum_of vs) i (datum_of d))) ≡ false =
    sorted_far (λ a b. is_lt (datum_cmp a b)) (ranks_by datum_total (λ (v : Datum). v)) (map datum_of vs) sorted i j (datum_of d) le here in
    below (datum_of (get_or vs i d)) (datum_of (get_or vs j d)) e
    (ap (λ x. is_lt (datum_cmp (datum_of (get_or vs j d)) x)) (sym (at_map vs i d)) ∙ ap (λ y. is_lt (datum_cmp y (get_or (map datum_of vs) i (datum_of d)))) (sym (at_map vs j d)) ∙ apart)
    under

any_default : (vs : List Value) (i : ℕ) (d v : Value) → i < length vs → get_or vs i d ≡ get_or vs i v
any_default [] i d v h = absurd (omega (arith, h))
any_default (x ∷ vs) zero d v h = refl
any_default (x ∷ vs) (suc i) d v h = any_default vs i d v (omega (arith, h))

length_in : (vs : List Value) (i : ℕ) → i < length vs → i < length (map datum_of vs)
length_in vs i h = omega (arith, length_map vs)

-- the place has this value
pub spot_at : (e : Datum) (vs : List Value) (i : ℕ) (v : Value) (r : Ordering) (b : Bool) → IsSorted datum_cmp (map datum_of vs) → Parted e vs i → i < length vs → v ≡ get_or vs i v →
    r ≡ datum_cmp (datum_of v) e → b ≡ is_eq r → IsSpot e (map datum_of vs) i b
spot_at e vs i v r b sorted spot here is compared tested =
    let same : b ≡ is_eq (datum_cmp (datum_of (get_or vs i v)) e) = tested ∙ ap is_eq compared ∙ ap (λ x. is_eq (datum_cmp (datum_of x) e)) is in
    let l : length (map datum_of vs) ≡ length vs = length_map vs in
    record {
      within = omega (arith, l, here);
      there = sort e vs i v b sorted spot here same b refl;
      full = λ yes'. length_in vs i here;
      put = put_at e vs i (omega (arith, here)) spot;
      taken = λ yes'. taken_at e vs i v here spot (sym same ∙ yes');
    }
  where
    sort : (e : Datum) (vs : List Value) (i : ℕ) (v : Value) (b : Bool) → IsSorted datum_cmp (map datum_of vs) → Parted e vs i → i < length vs → b ≡ is_eq (datum_cmp (datum_of (get_or vs i v)) e) → (a : Bool) → a ≡ b → b ≡ has e (map datum_of vs)
    sort e vs i v b sorted spot here same true is = sym is ∙ sym (there_at e vs i v here spot (sym same ∙ sym is))
    sort e vs i v b sorted spot here same false is = sym is ∙ sym (absent_at e vs i (never_falls (map datum_of vs) sorted) spot (λ d h. ap (λ x. is_eq (datum_cmp (datum_of x) e)) (any_default vs i d v h) ∙ sym same ∙ sym is))

-- the place is behind all values
pub spot_behind : (e : Datum) (vs : List Value) (i : ℕ) → IsSorted datum_cmp (map datum_of vs) → Parted e vs i → i ≤ length vs → length vs ≤ i → IsSpot e (map datum_of vs) i false
spot_behind e vs i sorted spot within past =
    let l : length (map datum_of vs) ≡ length vs = length_map vs in
    record {
      within = omega (arith, l, within);
      there = sym (absent_at e vs i (never_falls (map datum_of vs) sorted) spot (λ d h. absurd (omega (arith, h, past))));
      full = λ wrong. absurd cc;
      put = put_at e vs i within spot;
      taken = λ wrong. absurd cc;
    }
