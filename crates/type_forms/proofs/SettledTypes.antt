-- Declared types, one more of them settled; and that those that stay left are none.
use Rattle.std.proofs.Common.{◌≡◌, ℕ, zero, suc, ◌<◌, ◌≤◌, ◌+◌, Bool, true, false, cond, List, [], ◌∷◌, length, set, replicate, Option, Some, None, ◌⊎◌, inl, inr, refl, sym, ap, ◌∙◌, subst, arith}
use Rattle.std.specs.Prelude.{slice_get, option_map}
use Rattle.std.specs.List.{list_all}
use Rattle.std.proofs.lemmas.Bool.{cases_eq, cases_lt, true≢false}
use Rattle.std.proofs.lemmas.List.{length-set, length-replicate}
use Rattle.std.proofs.lemmas.Option.{slice_get_past, slice_get-map}
use Rattle.link_rules.specs.Units.{Source}
use Rattle.type_rules.specs.declared.types.Measured.{Measured}
use Rattle.type_rules.specs.TopLevel.{TopName, top_names}
use Rattle.type_rules.specs.TypePhrases.{declared_top, declared_type, declared_within, parts_of, types_at}
use Rattle.type_forms.specs.Measures.{declared_in}
use Rattle.type_forms.specs.Parts.{AreParts, listed_at, parts_at, parts_in}
use Rattle.type_forms.specs.Settled.{AreSettled, AreTypes, IsOpen, is_settled, open_count}
use Rattle.type_forms.proofs.TypeParts.{no_top, same_top}

-- ---- one more

counted : (b : Bool) (settled : List Bool) → open_count (b ∷ settled) ≡ cond b 0 1 + open_count settled
counted b settled = refl

pub one_fewer : (settled : List Bool) (i : ℕ) → i < length settled → is_settled settled i ≡ false → open_count (set settled i true) + 1 ≡ open_count settled
one_fewer [] i lt e = absurd (omega (arith, lt))
one_fewer (false ∷ settled) zero lt e = let was = counted false settled in let now = counted true settled in omega (arith, was, now)
one_fewer (true ∷ settled) zero lt e = absurd (true≢false e)
one_fewer (b ∷ settled) (suc i) lt e =
    let rest = one_fewer settled i (omega (arith, lt)) e in
    let was = counted b settled in
    let now = counted b (set settled i true) in
    omega (arith, rest, was, now)

at_most_one : (b : Bool) → cond b 0 1 ≤ 1
at_most_one true = omega arith
at_most_one false = omega arith

at_most_all : (settled : List Bool) → open_count settled ≤ length settled
at_most_all [] = omega arith
at_most_all (b ∷ settled) = let rest = at_most_all settled in let one = at_most_one b in let all = counted b settled in omega (arith, rest, one, all)

settled_same : (settled : List Bool) (i : ℕ) → i < length settled → is_settled (set settled i true) i ≡ true
settled_same [] i lt = absurd (omega (arith, lt))
settled_same (b ∷ settled) zero lt = refl
settled_same (b ∷ settled) (suc i) lt = settled_same settled i (omega (arith, lt))

settled_other : (settled : List Bool) (i j : ℕ) → (i ≡ j → ⊥) → is_settled (set settled i true) j ≡ is_settled settled j
settled_other [] i j apart = refl
settled_other (b ∷ settled) zero zero apart = absurd (apart refl)
settled_other (b ∷ settled) zero (suc j) apart = refl
settled_other (b ∷ settled) (suc i) zero apart = refl
settled_other (b ∷ settled) (suc i) (suc j) apart = settled_other settled i j (λ e. apart (ap suc e))

type_same : (types : List (Option Measured)) (i : ℕ) (m : Option Measured) → i < length types → declared_in (set types i m) i ≡ m
type_same [] i m lt = absurd (omega (arith, lt))
type_same (x ∷ types) zero m lt = refl
type_same (x ∷ types) (suc i) m lt = type_same types i m (omega (arith, lt))

type_other : (types : List (Option Measured)) (i j : ℕ) (m : Option Measured) → (i ≡ j → ⊥) → declared_in (set types i m) j ≡ declared_in types j
type_other [] i j m apart = refl
type_other (x ∷ types) zero zero m apart = absurd (apart refl)
type_other (x ∷ types) zero (suc j) m apart = refl
type_other (x ∷ types) (suc i) zero m apart = refl
type_other (x ∷ types) (suc i) (suc j) m apart = type_other types i j m (λ e. apart (ap suc e))

-- the type that is settled
new_one : (us : List Source) (types : List (Option Measured)) (settled : List Bool) (i k : ℕ) (m : Option Measured) → AreSettled us types settled →
    i < length settled → is_settled settled i ≡ false → list_all (is_settled settled) (parts_of us i) ≡ true →
    m ≡ declared_top (declared_in types) us i (slice_get (top_names us) i) → length (set settled i true) ≤ k + open_count (set settled i true) →
    declared_within us k i ≡ m
new_one us types settled i zero m s lt left parts is le =
    let fewer = one_fewer settled i lt left in
    let long = length-set settled i true in
    let most = at_most_all settled in
    absurd (omega (arith, fewer, long, most, le))
new_one us types settled i (suc k) m s lt left parts is le =
    let fewer = one_fewer settled i lt left in
    let long = length-set settled i true in
    same_top (is_settled settled) (declared_within us k) (declared_in types) (λ j h. s.right j k h (omega (arith, fewer, long, le))) us i (slice_get (top_names us) i) parts
    ∙ sym is

pub settled_more : (us : List Source) (types : List (Option Measured)) (settled : List Bool) (i : ℕ) (m : Option Measured) → AreSettled us types settled →
    i < length settled → is_settled settled i ≡ false → list_all (is_settled settled) (parts_of us i) ≡ true →
    m ≡ declared_top (declared_in types) us i (slice_get (top_names us) i) → AreSettled us (set types i m) (set settled i true)
settled_more us types settled i m s lt left parts is = record {
  long = length-set settled i true ∙ s.long;
  as_long = length-set types i m ∙ s.as_long ∙ sym (length-set settled i true);
  right = λ j k h le. by_place j k h le (cases_eq i j);
  others = λ j h. other j h (cases_eq i j);
}
  where
    within : i < length types
    within = let same = s.as_long in omega (arith, same, lt)

    by_place : (j k : ℕ) → is_settled (set settled i true) j ≡ true → length (set settled i true) ≤ k + open_count (set settled i true) →
        ((i ≡ j) ⊎ (i ≡ j → ⊥)) → declared_within us k j ≡ declared_in (set types i m) j
    by_place j k h le (inl same) =
        subst (λ (v : ℕ). declared_within us k v ≡ declared_in (set types i m) v) same
        (new_one us types settled i k m s lt left parts is le ∙ sym (type_same types i m within))
    by_place j k h le (inr apart) =
        let fewer = one_fewer settled i lt left in
        let long = length-set settled i true in
        s.right j k (sym (settled_other settled i j apart) ∙ h) (omega (arith, fewer, long, le)) ∙ sym (type_other types i j m apart)

    other : (j : ℕ) → is_settled (set settled i true) j ≡ false → ((i ≡ j) ⊎ (i ≡ j → ⊥)) → declared_in (set types i m) j ≡ None
    other j h (inl same) = absurd (true≢false (sym (settled_same settled i lt) ∙ ap (is_settled (set settled i true)) same ∙ h))
    other j h (inr apart) = type_other types i j m apart ∙ s.others j (sym (settled_other settled i j apart) ∙ h)

-- ---- those that stay left

past : (us : List Source) (k i : ℕ) → length (top_names us) ≤ i → declared_within us k i ≡ None
past us zero i le = refl
past us (suc k) i le = ap (declared_top (declared_within us k) us i) (slice_get_past (top_names us) i le)

pub none_open : (us : List Source) (settled : List Bool) (k i : ℕ) → length settled ≡ length (top_names us) →
    ((j : ℕ) → j < length settled → IsOpen us settled j) → is_settled settled i ≡ false → declared_within us k i ≡ None
none_open us settled zero i long left h = refl
none_open us settled (suc k) i long left h = by_place (cases_lt i (length settled)) (λ j e. none_open us settled k j long left e)
  where
    by_place : (i < length settled) ⊎ (length settled ≤ i) → ((j : ℕ) → is_settled settled j ≡ false → declared_within us k j ≡ None) →
        declared_within us (suc k) i ≡ None
    by_place (inr le) rest = past us (suc k) i (omega (arith, le, long))
    by_place (inl lt) rest = no_top (is_settled settled) (declared_within us k) rest us i (slice_get (top_names us) i) (left i lt h)

pub are_types : (us : List Source) (types : List (Option Measured)) (settled : List Bool) → AreSettled us types settled →
    ((j : ℕ) → j < length settled → IsOpen us settled j) → AreTypes us types
are_types us types settled s left = λ i. by_test i (is_settled settled i) refl
  where
    by_test : (i : ℕ) (b : Bool) → is_settled settled i ≡ b → declared_in types i ≡ declared_type us i
    by_test i true e = let long = s.long in sym (s.right i (length (top_names us)) e (omega (arith, long)))
    by_test i false e = s.others i e ∙ sym (none_open us settled (length (top_names us)) i s.long left e)

-- ---- none of them

none_of : (n i : ℕ) → is_settled (replicate n false) i ≡ false
none_of zero i = refl
none_of (suc n) zero = refl
none_of (suc n) (suc i) = none_of n i

no_type_of : (n i : ℕ) → declared_in (replicate n None) i ≡ None
no_type_of zero i = refl
no_type_of (suc n) zero = refl
no_type_of (suc n) (suc i) = no_type_of n i

pub none_settled : (us : List Source) (n : ℕ) → n ≡ length (top_names us) → AreSettled us (replicate n None) (replicate n false)
none_settled us n long = record {
  long = length-replicate n false ∙ long;
  as_long = length-replicate n None ∙ sym (length-replicate n false);
  right = λ i k h le. absurd (true≢false (sym h ∙ none_of n i));
  others = λ i h. no_type_of n i;
}

-- ---- the table of parts

listed : (us : List Source) (t : Option TopName) → listed_at (option_map (parts_at us) t) ≡ types_at us t
listed us None = refl
listed us (Some t) = refl

pub parts_are : (us : List Source) (parts : List (List ℕ)) (i : ℕ) → AreParts us parts → parts_in parts i ≡ parts_of us i
parts_are us parts i e =
    ap (λ (p : List (List ℕ)). parts_in p i) e ∙ ap listed_at (slice_get-map (parts_at us) (top_names us) i) ∙ listed us (slice_get (top_names us) i)
