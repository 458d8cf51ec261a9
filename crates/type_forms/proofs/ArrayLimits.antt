-- Sizes of arrays, cut off above the limit.
use Rattle.std.proofs.Common.{◌≡◌, ℕ, zero, suc, ◌<◌, ◌≤◌, ◌+◌, ◌*◌, min, Bool, true, false, ◌&&◌, cond, List, [], ◌∷◌, ◌++◌, Option, Some, None, ◌⊎◌, inl, inr, refl, sym, ap, ◌∙◌, arith}
use Rattle.std.specs.Prelude.{nat_le}
use Rattle.std.proofs.lemmas.Bool.{cases_lt, leb-true, true≢false}
use Rattle.std.proofs.Math.Nat.{le-mul_of_pos_right}
use Rattle.orca_base.specs.declared.place.Place.{Place}
use Rattle.orca_base.specs.declared.limits.TheConstants.{VALUE_NESTING, VALUE_SIZE}
use Rattle.type_rules.specs.declared.breach.Breach.{Breach}
use Rattle.type_rules.specs.declared.types.DataType.{DataType}
use Rattle.type_rules.specs.declared.types.Measured.{Measured}
use Rattle.type_rules.specs.Rules.{Found, asks, unless}
use Rattle.type_rules.specs.TypePhrases.{is_small, within_limits}
use Rattle.type_forms.specs.Measures.{if_small}

-- ---- products

times_none : (a b : ℕ) → a * zero ≡ b * zero
times_none a b = omega arith

pub capped : (c s : ℕ) → min (1 + min c 10001 * s) 10001 ≡ min (1 + c * s) 10001
capped c s = by_count s (cases_lt c 10002)
  where
    by_count : (s : ℕ) → (c < 10002) ⊎ (10002 ≤ c) → min (1 + min c 10001 * s) 10001 ≡ min (1 + c * s) 10001
    by_count s (inl few) = ap (λ (k : ℕ). min (1 + k * s) 10001) (omega (arith, few))
    by_count zero (inr many) = ap (λ (k : ℕ). min (1 + k) 10001) (times_none (min c 10001) c)
    by_count (suc t) (inr many) =
        let all = le-mul_of_pos_right {m = suc t} c (omega arith) in
        let most = le-mul_of_pos_right {m = suc t} (min c 10001) (omega arith) in
        omega (arith, many, all, most)

-- ---- limits

above : (s : ℕ) → VALUE_SIZE < s → nat_le s VALUE_SIZE ≡ false
above s lt = by_test (nat_le s VALUE_SIZE) refl
  where
    by_test : (b : Bool) → nat_le s VALUE_SIZE ≡ b → nat_le s VALUE_SIZE ≡ false
    by_test true is = let le = leb-true s VALUE_SIZE is in absurd (omega (arith, le, lt))
    by_test false is = is

too_large : (m : Measured) → VALUE_SIZE < m.size → if_small m ≡ None
too_large m lt = ap (λ (b : Bool). cond (b && nat_le m.nesting VALUE_NESTING) (Some m) None) (above m.size lt)

-- a size that is cut off above the limit is within it exactly where the whole size is, and then it is the same
pub small_again : (t : DataType) (nesting whole size : ℕ) → size ≡ min whole 10001 →
    if_small (record { kind = t; size = size; nesting = nesting }) ≡ if_small (record { kind = t; size = whole; nesting = nesting })
small_again t nesting whole size is = by_size (cases_lt VALUE_SIZE whole)
  where
    by_size : (VALUE_SIZE < whole) ⊎ (whole ≤ VALUE_SIZE) →
        if_small (record { kind = t; size = size; nesting = nesting }) ≡ if_small (record { kind = t; size = whole; nesting = nesting })
    by_size (inl lt) =
        too_large (record { kind = t; size = size; nesting = nesting }) (omega (arith, lt, is))
        ∙ sym (too_large (record { kind = t; size = whole; nesting = nesting }) lt)
    by_size (inr le) = ap (λ (s : ℕ). if_small (record { kind = t; size = s; nesting = nesting })) (omega (arith, le, is))

small_found : Place → Option Measured → Found Measured
small_found at None = unless (asks 10 at false) None
small_found at (Some m) = unless [] (Some m)

within_is : (at : Place) (m : Measured) → within_limits at (unless [] (Some m)) ≡ small_found at (if_small m)
unfolding small_found
within_is at m = by_test (is_small m) refl
  where
    by_test : (b : Bool) → is_small m ≡ b → within_limits at (unless [] (Some m)) ≡ small_found at (if_small m)
    by_test true is = rw is refl
    by_test false is = rw is refl

pub within_same : (at : Place) (m n : Measured) → if_small m ≡ if_small n → within_limits at (unless [] (Some m)) ≡ within_limits at (unless [] (Some n))
within_same at m n e = within_is at m ∙ ap (small_found at) e ∙ sym (within_is at n)

-- ---- no breaches

is_cons : List Breach → Bool
is_cons [] = false
is_cons (b ∷ bs) = true

pub cons_nil : (b : Breach) (bs : List Breach) → b ∷ bs ≡ [] → ⊥
unfolding is_cons
cons_nil b bs e = true≢false (ap is_cons e)

behind_nil : (as_ : List Breach) (b : Breach) (bs : List Breach) → as_ ++ b ∷ bs ≡ [] → ⊥
behind_nil [] b bs e = cons_nil b bs e
behind_nil (a ∷ as_) b bs e = cons_nil a (as_ ++ b ∷ bs) e

behind_both : (as_ bs : List Breach) (b : Breach) (cs : List Breach) → as_ ++ (bs ++ b ∷ cs) ≡ [] → ⊥
behind_both [] bs b cs e = behind_nil bs b cs e
behind_both (a ∷ as_) bs b cs e = cons_nil a (as_ ++ (bs ++ b ∷ cs)) e

pub asked : (as_ bs cs : List Breach) (rule : ℕ) (at : Place) (t : Bool) → as_ ++ (bs ++ (asks rule at t ++ cs)) ≡ [] → t ≡ true
asked as_ bs cs rule at true e = refl
asked as_ bs cs rule at false e = absurd (behind_both as_ bs (record { rule = rule; at = at }) cs e)
