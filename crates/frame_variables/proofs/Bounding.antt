-- Bounds of values' sizes, where values and bounds come and go.
use Rattle.std.proofs.Common.{◌≡◌, ℕ, zero, suc, ◌<◌, ◌≤◌, List, [], ◌∷◌, ◌++◌, drop, length, Some, subst, refl, arith}
use Rattle.std.specs.Prelude.{slice_get, slice_set}
use Rattle.orca_base.specs.declared.limits.TheConstants.{VALUE_SIZE}
use Rattle.value_core.specs.Datum.{Datum}
use Rattle.frame_variables.specs.Bounded.{AreWithin, IsWithin}

-- a bound above the limit says nothing
pub says_nothing : (n : ℕ) (v : Datum) → VALUE_SIZE < n → IsWithin n v
says_nothing n v high few = absurd (omega (arith, high, few))

pub got : (ns : List ℕ) (vs : List Datum) (i n : ℕ) (v : Datum) → AreWithin ns vs → slice_get ns i ≡ Some n → slice_get vs i ≡ Some v → IsWithin n v
got [] vs i n v h found is = absurd cc
got (m ∷ ns) [] i n v h found is = absurd cc
got (m ∷ ns) (w ∷ vs) zero n v h found is = let bound : m ≡ n = cc in let value : w ≡ v = cc in subst (λ k. IsWithin k v) bound (subst (IsWithin m) value h.0)
got (m ∷ ns) (w ∷ vs) (suc i) n v h found is = got ns vs i n v h.1 found is

pub noted : (ns : List ℕ) (vs : List Datum) (i n : ℕ) → AreWithin ns vs → ((v : Datum) → slice_get vs i ≡ Some v → IsWithin n v) → AreWithin (slice_set ns i n) vs
noted [] vs i n h here = tt
noted (m ∷ ns) [] zero n h here = tt
noted (m ∷ ns) [] (suc i) n h here = tt
noted (m ∷ ns) (w ∷ vs) zero n h here = (here w refl, h.1)
noted (m ∷ ns) (w ∷ vs) (suc i) n h here = (h.0, noted ns vs i n h.1 here)

pub forgot : (ns : List ℕ) (vs : List Datum) (i n : ℕ) (v : Datum) → VALUE_SIZE < n → AreWithin ns vs → AreWithin (slice_set ns i n) (slice_set vs i v)
forgot [] vs i n v high h = tt
forgot (m ∷ ns) [] zero n v high h = tt
forgot (m ∷ ns) [] (suc i) n v high h = tt
forgot (m ∷ ns) (w ∷ vs) zero n v high h = (says_nothing n v high, h.1)
forgot (m ∷ ns) (w ∷ vs) (suc i) n v high h = (h.0, forgot ns vs i n v high h.1)

-- a value comes to a place whose bound isn't known
pub forgot_past : (ns : List ℕ) (vs : List Datum) (i : ℕ) (v : Datum) → length ns ≤ i → AreWithin ns vs → AreWithin ns (slice_set vs i v)
forgot_past [] vs i v past h = tt
forgot_past (m ∷ ns) [] i v past h = tt
forgot_past (m ∷ ns) (w ∷ vs) zero v past h = absurd (omega (arith, past))
forgot_past (m ∷ ns) (w ∷ vs) (suc i) v past h = (h.0, forgot_past ns vs i v (omega (arith, past)) h.1)

pub longer : (ns : List ℕ) (vs : List Datum) (n : ℕ) → VALUE_SIZE < n → AreWithin ns vs → AreWithin (ns ++ n ∷ []) vs
longer [] [] n high h = tt
longer [] (w ∷ vs) n high h = (says_nothing n w high, tt)
longer (m ∷ ns) [] n high h = tt
longer (m ∷ ns) (w ∷ vs) n high h = (h.0, longer ns vs n high h.1)

pub dropped : (ns : List ℕ) (vs : List Datum) → AreWithin ns vs → AreWithin (drop 1 ns) (drop 1 vs)
dropped [] vs h = tt
dropped (m ∷ []) [] h = tt
dropped (m ∷ n ∷ ns) [] h = tt
dropped (m ∷ ns) (w ∷ vs) h = h.1
