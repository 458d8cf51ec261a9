-- Lists of values are compared from the left.
use Rattle.std.proofs.Common.{◌≡◌, ℕ, zero, suc, ◌<◌, ◌≤◌, List, [], ◌∷◌, true, length, map, drop, ap, ◌∙◌, sym, refl, arith}
use Rattle.std.specs.Prelude.{slice_index_or, not, ◌==◌}
use Rattle.std.specs.declared.cmp.Ordering.{Ordering}
use Rattle.std.specs.declared.cmp.Ordering.TheVariants.{Less, Equal, Greater}
use Rattle.std.specs.Ordering.{ordering_then, ordering_index, nat_cmp}
use Rattle.std.specs.Cmp.{nat_cmp_is}
use Rattle.std.specs.Cmp.Lexicographic.{slice_cmp}
use Rattle.std.proofs.lemmas.Bool.Decides.{nat_tests}
use Rattle.value_core.specs.Datum.{Datum, Data, data_of}
use Rattle.value_core.specs.View.{datum_of, data_in}
use Rattle.value_core.specs.Order.{datum_cmp, data_cmp}
use Rattle.value_core.specs.declared.value.Value.{Value}

listed : (vs ws : List Datum) → data_cmp (data_of vs) (data_of ws) ≡ slice_cmp datum_cmp vs ws
listed [] [] = refl
listed [] (w ∷ ws) = refl
listed (v ∷ vs) [] = refl
listed (v ∷ vs) (w ∷ ws) = ap (ordering_then (datum_cmp v w)) (listed vs ws)

-- the order of two lists of values, from index i on
abbrev pub cmp_from : ℕ → List Value → List Value → Ordering
cmp_from i vs ws = slice_cmp datum_cmp (map datum_of (drop i vs)) (map datum_of (drop i ws))

-- by what is left
pub by_rest : (vs ws : List Value) (v w : Data) (i : ℕ) → data_in vs ≡ v → data_in ws ≡ w → slice_cmp datum_cmp (map datum_of vs) (map datum_of ws) ≡ cmp_from i vs ws → data_cmp v w ≡ cmp_from i vs ws
by_rest vs ws v w i p q left = ap (λ x. data_cmp x w) (sym p) ∙ ap (data_cmp (data_in vs)) (sym q) ∙ listed (map datum_of vs) (map datum_of ws) ∙ left

none_left : (i : ℕ) → drop {A = Value} i [] ≡ []
none_left zero = refl
none_left (suc i) = refl

-- the second list ends first
pub longer : (vs ws : List Value) (i : ℕ) → i < length vs → length ws ≤ i → cmp_from i vs ws ≡ Greater
longer [] ws i h k = absurd (omega arith)
longer (v ∷ vs) [] zero h k = refl
longer (v ∷ vs) [] (suc i) h k = ap (λ xs. slice_cmp datum_cmp (map datum_of (drop i vs)) (map datum_of xs)) (sym (none_left i)) ∙ longer vs [] i (omega arith) (omega arith)
longer (v ∷ vs) (w ∷ ws) zero h k = absurd (omega arith)
longer (v ∷ vs) (w ∷ ws) (suc i) h k = longer vs ws i (omega arith) (omega arith)

from_here : (vs ws : List Value) (i : ℕ) (v w : Value) → i < length vs → i < length ws → v ≡ slice_index_or vs i v → w ≡ slice_index_or ws i w → cmp_from i vs ws ≡ ordering_then (datum_cmp (datum_of v) (datum_of w)) (cmp_from (suc i) vs ws)
from_here [] ws i v w h k p q = absurd (omega arith)
from_here (x ∷ vs) [] i v w h k p q = absurd (omega arith)
from_here (x ∷ vs) (y ∷ ws) zero v w h k p q = cc
from_here (x ∷ vs) (y ∷ ws) (suc i) v w h k p q = from_here vs ws i v w (omega arith) (omega arith) p q

decided : (r s : Ordering) → true ≡ not (ordering_index r == 1) → ordering_then r s ≡ r
decided Less s h = refl
decided Equal s h = cc
decided Greater s h = refl

-- two values differ
pub differ : (vs ws : List Value) (i : ℕ) (v w : Value) (r : Ordering) → i < length vs → i < length ws → v ≡ slice_index_or vs i v → w ≡ slice_index_or ws i w → r ≡ datum_cmp (datum_of v) (datum_of w) → true ≡ not (ordering_index r == 1) → cmp_from i vs ws ≡ r
differ vs ws i v w r h k p q is apart =
    from_here vs ws i v w h k p q ∙ ap (λ o. ordering_then o (cmp_from (suc i) vs ws)) (sym is) ∙ decided r (cmp_from (suc i) vs ws) apart

shifted : (m n : ℕ) → nat_cmp m n ≡ nat_cmp (suc m) (suc n)
shifted m n = grind (arith, nat_tests)

-- the first list ends, and the second no sooner
pub ended : (vs ws : List Value) (i : ℕ) → length vs ≤ i → i ≤ length vs → i ≤ length ws → cmp_from i vs ws ≡ nat_cmp (length vs) (length ws)
ended [] [] zero h k l = refl
ended [] (w ∷ ws) zero h k l = nat_cmp_is 0 (length (w ∷ ws)) Less (omega arith)
ended (v ∷ vs) ws zero h k l = absurd (omega arith)
ended [] ws (suc i) h k l = absurd (omega arith)
ended (v ∷ vs) [] (suc i) h k l = absurd (omega arith)
ended (v ∷ vs) (w ∷ ws) (suc i) h k l = ended vs ws i (omega arith) (omega arith) (omega arith) ∙ shifted (length vs) (length ws)
