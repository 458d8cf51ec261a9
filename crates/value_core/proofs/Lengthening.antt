-- Lengths that stop at the greatest, one value after the other.
use Rattle.std.proofs.Common.{◌≡◌, ℕ, zero, suc, ◌+◌, ◌<◌, ◌≤◌, ◌^◌, List, [], ◌∷◌, length, drop, ap, ◌∙◌, sym, refl, arith}
use Rattle.value_core.specs.Datum.{Data}
use Rattle.value_core.specs.Lengths.{told_length, values_length}
use Rattle.value_core.specs.View.{data_in}
use Rattle.value_core.specs.declared.value.Value.{Value}

none_left : (i : ℕ) (vs : List Value) → length vs ≤ i → drop i vs ≡ []
none_left zero [] h = refl
none_left zero (v ∷ vs) h = absurd (omega (arith, h))
none_left (suc i) [] h = refl
none_left (suc i) (v ∷ vs) h = none_left i vs (omega (arith, h))

small_told : (n : ℕ) → n < 2 ^ 32 → told_length (n + 0) ≡ n
small_told n h = omega (arith, h)

-- no value is left
pub all_told : (vs items : List Value) (w : Data) (i n : ℕ) → data_in vs ≡ w → items ≡ vs → length items ≤ i → n < 2 ^ 32 →
    told_length (n + values_length (data_in (drop i items))) ≡ told_length (values_length (data_in items)) → n ≡ told_length (values_length w)
all_told vs items w i n shown same past small told =
    sym (small_told n small)
    ∙ ap (λ (left : List Value). told_length (n + values_length (data_in left))) (sym (none_left i items past))
    ∙ told
    ∙ ap (λ (all : List Value). told_length (values_length (data_in all))) same
    ∙ ap (λ (x : Data). told_length (values_length x)) shown
