-- Sets, bags and graphs without elements.
use Rattle.std.proofs.Common.{◌≡◌, [], ◌∷◌, ◌++◌, ap, sym, ◌∙◌, subst, arith}
use Rattle.std.specs.List.Sorted.{IsSorted, IsStrictlySortedBy}
use Rattle.value_core.specs.Datum.{Datum, Data, data_of, list_of, data_of-list_of}
use Rattle.value_core.specs.Datum as datum
use Rattle.value_core.specs.Order.{datum_cmp}

none_rises : IsStrictlySortedBy datum_cmp []
unfolding IsStrictlySortedBy
none_rises = tt

none_sorted : IsSorted datum_cmp []
none_sorted k d low lt = absurd (omega (arith, lt))

pub empty_is : (w u : Data) → list_of w ≡ [] → u ≡ w → u ≡ datum.none
empty_is w u none same = same ∙ sym (data_of-list_of w) ∙ ap data_of none

pub empty_rises : (w u : Data) → list_of w ≡ [] → u ≡ w → IsStrictlySortedBy datum_cmp (list_of u)
empty_rises w u none same = subst (IsStrictlySortedBy datum_cmp) (sym (ap list_of (empty_is w u none same))) none_rises

pub empty_sorted : (w u : Data) → list_of w ≡ [] → u ≡ w → IsSorted datum_cmp (list_of u)
empty_sorted w u none same = subst (IsSorted datum_cmp) (sym (ap list_of (empty_is w u none same))) none_sorted

-- a record of two values
pub pair_is : (a b c w : Data) (x y : Datum) → list_of a ≡ [] → list_of b ≡ list_of a ++ x ∷ [] → list_of c ≡ list_of b ++ y ∷ [] → w ≡ c →
    datum.fields w ≡ datum.fields (datum.more x (datum.more y datum.none))
pair_is a b c w x y none one two same =
    let shown : list_of c ≡ x ∷ y ∷ [] = two ∙ ap (λ xs. xs ++ y ∷ []) (one ∙ ap (λ xs. xs ++ x ∷ []) none) in
    ap datum.fields (same ∙ sym (data_of-list_of c) ∙ ap data_of shown)
