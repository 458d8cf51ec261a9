-- A graph that is made.
use Rattle.std.proofs.Common.{◌≡◌, List, [], ◌∷◌, ◌++◌, ap, sym, ◌∙◌}
use Rattle.value_core.specs.Datum.{Datum, Data, data_of, list_of, data_of-list_of}
use Rattle.value_core.specs.Datum as datum

-- a record of two values
pub pair_is : (a b c w : Data) (x y : Datum) → list_of a ≡ [] → list_of b ≡ list_of a ++ x ∷ [] → list_of c ≡ list_of b ++ y ∷ [] → w ≡ c →
    datum.fields w ≡ datum.fields (datum.more x (datum.more y datum.none))
pair_is a b c w x y none one two same =
    let shown : list_of c ≡ x ∷ y ∷ [] = two ∙ ap (λ xs. xs ++ y ∷ []) (one ∙ ap (λ xs. xs ++ x ∷ []) none) in
    ap datum.fields (same ∙ sym (data_of-list_of c) ∙ ap data_of shown)

pub empty_is : (w u : Data) → list_of w ≡ [] → u ≡ w → u ≡ datum.none
empty_is w u none same = same ∙ sym (data_of-list_of w) ∙ ap data_of none
