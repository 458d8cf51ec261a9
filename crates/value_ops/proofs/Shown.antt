-- What a value with parts shows, and a list of values.
use Rattle.std.proofs.Common.{◌≡◌, ◌+◌, List, map, ◌⊎◌, inl, inr, ap, ◌∙◌}
use Rattle.value_core.specs.Datum.{Data, data_of, list_of, data_of-list_of}
use Rattle.value_core.specs.Size.{size_of, size_of_all}
use Rattle.value_core.specs.View.{datum_of, data_in}
use Rattle.value_core.specs.declared.value.Value.{Value}
use Rattle.value_core.specs.declared.value.Value.TheVariants.{Array, Fields, Set, Bag}

pub data_shown : (vs : List Value) (w : Data) → map datum_of vs ≡ list_of w → data_in vs ≡ w
data_shown vs w is = ap data_of is ∙ data_of-list_of w

pub size_with_parts : (v : Value) (w : Data) → (v ≡ Array w) ⊎ ((v ≡ Fields w) ⊎ ((v ≡ Set w) ⊎ (v ≡ Bag w))) → size_of (datum_of v) ≡ size_of_all w + 1
size_with_parts v w (inl is) = ap (λ x. size_of (datum_of x)) is
size_with_parts v w (inr (inl is)) = ap (λ x. size_of (datum_of x)) is
size_with_parts v w (inr (inr (inl is))) = ap (λ x. size_of (datum_of x)) is
size_with_parts v w (inr (inr (inr is))) = ap (λ x. size_of (datum_of x)) is
