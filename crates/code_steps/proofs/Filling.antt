-- What slots are filled with.
use Rattle.std.proofs.Common.{◌≡◌, ◌<◌, ℕ, ◌+◌, List, [], ◌∷◌, ◌++◌, append_assoc, length, get_or, drop, map, replicate, sym, ap, ◌∙◌}
use Rattle.std.proofs.lemmas.List.{drop_more, replicate_more}
use Rattle.value_core.specs.Datum.{Datum}
use Rattle.value_core.specs.View.{datum_of}
use Rattle.value_core.specs.declared.value.Value.{Value}

-- one value more is copied
pub copied_more : (old new : List Datum) (vs : List Value) (i : ℕ) (v w : Value) → i < length vs → v ≡ get_or vs i v → w ≡ v → new ≡ old ++ datum_of w ∷ [] →
    new ++ map datum_of (drop (i + 1) vs) ≡ old ++ map datum_of (drop i vs)
copied_more old new vs i v w low read copy is =
    ap (λ zs. zs ++ map datum_of (drop (i + 1) vs)) is
    ∙ append_assoc old (datum_of w ∷ []) (map datum_of (drop (i + 1) vs))
    ∙ ap (λ z. old ++ datum_of z ∷ map datum_of (drop (i + 1) vs)) (copy ∙ read)
    ∙ ap (λ zs. old ++ map datum_of zs) (sym (drop_more vs i v low))

-- one slot more is spare
pub spare_more : (old all new : List Datum) (n : ℕ) (z : Datum) → all ≡ old ++ replicate n z → new ≡ all ++ z ∷ [] → new ≡ old ++ replicate (n + 1) z
spare_more old all new n z is one =
    one ∙ ap (λ w. w ++ z ∷ []) is ∙ append_assoc old (replicate n z) (z ∷ []) ∙ ap (λ w. old ++ w) (replicate_more n z)
