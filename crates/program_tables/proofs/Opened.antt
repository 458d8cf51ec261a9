-- What a type's outer arrays stand round, and lists of equal values.
use Rattle.std.proofs.Common.{◌≡◌, ℕ, ◌+◌, ◌<◌, List, [], ◌∷◌, ◌++◌, length, get_or, take, drop, map, replicate, sym, ap, ◌∙◌}
use Rattle.std.proofs.lemmas.List.{map-append, replicate_more, take_more}
use Rattle.type_rules.specs.declared.types.Layer.{Layer}
use Rattle.value_core.specs.declared.value.Value.{Value}
use Rattle.value_core.specs.Datum.{Datum}
use Rattle.value_core.specs.View.{datum_of}
use Rattle.program_tables.specs.Layers.{empty_within}

-- what stands at a layer's place
pub met : (ls rest : List Layer) (i : ℕ) (x y : Layer) → drop i ls ≡ x ∷ rest → x ≡ y → empty_within (drop i ls) ≡ empty_within ls →
    empty_within (y ∷ rest) ≡ empty_within ls
met ls rest i x y front is before = sym (ap empty_within (front ∙ ap (λ (v : Layer). v ∷ rest) is)) ∙ before

-- one more of equal values
pub copied : (xs ys : List Value) (x value : Value) (k : ℕ) → ys ≡ xs ++ x ∷ [] → x ≡ value → map datum_of xs ≡ replicate k (datum_of value) →
    map datum_of ys ≡ replicate (k + 1) (datum_of value)
copied xs ys x value k e is before =
    ap (map datum_of) e
    ∙ map-append datum_of xs (x ∷ [])
    ∙ ap (λ (l : List Datum). l ++ datum_of x ∷ []) before
    ∙ ap (λ (v : Value). replicate k (datum_of value) ++ datum_of v ∷ []) is
    ∙ replicate_more k (datum_of value)

-- one more of what a function gives
pub mapped_more : {A B : Type 0} (f : A → B) (xs : List A) (k : ℕ) (x : A) → k < length xs → x ≡ get_or xs k x →
    map f (take (k + 1) xs) ≡ map f (take k xs) ++ f x ∷ []
mapped_more {A} f xs k x lt is =
    ap (map f) (take_more xs k x lt ∙ ap (λ (v : A). take k xs ++ v ∷ []) (sym is)) ∙ map-append f (take k xs) (x ∷ [])
