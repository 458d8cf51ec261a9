-- What slots hold where a body begins, and what is left of them for an object.
use Rattle.std.proofs.Common.{◌≡◌, ◌+◌, ◌++◌, ℕ, List, length, map, take, drop, ap, sym, ◌∙◌, arith, length-append}
use Rattle.std.proofs.lemmas.List.{take-map, drop-map, drop-take}
use Rattle.value_core.specs.Datum.{Datum}
use Rattle.value_core.specs.View.{datum_of}
use Rattle.value_core.specs.declared.value.Value.{Value}

-- behind the arguments, what the other names open with, and what the loops need
pub filled : (opens behind : List Value) (args first more all rest : List Datum) (n : ℕ) → first ≡ args → n ≡ length args → behind ≡ drop n opens →
    more ≡ first ++ map datum_of behind → all ≡ more ++ rest → all ≡ (args ++ drop (length args) (map datum_of opens)) ++ rest
filled opens behind args first more all rest n is many others added spared =
    let tail : map datum_of behind ≡ drop (length args) (map datum_of opens)
    = ap (map datum_of) others ∙ sym (drop-map datum_of n opens) ∙ ap (λ (k : ℕ). drop k (map datum_of opens)) many in
    spared ∙ ap (λ (l : List Datum). l ++ rest) (added ∙ ap (λ (l : List Datum). l ++ map datum_of behind) is ∙ ap (λ (l : List Datum). args ++ l) tail)

-- an object's fields stand behind the arguments and the variables
pub names_many : (args opens fields : List Datum) (n : ℕ) → n ≡ length fields → length (args ++ (opens ++ fields)) ≡ (length args + length opens) + n
names_many args opens fields n is = let one = length-append args (opens ++ fields) in let two = length-append opens fields in omega arith

pub fields_left : (own own' count names : ℕ) (values : List Value) (locals fields : List Datum) → own ≡ own' → names ≡ own' + count → map datum_of values ≡ locals →
    fields ≡ map datum_of (take count (drop own values)) → fields ≡ drop own' (take names locals)
fields_left own own' count names values locals fields same many are copied =
    copied
    ∙ sym (take-map datum_of count (drop own values))
    ∙ ap (take count) (sym (drop-map datum_of own values) ∙ ap (drop own) are ∙ ap (λ (n : ℕ). drop n locals) same)
    ∙ sym (drop-take own' count locals)
    ∙ ap (λ (n : ℕ). drop own' (take n locals)) (sym many)
