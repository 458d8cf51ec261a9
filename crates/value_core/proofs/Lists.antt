-- What a list of values shows, and its length, elements and changes.
use Rattle.std.proofs.Common.{◌≡◌, ◌↔◌, ℕ, ◌<◌, ◌≤◌, Bool, true, List, [], ◌∷◌, ◌++◌, length, Option, Some, None, map, ap, ◌∙◌, sym, refl, Bor, arith}
use Rattle.std.specs.Prelude.{slice_get, option_map, zero, suc, IsTrue, MatchOption, ◌==◌, take, drop, insert, remove}
use Rattle.std.specs.List.{HoldsAt, take-map, drop-map}
use Rattle.std.proofs.lemmas.List.{map-append}
use Rattle.std.specs.Option.{option_copied}
use Rattle.std.proofs.lemmas.Bool.Decides.{nat_tests}
use Rattle.std.proofs.lemmas.Option.{slice_get-get_or, slice_get_past}
use Rattle.value_core.specs.Datum.{Data, list_of, list_of-data_of}
use Rattle.value_core.specs.View.{datum_of, data_in}
use Rattle.value_core.specs.declared.value.Value.{Value}

-- what a list of parts shows
pub list_in : (vs : List Value) (w : Data) → data_in vs ≡ w → list_of w ≡ map datum_of vs
list_in vs w is = sym (ap list_of is) ∙ list_of-data_of (map datum_of vs)

pub length_in : (vs : List Value) → length (map datum_of vs) ≡ length vs
length_in [] = refl
length_in (v ∷ vs) = ap suc (length_in vs)

pub get_in : (vs : List Value) (i : ℕ) → option_map datum_of (slice_get vs i) ≡ slice_get (map datum_of vs) i
get_in [] i = refl
get_in (v ∷ vs) zero = refl
get_in (v ∷ vs) (suc i) = get_in vs i

pub push_in : (vs : List Value) (v : Value) → map datum_of (vs ++ v ∷ []) ≡ map datum_of vs ++ datum_of v ∷ []
push_in [] v = refl
push_in (u ∷ vs) v = ap (λ r. datum_of u ∷ r) (push_in vs v)

-- what `get` answers
pub found_in : (vs : List Value) (i : ℕ) (r : Option (Bor Value)) → MatchOption r (length vs ≤ i) (λ x. (i < length vs) × HoldsAt (λ y. x.now ≡ y) vs i) → option_copied r ≡ slice_get vs i
found_in vs i None past = sym (slice_get_past vs i past)
found_in vs i (Some x) found = sym (slice_get-get_or vs i x.now found.0 ∙ ap Some (sym (found.1 x.now)))

not_zero : (n : ℕ) (b : Bool) → b ≡ (n == 0) → b ≡ true → n ≡ 0
not_zero n b e h = grind (arith, nat_tests)

-- a list is empty where its length is 0
pub none_in : (vs : List Value) (w : Data) (b : Bool) (n : ℕ) → data_in vs ≡ w → n ≡ length vs → b ≡ (n == 0) → IsTrue b ↔ (list_of w ≡ [])
none_in [] w b n is len e = (λ h. list_in [] w is, λ h. e ∙ ap (λ k. k == 0) len)
none_in (v ∷ vs) w b n is len e =
    let shown : list_of w ≡ datum_of v ∷ map datum_of vs = list_in (v ∷ vs) w is in
    (λ h. let none : n ≡ 0 = not_zero n b e h in absurd (omega (arith, len)), λ h. cc)

pub insert_in : (vs : List Value) (i : ℕ) (v : Value) → map datum_of (insert vs i v) ≡ insert (map datum_of vs) i (datum_of v)
insert_in vs i v =
    map-append datum_of (take i vs) (v ∷ drop i vs)
    ∙ ap (λ r. r ++ datum_of v ∷ map datum_of (drop i vs)) (sym (take-map datum_of i vs))
    ∙ ap (λ r. take i (map datum_of vs) ++ datum_of v ∷ r) (sym (drop-map datum_of i vs))

pub remove_in : (vs : List Value) (i : ℕ) → map datum_of (remove vs i) ≡ remove (map datum_of vs) i
remove_in vs i =
    map-append datum_of (take i vs) (drop (suc i) vs)
    ∙ ap (λ r. r ++ map datum_of (drop (suc i) vs)) (sym (take-map datum_of i vs))
    ∙ ap (λ r. take i (map datum_of vs) ++ r) (sym (drop-map datum_of (suc i) vs))
