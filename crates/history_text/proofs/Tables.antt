-- Names in tables.
use Rattle.std.proofs.Common.{◌≡◌, ℕ, zero, suc, ◌+◌, ◌<◌, Bool, true, false, List, [], ◌∷◌, ◌++◌, length, take, drop, Option, Some, refl, sym, ap, subst, ◌∙◌, arith, inl, inr}
use Rattle.std.specs.Prelude.{slice_get}
use Rattle.std.specs.List.{position_from}
use Rattle.std.specs.Str.{bytes_eq}
use Rattle.std.proofs.lemmas.Iterator.Adapters.{position_from-zero}
use Rattle.std.proofs.lemmas.List.{take_at, drop_at, take-append-drop}
use Rattle.std.proofs.lemmas.Option.{get_or_from_slice_get, slice_get-get_or, slice_get_within}
use Rattle.std.proofs.lemmas.Slice.Eq.{bytes_eq-Decides}
use Rattle.value_texts.proofs.Steps.{bind_some, bound, some_is, chosen, no_is, yes_is}
use Rattle.value_texts.proofs.Numerals.{front_is}
use Rattle.history_text.specs.Reading.{name_len, named_at, number_of}
use Rattle.history_text.specs.Sound.{IsTable, is_name_byte}
use Rattle.history_text.specs.Spelling.{name_of}
use Rattle.history_text.proofs.Chains.{Spells}

-- the number of a name, where the first has this number
abbrev number_from : ℕ → List (List ℕ) → List ℕ → Option ℕ
number_from from names name = position_from (λ other. bytes_eq other name) from names

counted : (names : List (List ℕ)) (name : List ℕ) → number_of names name ≡ number_from 0 names name
counted names name = position_from-zero (λ other. bytes_eq other name) names

pub record Stands (names : List (List ℕ)) (from : ℕ) (name : List ℕ) (number : ℕ) : Type 0 where
  pub place : ℕ
  pub is : number ≡ from + place
  pub there : slice_get names place ≡ Some name

number_takes : (names : List (List ℕ)) (from : ℕ) (name : List ℕ) (number : ℕ) → number_from from names name ≡ Some number → Stands names from name number
number_takes [] from name number e = absurd cc
number_takes (other ∷ names) from name number e =
    elim (chosen (bytes_eq other name) (Some from) (number_from (from + 1) names name) (Some number) e) [
      | inl d ↦ record { place = 0; is = sym (some_is from number d.1) ∙ omega arith; there = ap Some ((bytes_eq-Decides other name).0 d.0) }
      | inr d ↦
          let s = number_takes names (from + 1) name number d.1 in
          record { place = suc s.place; is = omega (arith, s.is); there = s.there }
    ]

-- the first place of a name that stands somewhere
record FirstPlace (names : List (List ℕ)) (from : ℕ) (name : List ℕ) : Type 0 where
  place : ℕ
  found : number_from from names name ≡ Some (from + place)
  there : slice_get names place ≡ Some name

at_front : (other : List ℕ) (names : List (List ℕ)) (from : ℕ) (name : List ℕ) → bytes_eq other name ≡ true → FirstPlace (other ∷ names) from name
at_front other names from name e =
    let none : from + 0 ≡ from = omega arith in
    record { place = 0; found = yes_is (bytes_eq other name) (Some from) (number_from (from + 1) names name) e ∙ ap Some (sym none); there = ap Some ((bytes_eq-Decides other name).0 e) }

behind_front : (other : List ℕ) (names : List (List ℕ)) (from : ℕ) (name : List ℕ) → bytes_eq other name ≡ false → FirstPlace names (from + 1) name → FirstPlace (other ∷ names) from name
behind_front other names from name e f =
    let more : from + 1 + f.place ≡ from + suc f.place = omega arith in
    record { place = suc f.place; found = no_is (bytes_eq other name) (Some from) (number_from (from + 1) names name) e ∙ f.found ∙ ap Some more; there = f.there }

first_place : (names : List (List ℕ)) (from : ℕ) (name : List ℕ) (i : ℕ) → slice_get names i ≡ Some name → FirstPlace names from name
first_place [] from name i h = absurd cc
first_place (other ∷ names) from name zero h = at_front other names from name ((bytes_eq-Decides other name).1 (some_is other name h))
first_place (other ∷ names) from name (suc i) h = by (bytes_eq other name) refl (first_place names (from + 1) name i h)
  where
    by : (b : Bool) → bytes_eq other name ≡ b → FirstPlace names (from + 1) name → FirstPlace (other ∷ names) from name
    by true e f = at_front other names from name e
    by false e f = behind_front other names from name e f

abbrev pub InTable : List (List ℕ) → ℕ → Type 0
InTable names number = number < length names

pub named_takes : (names : List (List ℕ)) → Spells (named_at names) (name_of names) (InTable names)
unfolding named_at
named_takes names text x fits e =
    let len = name_len text in
    let name = take len text in
    let b = bind_some (number_of names name) (λ n. Some (n, drop len text)) x e in
    let s = number_takes names 0 name b.0 (sym (counted names name) ∙ b.1) in
    let place : s.place ≡ b.0 = omega (arith, s.is) in
    let there : slice_get names b.0 ≡ Some name = subst (λ (k : ℕ). slice_get names k ≡ Some name) place s.there in
    let known : name_of names b.0 ≡ name = get_or_from_slice_get names b.0 name [] there in
    let parts : text ≡ name_of names b.0 ++ drop len text = sym (take-append-drop len text) ∙ ap (λ (t : List ℕ). t ++ drop len text) (sym known) in
    subst (λ (y : ℕ × List ℕ). (text ≡ name_of names y.0 ++ y.1) × InTable names y.0) (some_is (b.0, drop len text) x b.2) (parts, slice_get_within names b.0 name there)

pub named_again : (names : List (List ℕ)) → IsTable names → (number : ℕ) (rest : List ℕ) → InTable names number → name_len rest ≡ 0 → named_at names (name_of names number ++ rest) ≡ Some (number, rest)
unfolding named_at
named_again names table number rest known ends =
    let name = name_of names number in
    let text = name ++ rest in
    let there : slice_get names number ≡ Some name = slice_get-get_or names number [] known in
    let len : name_len text ≡ length name = front_is is_name_byte name rest (table.named number name there) ends in
    let front : take (name_len text) text ≡ name = take_at name rest (name_len text) (sym len) in
    let back : drop (name_len text) text ≡ rest = drop_at name rest (name_len text) (sym len) in
    let s = first_place names 0 name number there in
    let same : 0 + s.place ≡ number = omega (arith, table.apart s.place number name s.there there) in
    bound (number_of names (take (name_len text) text)) (λ n. Some (n, drop (name_len text) text)) number (ap (number_of names) front ∙ counted names name ∙ s.found ∙ ap Some same)
    ∙ ap (λ (t : List ℕ). Some (number, t)) back
