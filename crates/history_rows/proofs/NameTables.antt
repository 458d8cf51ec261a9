-- Tables of names that are computed.
use Rattle.std.proofs.Common.{◌≡◌, ℕ, zero, suc, ◌≤◌, ◌^◌, Bool, true, false, List, [], ◌∷◌, ◌++◌, length, Some, None, refl, sym, ap, subst, ◌∙◌, arith}
use Rattle.std.specs.Prelude.{◌&&◌, not, slice_get}
use Rattle.std.specs.List.{AllByRecursion, list_all}
use Rattle.std.specs.Str.{bytes_eq}
use Rattle.std.proofs.lemmas.Slice.Eq.{bytes_eq-Decides}
use Rattle.history_text.specs.Sound.{IsTable, is_name_byte}
use Rattle.history_text.specs.Spelling.{operations_in}
use Rattle.history_text.specs.declared.names.Operations.{Operations}

some_is : {A : Type 0} (x y : A) → Some x ≡ Some y → x ≡ y
some_is x y e = cc

none_is : {A : Type 0} (x : A) → None ≡ Some x → ⊥
none_is x e = cc

both : (a b : Bool) → (a && b) ≡ true → (a ≡ true) × (b ≡ true)
both true b h = (refl, h)
both false b h = absurd cc

-- names have their bytes alone, and each differs from those behind it
abbrev pub are_named : List (List ℕ) → Bool
are_named [] = true
are_named (a ∷ names) = list_all is_name_byte a && are_named names

abbrev pub is_new : List ℕ → List (List ℕ) → Bool
is_new a [] = true
is_new a (b ∷ names) = not (bytes_eq a b) && is_new a names

abbrev pub are_apart : List (List ℕ) → Bool
are_apart [] = true
are_apart (a ∷ names) = is_new a names && are_apart names

named_in : (names : List (List ℕ)) → are_named names ≡ true → (number : ℕ) (name : List ℕ) → slice_get names number ≡ Some name → list_all is_name_byte name ≡ true
named_in [] all number name h = absurd (none_is name h)
named_in (a ∷ names) all zero name h = subst (λ (n : List ℕ). list_all is_name_byte n ≡ true) (some_is a name h) (both (list_all is_name_byte a) (are_named names) all).0
named_in (a ∷ names) all (suc number) name h = named_in names (both (list_all is_name_byte a) (are_named names) all).1 number name h

not_same : (a : List ℕ) → not (bytes_eq a a) ≡ true → ⊥
not_same a h = by (bytes_eq a a) ((bytes_eq-Decides a a).1 refl) h
  where
    by : (b : Bool) → b ≡ true → not b ≡ true → ⊥
    by true e h = absurd cc
    by false e h = absurd cc

not_in : (a : List ℕ) (names : List (List ℕ)) → is_new a names ≡ true → (number : ℕ) → slice_get names number ≡ Some a → ⊥
not_in a [] new number h = none_is a h
not_in a (b ∷ names) new zero h =
    not_same a (subst (λ (n : List ℕ). not (bytes_eq a n) ≡ true) (some_is b a h) (both (not (bytes_eq a b)) (is_new a names) new).0)
not_in a (b ∷ names) new (suc number) h = not_in a names (both (not (bytes_eq a b)) (is_new a names) new).1 number h

apart_in : (names : List (List ℕ)) → are_apart names ≡ true → (one two : ℕ) (name : List ℕ) → slice_get names one ≡ Some name → slice_get names two ≡ Some name → one ≡ two
apart_in [] apart one two name h k = absurd (none_is name h)
apart_in (a ∷ names) apart zero zero name h k = refl
apart_in (a ∷ names) apart zero (suc two) name h k =
    absurd (not_in a names (both (is_new a names) (are_apart names) apart).0 two (k ∙ ap Some (sym (some_is a name h))))
apart_in (a ∷ names) apart (suc one) zero name h k =
    absurd (not_in a names (both (is_new a names) (are_apart names) apart).0 one (h ∙ ap Some (sym (some_is a name k))))
apart_in (a ∷ names) apart (suc one) (suc two) name h k = ap suc (apart_in names (both (is_new a names) (are_apart names) apart).1 one two name h k)

pub table : (names : List (List ℕ)) → are_named names ≡ true → are_apart names ≡ true → length names ≤ 2 ^ 16 → IsTable names
table names named apart few = record { named = named_in names named; apart = apart_in names apart; few = few }

pub each_table : (all : List Operations) → AllByRecursion (λ o. IsTable o.names.items) all → (kind : ℕ) → IsTable (operations_in (slice_get all kind))
each_table [] tables kind = table [] refl refl (omega arith)
each_table (o ∷ all) tables zero = tables.0
each_table (o ∷ all) tables (suc kind) = each_table all tables.1 kind

-- three that were put one by one
pub three_tables : (none one two all : List Operations) (a b c : Operations) → none ≡ [] → one ≡ none ++ a ∷ [] → two ≡ one ++ b ∷ [] → all ≡ two ++ c ∷ [] →
    IsTable a.names.items → IsTable b.names.items → IsTable c.names.items → (kind : ℕ) → IsTable (operations_in (slice_get all kind))
three_tables none one two all a b c empty first second third x y z kind =
    let is : all ≡ a ∷ b ∷ c ∷ [] =
    third ∙ ap (λ (os : List Operations). os ++ c ∷ []) (second ∙ ap (λ (os : List Operations). os ++ b ∷ []) (first ∙ ap (λ (os : List Operations). os ++ a ∷ []) empty)) in
    subst (λ (os : List Operations). IsTable (operations_in (slice_get os kind))) (sym is) (each_table (a ∷ b ∷ c ∷ []) (x, (y, (z, tt))) kind)
