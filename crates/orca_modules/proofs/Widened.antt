-- A set of names that is widened by the importer of one of its names.
use Rattle.std.proofs.Common.{◌≡◌, ℕ, ◌<◌, ◌≤◌, ◌+◌, Bool, true, false, not, ◌||◌, List, [], ◌∷◌, length, get_or, take, map, Bor, ◌⊎◌, inl, inr, refl, sym, ap, ◌∙◌, subst, arith}
use Rattle.std.specs.Prelude.{bytes_eq, filter}
use Rattle.std.specs.List.{Contains}
use Rattle.std.specs.BTreeMap.{BTreeMap}
use Rattle.std.proofs.lemmas.Bool.{true≢false}
use Rattle.std.proofs.lemmas.List.{take_more, map-append}
use Rattle.std.proofs.lemmas.List.Elements.{Contains-push_cases}
use Rattle.std.proofs.lemmas.Slice.Eq.{bytes_eq-Decides}
use Rattle.link_rules.specs.Units.{Import}
use Rattle.link_rules.specs.Cycles.{Leads, itself, by_import}
use Rattle.link_rules.proofs.Elements.{cons_cases, same_name}
use Rattle.orca_modules.specs.Seen.{has}
use Rattle.orca_modules.specs.Leading.{AllLead, IsClosed, IsLeading, outside}

-- ---- counts

count_both : {X : Type 0} (p q : X → Bool) → ((x : X) → p x ≡ true → q x ≡ true) → (x : X) (xs : List X) → length (filter p xs) ≤ length (filter q xs) → length (filter p (x ∷ xs)) ≤ length (filter q (x ∷ xs))
count_both p q h x xs rest = by_tests (p x) (q x) refl refl
  where
    by_tests : (a b : Bool) → p x ≡ a → q x ≡ b → length (filter p (x ∷ xs)) ≤ length (filter q (x ∷ xs))
    by_tests true true is was = rw (is, was) (omega (arith, rest))
    by_tests true false is was = absurd (true≢false (sym (h x is) ∙ was))
    by_tests false true is was = rw (is, was) (omega (arith, rest))
    by_tests false false is was = rw (is, was) (omega (arith, rest))

pub count_at_most : {X : Type 0} (p q : X → Bool) → ((x : X) → p x ≡ true → q x ≡ true) → (xs : List X) → length (filter p xs) ≤ length (filter q xs)
count_at_most p q h [] = omega arith
count_at_most p q h (x ∷ xs) = count_both p q h x xs (count_at_most p q h xs)

pub count_less : {X : Type 0} (p q : X → Bool) → ((x : X) → p x ≡ true → q x ≡ true) → (xs : List X) (y : X) → Contains xs y → p y ≡ false → q y ≡ true → length (filter p xs) < length (filter q xs)
count_less p q h [] y c out passes = absurd (omega (arith, c.1))
count_less {X} p q h (x ∷ xs) y c out passes = elim (cons_cases x xs y c) [
  | inl e ↦ first_one (ap p e ∙ out) (ap q e ∙ passes)
  | inr r ↦ later (count_less p q h xs y r out passes) (p x) (q x) refl refl
]
  where
    first_one : p x ≡ false → q x ≡ true → length (filter p (x ∷ xs)) < length (filter q (x ∷ xs))
    first_one is was = let most = count_at_most p q h xs in rw (is, was) (omega (arith, most))

    later : length (filter p xs) < length (filter q xs) → (a b : Bool) → p x ≡ a → q x ≡ b → length (filter p (x ∷ xs)) < length (filter q (x ∷ xs))
    later rest true true is was = rw (is, was) (omega (arith, rest))
    later rest true false is was = absurd (true≢false (sym (h x is) ∙ was))
    later rest false true is was = rw (is, was) (omega (arith, rest))
    later rest false false is was = rw (is, was) (omega (arith, rest))

-- ---- one name more

or_true : (b : Bool) → (b || true) ≡ true
or_true true = refl
or_true false = refl

not_false : (b : Bool) → not b ≡ true → b ≡ false
not_false true e = absurd (true≢false (sym e))
not_false false e = refl

not_of_false : (b : Bool) → b ≡ false → not b ≡ true
not_of_false b e = ap not e

module _ {X : Type 0} (old new : BTreeMap (Bor (List ℕ)) X) (m : List ℕ) (more : (n : List ℕ) → has new n ≡ (bytes_eq m n || has old n)) where
  pub still_there : (n : List ℕ) → has old n ≡ true → has new n ≡ true
  still_there n e = more n ∙ ap (λ (b : Bool). bytes_eq m n || b) e ∙ or_true (bytes_eq m n)

  pub now_there : has new m ≡ true
  now_there = more m ∙ ap (λ (b : Bool). b || has old m) (same_name m)

  pub new_or_old : (n : List ℕ) → has new n ≡ true → (m ≡ n) ⊎ (has old n ≡ true)
  new_or_old n e = by_test (bytes_eq m n) refl
    where
      by_test : (b : Bool) → bytes_eq m n ≡ b → (m ≡ n) ⊎ (has old n ≡ true)
      by_test true is = inl ((bytes_eq-Decides m n).0 is)
      by_test false is = inr (sym (ap (λ (b : Bool). b || has old n) is) ∙ sym (more n) ∙ e)

  fewer_outside : (x : Import) → not (has new x.by) ≡ true → not (has old x.by) ≡ true
  fewer_outside x out = by_test (has old x.by) refl
    where
      by_test : (b : Bool) → has old x.by ≡ b → not (has old x.by) ≡ true
      by_test true is = absurd (true≢false (sym (still_there x.by is) ∙ not_false (has new x.by) out))
      by_test false is = ap not is

  -- the importer of a name that is there
  pub all_lead : (is : List Import) (target : List ℕ) (i : Import) → Contains is i → i.by ≡ m → has old i.name.text ≡ true → AllLead is target old → AllLead is target new
  all_lead is target i in_ by there lead n e = elim (new_or_old n e) [
    | inl s ↦ by_import n target i in_ (by ∙ s) (lead i.name.text there)
    | inr o ↦ lead n o
  ]

  pub less_outside : (is : List Import) (i : Import) → Contains is i → i.by ≡ m → has old m ≡ false → outside new is < outside old is
  less_outside is i in_ by apart =
      count_less (λ (x : Import). not (has new x.by)) (λ (x : Import). not (has old x.by)) fewer_outside is i in_
      (ap (λ (v : List ℕ). not (has new v)) by ∙ ap not now_there) (ap (λ (v : List ℕ). not (has old v)) by ∙ ap not apart)

-- ---- closed sets

pub closed_more : {A X : Type 0} (view : A → Import) (names : BTreeMap (Bor (List ℕ)) X) (xs : List A) (k : ℕ) (d : A) → k < length xs →
    (has names (view (get_or xs k d)).name.text ≡ true → has names (view (get_or xs k d)).by ≡ true) →
    IsClosed (map view (take k xs)) names → IsClosed (map view (take (k + 1) xs)) names
closed_more view names xs k d lt here closed i in_ there =
    let front = ap (map view) (take_more xs k d lt) ∙ map-append view (take k xs) (get_or xs k d ∷ []) in
    elim (Contains-push_cases (map view (take k xs)) (view (get_or xs k d)) i (subst (λ (l : List Import). Contains l i) front in_)) [
      | inl c ↦ closed i c there
      | inr e ↦ subst (λ (v : Import). has names v.by ≡ true) e (here (subst (λ (v : Import). has names v.name.text ≡ true) (sym e) there))
    ]

-- whatever leads to a name of a closed set is in it
pub inside : {X : Type 0} (is : List Import) (names : BTreeMap (Bor (List ℕ)) X) (n target : List ℕ) → IsClosed is names → has names target ≡ true → Leads is n target → has names n ≡ true
inside is names n target closed there (itself _ _ e) = ap (λ (v : List ℕ). has names v) e ∙ there
inside is names n target closed there (by_import _ _ i in_ by rest) = ap (λ (v : List ℕ). has names v) (sym by) ∙ closed i in_ (inside is names i.name.text target closed there rest)

pub leading_to : {X : Type 0} (is : List Import) (names : BTreeMap (Bor (List ℕ)) X) (target : List ℕ) → AllLead is target names → IsClosed is names → has names target ≡ true → IsLeading is target names
leading_to is names target lead closed there n = (lead n, inside is names n target closed there)
