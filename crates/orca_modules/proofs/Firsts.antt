-- The first breach of a rule, as a loop over all that it judges finds it.
use Rattle.std.proofs.Common.{◌≡◌, ℕ, ◌<◌, ◌+◌, Bool, true, false, cond, List, ◌∷◌, length, get_or, drop, map, Some, ap, ◌∙◌}
use Rattle.std.specs.Prelude.{filter}
use Rattle.std.proofs.lemmas.List.{drop_more}
use Rattle.link_rules.specs.Rules.{first}

module _ {A X : Type 0} (view : A → X) (p : X → Bool) (xs : List A) where
  -- none of those that were passed
  abbrev pub NonePassed : ℕ → Type 0
  NonePassed i = filter p (map view xs) ≡ filter p (map view (drop i xs))

  next_part : (i : ℕ) (d : A) → i < length xs → filter p (map view (drop i xs)) ≡ filter p (view (get_or xs i d) ∷ map view (drop (i + 1) xs))
  next_part i d lt = ap (λ (l : List A). filter p (map view l)) (drop_more xs i d lt)

  pub none_more : (i : ℕ) (d : A) → i < length xs → p (view (get_or xs i d)) ≡ false → NonePassed i → NonePassed (i + 1)
  none_more i d lt out h =
      h ∙ next_part i d lt
      ∙ ap (λ (b : Bool). cond b (view (get_or xs i d) ∷ filter p (map view (drop (i + 1) xs))) (filter p (map view (drop (i + 1) xs)))) out

  pub first_one : {E : Type 0} (f : X → E) (i : ℕ) (d : A) → i < length xs → p (view (get_or xs i d)) ≡ true → NonePassed i →
      first (map f (filter p (map view xs))) ≡ Some (f (view (get_or xs i d)))
  first_one f i d lt passes h =
      ap (λ (l : List X). first (map f l))
      (h ∙ next_part i d lt
      ∙ ap (λ (b : Bool). cond b (view (get_or xs i d) ∷ filter p (map view (drop (i + 1) xs))) (filter p (map view (drop (i + 1) xs)))) passes)
