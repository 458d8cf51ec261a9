-- Sums over lists that are made of others.
use Rattle.std.proofs.Common.{◌≡◌, ◌≤◌, ℕ, ◌+◌, Bool, true, false, cond, List, [], ◌∷◌, map, refl, sym, ap, ◌∙◌, arith}
use Rattle.std.specs.Prelude.{filter}
use Rattle.std.specs.List.{sum_by}
use Rattle.std.proofs.lemmas.List.Sums.{sum_by-cons}

pub sum_map : {A B : Type 0} (f : B → ℕ) (g : A → B) (xs : List A) → sum_by f (map g xs) ≡ sum_by (λ x. f (g x)) xs
sum_map f g [] = refl
sum_map {A} f g (x ∷ xs) =
    sum_by-cons f (g x) (map g xs)
    ∙ ap (λ (n : ℕ). f (g x) + n) (sum_map f g xs)
    ∙ sym (sum_by-cons (λ (y : A). f (g y)) x xs)

pub sum_below : {A : Type 0} (f g : A → ℕ) → ((x : A) → f x ≤ g x) → (xs : List A) → sum_by f xs ≤ sum_by g xs
sum_below f g h [] = omega arith
sum_below f g h (x ∷ xs) =
    let here = h x in
    let rest = sum_below f g h xs in
    omega (arith, here, rest, sum_by-cons f x xs, sum_by-cons g x xs)

pub sum_none : {A : Type 0} (f : A → ℕ) → ((x : A) → f x ≤ 0) → (xs : List A) → sum_by f xs ≤ 0
sum_none f h [] = omega arith
sum_none f h (x ∷ xs) =
    let here = h x in
    let rest = sum_none f h xs in
    omega (arith, here, rest, sum_by-cons f x xs)

pub sum_both : {A : Type 0} (f g : A → ℕ) (xs : List A) → sum_by (λ x. f x + g x) xs ≡ sum_by f xs + sum_by g xs
sum_both f g [] = refl
sum_both {A} f g (x ∷ xs) =
    let whole : sum_by (λ (y : A). f y + g y) (x ∷ xs) ≡ f x + g x + sum_by (λ (y : A). f y + g y) xs = sum_by-cons (λ (y : A). f y + g y) x xs in
    let rest = sum_both f g xs in
    omega (arith, whole, rest, sum_by-cons f x xs, sum_by-cons g x xs)

-- what passes a test counts, and else 0
sum_first : {A : Type 0} (f : A → ℕ) (x : A) (xs : List A) (b : Bool) → sum_by f (cond b (x ∷ xs) xs) ≡ cond b (f x) 0 + sum_by f xs
sum_first f x xs true = sum_by-cons f x xs
sum_first f x xs false = omega arith

pub sum_passed : {A : Type 0} (f : A → ℕ) (p : A → Bool) (xs : List A) → sum_by f (filter p xs) ≡ sum_by (λ x. cond (p x) (f x) 0) xs
sum_passed f p [] = refl
sum_passed {A} f p (x ∷ xs) =
    sum_first f x (filter p xs) (p x)
    ∙ ap (λ (n : ℕ). cond (p x) (f x) 0 + n) (sum_passed f p xs)
    ∙ sym (sum_by-cons (λ (y : A). cond (p y) (f y) 0) x xs)
