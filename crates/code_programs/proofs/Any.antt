-- What holds of one element at least, in lists that are made of others.
use Rattle.std.proofs.Common.{ℕ, ◌<◌, List, [], ◌∷◌, ◌++◌, ◌⊎◌, inl, inr, arith}
use Rattle.std.specs.Prelude.{flat_map}
use Rattle.std.specs.List.{sum_by}
use Rattle.std.proofs.lemmas.List.Sums.{sum_by-cons}
use Rattle.stack_code.specs.Sound.{AnyOf}

pub any_weaker : {A : Type 0} (P Q : A → Type 0) → ((x : A) → P x → Q x) → (xs : List A) → AnyOf P xs → AnyOf Q xs
any_weaker P Q f [] h = h
any_weaker P Q f (x ∷ xs) (inl h) = inl (f x h)
any_weaker P Q f (x ∷ xs) (inr h) = inr (any_weaker P Q f xs h)

behind : {A : Type 0} (P : A → Type 0) (x : A) (xs ys : List A) → AnyOf P xs ⊎ AnyOf P ys → AnyOf P (x ∷ xs) ⊎ AnyOf P ys
behind P x xs ys (inl h) = inl (inr h)
behind P x xs ys (inr h) = inr h

pub any_append : {A : Type 0} (P : A → Type 0) (xs ys : List A) → AnyOf P (xs ++ ys) → AnyOf P xs ⊎ AnyOf P ys
any_append P [] ys h = inr h
any_append P (x ∷ xs) ys (inl h) = inl (inl h)
any_append P (x ∷ xs) ys (inr h) = behind P x xs ys (any_append P xs ys h)

in_first : {A : Type 0} (P : A → Type 0) (Q : Type 0) (xs ys : List A) → (AnyOf P ys → Q) → AnyOf P xs ⊎ AnyOf P ys → AnyOf P xs ⊎ Q
in_first P Q xs ys f (inl h) = inl h
in_first P Q xs ys f (inr h) = inr (f h)

pub any_flat : {A B : Type 0} (P : B → Type 0) (f : A → List B) (xs : List A) → AnyOf P (flat_map f xs) → AnyOf (λ x. AnyOf P (f x)) xs
any_flat P f [] h = h
any_flat {A} P f (x ∷ xs) h = in_first P (AnyOf (λ (y : A). AnyOf P (f y)) xs) (f x) (flat_map f xs) (any_flat P f xs) (any_append P (f x) (flat_map f xs) h)

-- of numbers one is above a bound, and so is their sum
pub any_above : {A : Type 0} (f : A → ℕ) (n : ℕ) (xs : List A) → AnyOf (λ x. n < f x) xs → n < sum_by f xs
any_above f n [] h = absurd h
any_above f n (x ∷ xs) (inl h) = let is = sum_by-cons f x xs in omega (arith, is, h)
any_above f n (x ∷ xs) (inr h) =
    let is = sum_by-cons f x xs in
    let above = any_above f n xs h in
    omega (arith, is, above)
