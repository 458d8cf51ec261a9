-- Lists of which one item is another, and one item more of a list.
use Rattle.std.proofs.Common.{◌≡◌, ◌⊎◌, inl, inr, ⊎_elim, ℕ, zero, suc, List, [], ◌∷◌, ◌++◌, Some, slice_get, slice_set, take, ap, refl, arith, length, map}

pub set_length : {A : Type 0} (xs : List A) (k : ℕ) (x : A) → length (slice_set xs k x) ≡ length xs
set_length [] k x = refl
set_length (y ∷ xs) zero x = refl
set_length (y ∷ xs) (suc k) x = ap suc (set_length xs k x)

-- what stands where in it
pub got_set : {A : Type 0} (xs : List A) (k j : ℕ) (x y : A) → slice_get (slice_set xs k x) j ≡ Some y → ((j ≡ k) × (x ≡ y)) ⊎ ((j ≡ k → ⊥) × (slice_get xs j ≡ Some y))
got_set [] k j x y is = absurd (cc is)
got_set (z ∷ xs) zero zero x y is = let e : x ≡ y = cc in inl (refl, e)
got_set (z ∷ xs) zero (suc j) x y is = inr ((λ e. absurd (omega (arith, e))), is)
got_set (z ∷ xs) (suc k) zero x y is = inr ((λ e. absurd (omega (arith, e))), is)
got_set (z ∷ xs) (suc k) (suc j) x y is =
    ⊎_elim (λ (own : (j ≡ k) × (x ≡ y)). inl (omega (arith, own.0), own.1)) (λ (other : (j ≡ k → ⊥) × (slice_get xs j ≡ Some y)). inr ((λ e. other.0 (omega (arith, e))), other.1)) (got_set xs k j x y is)

pub map_set : {A B : Type 0} (f : A → B) (xs : List A) (k : ℕ) (x : A) → map f (slice_set xs k x) ≡ slice_set (map f xs) k (f x)
map_set f [] k x = refl
map_set f (y ∷ xs) zero x = refl
map_set {A} {B} f (y ∷ xs) (suc k) x = ap (λ (l : List B). f y ∷ l) (map_set f xs k x)

-- one item more of a list
pub take_next : {A : Type 0} (xs : List A) (k : ℕ) (x : A) → slice_get xs k ≡ Some x → take (suc k) xs ≡ take k xs ++ x ∷ []
take_next [] k x at = absurd (cc at)
take_next {A} (y ∷ xs) zero x at = let e : y ≡ x = cc in ap (λ (a : A). a ∷ []) e
take_next {A} (y ∷ xs) (suc k) x at = ap (λ (l : List A). y ∷ l) (take_next xs k x at)
