-- Places of names: in two lists, one behind the other, and what stands there.
use Rattle.std.proofs.Common.{◌≡◌, ℕ, ◌<◌, ◌+◌, Bool, true, false, cond, List, [], ◌∷◌, ◌++◌, length, map, find, Option, Some, None, refl, sym, ap, ◌∙◌, arith}
use Rattle.std.specs.Prelude.{unwrap_or, option_map, position}
use Rattle.std.specs.List.{position_from, position_or_len}
use Rattle.std.proofs.lemmas.Iterator.Adapters.{position_from-zero}
use Rattle.type_rules.specs.TopLevel.{or_else}

append_by : {X : Type 0} (t : X → Bool) (i : ℕ) (x : X) (xs ys : List X) (b : Bool) → t x ≡ b →
    position_from t (i + 1) (xs ++ ys) ≡ or_else (position_from t (i + 1) xs) (position_from t (i + 1 + length xs) ys) →
    position_from t i (x ∷ xs ++ ys) ≡ or_else (position_from t i (x ∷ xs)) (position_from t (i + length (x ∷ xs)) ys)
append_by t i x xs ys true is rest = rw is refl
append_by t i x xs ys false is rest = rw is (rest ∙ ap (λ (k : ℕ). or_else (position_from t (i + 1) xs) (position_from t k ys)) (omega arith))

from_append : {X : Type 0} (t : X → Bool) (i : ℕ) (xs ys : List X) →
    position_from t i (xs ++ ys) ≡ or_else (position_from t i xs) (position_from t (i + length xs) ys)
from_append t i [] ys = ap (λ (k : ℕ). position_from t k ys) (omega arith)
from_append t i (x ∷ xs) ys = append_by t i x xs ys (t x) refl (from_append t (i + 1) xs ys)

shift_by : {X : Type 0} (t : X → Bool) (i k : ℕ) (y : X) (ys : List X) (b : Bool) → t y ≡ b →
    position_from t (i + 1 + k) ys ≡ option_map (λ j. j + k) (position_from t (i + 1) ys) →
    position_from t (i + k) (y ∷ ys) ≡ option_map (λ j. j + k) (position_from t i (y ∷ ys))
shift_by t i k y ys true is rest = rw is refl
shift_by t i k y ys false is rest = rw is (ap (λ (j : ℕ). position_from t j ys) (omega arith) ∙ rest)

from_shift : {X : Type 0} (t : X → Bool) (i k : ℕ) (ys : List X) → position_from t (i + k) ys ≡ option_map (λ j. j + k) (position_from t i ys)
from_shift t i k [] = refl
from_shift t i k (y ∷ ys) = shift_by t i k y ys (t y) refl (from_shift t (i + 1) k ys)

-- the first place in two lists, one behind the other
pub placed_behind : {X : Type 0} (t : X → Bool) (xs ys : List X) →
    position t (xs ++ ys) ≡ or_else (position t xs) (option_map (λ j. j + length xs) (position t ys))
placed_behind t xs ys =
    position_from-zero t (xs ++ ys)
    ∙ from_append t 0 xs ys
    ∙ ap (or_else (position_from t 0 xs)) (from_shift t 0 (length xs) ys)
    ∙ ap (λ (o : Option ℕ). or_else o (option_map (λ j. j + length xs) (position_from t 0 ys))) (sym (position_from-zero t xs))
    ∙ ap (λ (o : Option ℕ). or_else (position t xs) (option_map (λ j. j + length xs) o)) (sym (position_from-zero t ys))

mapped_from : {A X : Type 0} (view : A → X) (t : X → Bool) (i : ℕ) (xs : List A) →
    position_from t i (map view xs) ≡ position_from (λ x. t (view x)) i xs
mapped_from view t i [] = refl
mapped_from view t i (x ∷ xs) = ap (cond (t (view x)) (Some i)) (mapped_from view t (i + 1) xs)

pub placed_mapped : {A X : Type 0} (view : A → X) (t : X → Bool) (xs : List A) → position t (map view xs) ≡ position (λ x. t (view x)) xs
placed_mapped view t xs =
    position_from-zero t (map view xs) ∙ mapped_from view t 0 xs ∙ sym (position_from-zero (λ x. t (view x)) xs)

-- ---- behind all where there is none

from_len : {X : Type 0} (t : X → Bool) (i : ℕ) (xs : List X) → unwrap_or (position_from t i xs) (i + length xs) ≡ i + position_or_len t xs
from_len t i [] = refl
from_len t i (x ∷ xs) = len_by (t x) refl (from_len t (i + 1) xs)
  where
    len_by : (b : Bool) → t x ≡ b → unwrap_or (position_from t (i + 1) xs) (i + 1 + length xs) ≡ i + 1 + position_or_len t xs →
        unwrap_or (position_from t i (x ∷ xs)) (i + length (x ∷ xs)) ≡ i + position_or_len t (x ∷ xs)
    len_by true is rest = rw is (omega arith)
    len_by false is rest =
        rw is (ap (λ (k : ℕ). unwrap_or (position_from t (i + 1) xs) k) (omega arith) ∙ rest ∙ omega arith)

pub place_or_all : {X : Type 0} (t : X → Bool) (xs : List X) → unwrap_or (position t xs) (length xs) ≡ position_or_len t xs
place_or_all t xs =
    let long : length xs ≡ 0 + length xs = omega arith in
    let none : 0 + position_or_len t xs ≡ position_or_len t xs = omega arith in
    ap (λ (o : Option ℕ). unwrap_or o (length xs)) (position_from-zero t xs)
    ∙ ap (λ (k : ℕ). unwrap_or (position_from t 0 xs) k) long
    ∙ from_len t 0 xs
    ∙ none

-- ---- what stands at a place

behind_by : {X : Type 0} (t : X → Bool) (i : ℕ) (x : X) (xs : List X) (b : Bool) → t x ≡ b → (position_from t (i + 1) xs ≡ None → find t xs ≡ None) →
    cond b (Some i) (position_from t (i + 1) xs) ≡ None → find t (x ∷ xs) ≡ None
behind_by t i x xs true is rest h = absurd (cc h)
behind_by t i x xs false is rest h = rw is (rest h)

behind : {X : Type 0} (t : X → Bool) (i : ℕ) (xs : List X) → position_from t i xs ≡ None → find t xs ≡ None
behind t i [] e = refl
behind t i (x ∷ xs) e = behind_by t i x xs (t x) refl (behind t (i + 1) xs) e

pub none_there : {X : Type 0} (t : X → Bool) (xs : List X) → position t xs ≡ None → find t xs ≡ None
none_there t xs e = behind t 0 xs (sym (position_from-zero t xs) ∙ e)

there_by : {X : Type 0} (t : X → Bool) (i : ℕ) (x : X) (xs : List X) (k : ℕ) (b : Bool) → t x ≡ b →
    (position_from t (i + 1) xs ≡ Some k → (y : X) × (find t xs ≡ Some y)) → cond b (Some i) (position_from t (i + 1) xs) ≡ Some k →
    (y : X) × (find t (x ∷ xs) ≡ Some y)
there_by t i x xs k true is rest h = (x, rw is refl)
there_by t i x xs k false is rest h = ((rest h).0, rw is ((rest h).1))

there_from : {X : Type 0} (t : X → Bool) (i : ℕ) (xs : List X) (k : ℕ) → position_from t i xs ≡ Some k → (x : X) × (find t xs ≡ Some x)
there_from t i [] k e = absurd (cc e)
there_from t i (x ∷ xs) k e = there_by t i x xs k (t x) refl (there_from t (i + 1) xs k) e

pub one_there : {X : Type 0} (t : X → Bool) (xs : List X) (k : ℕ) → position t xs ≡ Some k → (x : X) × (find t xs ≡ Some x)
one_there t xs k e = there_from t 0 xs k (sym (position_from-zero t xs) ∙ e)

-- a place is one of the list
inside_by : {X : Type 0} (t : X → Bool) (i : ℕ) (x : X) (xs : List X) (k : ℕ) (b : Bool) → t x ≡ b →
    (position_from t (i + 1) xs ≡ Some k → k < i + 1 + length xs) → cond b (Some i) (position_from t (i + 1) xs) ≡ Some k → k < i + length (x ∷ xs)
inside_by t i x xs k true is rest h = let same : i ≡ k = cc h in omega (arith, same)
inside_by t i x xs k false is rest h = let le = rest h in omega (arith, le)

inside_from : {X : Type 0} (t : X → Bool) (i : ℕ) (xs : List X) (k : ℕ) → position_from t i xs ≡ Some k → k < i + length xs
inside_from t i [] k e = absurd (cc e)
inside_from t i (x ∷ xs) k e = inside_by t i x xs k (t x) refl (inside_from t (i + 1) xs k) e

pub place_inside : {X : Type 0} (t : X → Bool) (xs : List X) (k : ℕ) → position t xs ≡ Some k → k < length xs
place_inside t xs k e = let rest = inside_from t 0 xs k (sym (position_from-zero t xs) ∙ e) in omega (arith, rest)
