-- Places in a list: where the first is that passes a test, and what stands there.
use Rattle.std.proofs.Common.{◌≡◌, ℕ, ◌<◌, ◌⊎◌, inl, inr, Bool, true, false, cond, zero, suc, ◌≤◌, List, [], ◌∷◌, ◌++◌, length, Option, Some, None, refl, sym, ap, ◌∙◌, arith}
use Rattle.std.specs.Prelude.{slice_get, position, get_or, filter}
use Rattle.std.specs.List.{Contains, position_or_len}
use Rattle.std.proofs.lemmas.Bool.{lt-ltb, le-ltb, ltb-true, ltb-false, true≢false}
use Rattle.std.proofs.lemmas.List.Quantifiers.{position-Some}
use Rattle.std.proofs.lemmas.List.Sums.{fails_before_first, position_or_len_is}
use Rattle.std.proofs.lemmas.Option.{get_or_from_slice_get, slice_get-get_or, slice_get_within}
use Rattle.std.specs.Prelude.{nat_lt}

pub found_at : {X : Type 0} (p : X → Bool) (xs : List X) (i : ℕ) → position p xs ≡ Some i → (x : X) × (slice_get xs i ≡ Some x) × (p x ≡ true)
found_at p [] i is = absurd cc
found_at p (x ∷ xs) i is = let h = position-Some p (x ∷ xs) i x is in (get_or (x ∷ xs) i x, slice_get-get_or (x ∷ xs) i x h.0, h.1)

-- the first that passes stands here
pub place_is : {X : Type 0} (p : X → Bool) (xs : List X) (i : ℕ) (x : X) → slice_get xs i ≡ Some x → p x ≡ true →
    ((k : ℕ) (y : X) → k < i → slice_get xs k ≡ Some y → p y ≡ false) → position p xs ≡ Some i
place_is p xs i x at passes earlier =
    let less = slice_get_within xs i x at in
    let is : position_or_len p xs ≡ i =
    position_or_len_is p xs i x (omega (arith, less)) (λ k l. earlier k (get_or xs k x) l (slice_get-get_or xs k x (omega (arith, l, less))))
    (λ l. ap p (get_or_from_slice_get xs i x x at) ∙ passes) in
    ap (λ n. cond (nat_lt n (length xs)) (Some n) None) is ∙ ap (λ b. cond b (Some i) None) (lt-ltb i (length xs) less)

-- none passes
pub place_none : {X : Type 0} (p : X → Bool) (xs : List X) → ((k : ℕ) (y : X) → slice_get xs k ≡ Some y → p y ≡ false) → position p xs ≡ None
place_none p [] none = refl
place_none p (x ∷ xs) none =
    let n : ℕ = length (x ∷ xs) in
    let is : position_or_len p (x ∷ xs) ≡ n =
    position_or_len_is p (x ∷ xs) n x (omega arith) (λ k l. none k (get_or (x ∷ xs) k x) (slice_get-get_or (x ∷ xs) k x l)) (λ l. absurd (omega (arith, l))) in
    ap (λ m. cond (nat_lt m n) (Some m) None) is ∙ ap (λ b. cond b (Some n) None) (le-ltb n n (omega arith))

pub given : {X : Type 0} → X → Option X → X
given x None = x
given x (Some y) = y

pub same_some : {X : Type 0} (x y : X) → Some x ≡ Some y → x ≡ y
unfolding given
same_some x y is = ap (given x) is

-- one of two numbers is the less, or they are one
pub order : (i j : ℕ) → (i < j) ⊎ ((j < i) ⊎ (i ≡ j))
order i j = by (nat_lt i j) refl (nat_lt j i) refl
  where
    by : (b : Bool) → nat_lt i j ≡ b → (d : Bool) → nat_lt j i ≡ d → (i < j) ⊎ ((j < i) ⊎ (i ≡ j))
    by true first d second = inl (ltb-true i j first)
    by false first true second = inr (inl (ltb-true j i second))
    by false first false second = let below = ltb-false i j first in let above = ltb-false j i second in inr (inr (omega (arith, below, above)))

-- ---- places

-- an element stands somewhere
abbrev pub Place : {X : Type 0} → List X → X → Type 0
Place xs x = (i : ℕ) × (slice_get xs i ≡ Some x)

pub place_left : {X : Type 0} (xs ys : List X) (x : X) → Place xs x → Place (xs ++ ys) x
place_left [] ys x p = absurd (let e = p.1 in cc)
place_left (y ∷ xs) ys x (zero, at) = (zero, at)
place_left (y ∷ xs) ys x (suc i, at) = let p = place_left xs ys x (i, at) in (suc p.0, p.1)

pub place_right : {X : Type 0} (xs ys : List X) (x : X) → Place ys x → Place (xs ++ ys) x
place_right [] ys x p = p
place_right (y ∷ xs) ys x p = let q = place_right xs ys x p in (suc q.0, q.1)

pub place_of : {X : Type 0} (xs : List X) (x : X) → Contains xs x → Place xs x
place_of xs x in_ = (in_.0, slice_get-get_or xs in_.0 x in_.1 ∙ ap (λ y. Some y) in_.2)

-- one that passes stands among those that do
pub place_kept : {X : Type 0} (p : X → Bool) (xs : List X) (x : X) → Place xs x → p x ≡ true → Place (filter p xs) x
place_kept p [] x place passes = absurd (let e = place.1 in cc)
place_kept p (y ∷ xs) x (zero, at) passes =
    let same : y ≡ x = same_some y x at in
    (zero, ap (λ b. slice_get (cond b (y ∷ filter p xs) (filter p xs)) zero) (ap p same ∙ passes) ∙ at)
place_kept p (y ∷ xs) x (suc i, at) passes = by (p y) (place_kept p xs x (i, at) passes)
  where
    by : (b : Bool) → Place (filter p xs) x → Place (cond b (y ∷ filter p xs) (filter p xs)) x
    by true q = (suc q.0, q.1)
    by false q = q

pub kept_place : {X : Type 0} (p : X → Bool) (xs : List X) (i : ℕ) (x : X) → slice_get (filter p xs) i ≡ Some x → Place xs x × (p x ≡ true)
kept_place p [] i x at = absurd cc
kept_place p (y ∷ xs) i x at = by (p y) refl i at (λ j e. kept_place p xs j x e)
  where
    by : (b : Bool) → p y ≡ b → (j : ℕ) → slice_get (cond b (y ∷ filter p xs) (filter p xs)) j ≡ Some x →
        ((k : ℕ) → slice_get (filter p xs) k ≡ Some x → Place xs x × (p x ≡ true)) → Place (y ∷ xs) x × (p x ≡ true)
    by true is zero e rest = ((zero, e), ap p (sym (same_some y x e)) ∙ is)
    by true is (suc j) e rest = let q = rest j e in ((suc q.0.0, q.0.1), q.1)
    by false is j e rest = let q = rest j e in ((suc q.0.0, q.0.1), q.1)

-- where one passes there is a first
pub some_place : {X : Type 0} (p : X → Bool) (xs : List X) (i : ℕ) (x : X) → slice_get xs i ≡ Some x → p x ≡ true → (j : ℕ) × (position p xs ≡ Some j)
some_place p xs i x at passes =
    let n : ℕ = position_or_len p xs in
    let less = slice_get_within xs i x at in
    let before : n ≤ i = by (order i n) in
    (n, ap (λ b. cond b (Some n) None) (lt-ltb n (length xs) (omega (arith, less, before))))
  where
    by : (i < position_or_len p xs) ⊎ ((position_or_len p xs < i) ⊎ (i ≡ position_or_len p xs)) → position_or_len p xs ≤ i
    by (inl l) = absurd (true≢false (sym (ap p (get_or_from_slice_get xs i x x at) ∙ passes) ∙ fails_before_first p xs i x l))
    by (inr (inl l)) = omega (arith, l)
    by (inr (inr e)) = omega (arith, e)
