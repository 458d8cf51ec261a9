-- Elements of lists that are made of others.
use Rattle.std.proofs.Common.{◌≡◌, ℕ, zero, suc, ◌<◌, ◌≤◌, Bool, true, false, not, cond, List, [], ◌∷◌, length, get_or, map, ◌⊎◌, inl, inr, refl, sym, ap, ◌∙◌, subst, arith}
use Rattle.std.specs.Prelude.{bytes_eq, filter, flat_map}
use Rattle.std.specs.List.{Contains}
use Rattle.std.proofs.lemmas.Bool.{true≢false}
use Rattle.std.proofs.lemmas.Slice.Eq.{bytes_eq-Decides}
use Rattle.std.proofs.lemmas.List.Elements.{Contains-append_left, Contains-append_right, Contains-append_cases}

none_in : {X : Type 0} (x : X) → Contains [] x → ⊥
none_in x c = omega (arith, c.1)

pub here : {X : Type 0} (x : X) (xs : List X) → Contains (x ∷ xs) x
here x xs = (0, omega arith, refl)

pub there : {X : Type 0} (y : X) (xs : List X) (x : X) → Contains xs x → Contains (y ∷ xs) x
there y xs x c = Contains-append_right (y ∷ []) xs x c

pub cons_cases : {X : Type 0} (y : X) (xs : List X) (x : X) → Contains (y ∷ xs) x → (y ≡ x) ⊎ Contains xs x
cons_cases {X} y xs x c = by_index c.0 c.1 c.2
  where
    by_index : (k : ℕ) → k < length (y ∷ xs) → get_or (y ∷ xs) k x ≡ x → (y ≡ x) ⊎ Contains xs x
    by_index zero lt at = inl at
    by_index (suc k) lt at = inr (k, omega arith, at)

pub in_map : {X Y : Type 0} (f : X → Y) (xs : List X) (x : X) → Contains xs x → Contains (map f xs) (f x)
in_map f [] x c = absurd (none_in x c)
in_map {X} {Y} f (y ∷ xs) x c =
    elim (cons_cases y xs x c) [
      | inl e ↦ subst (λ (v : X). Contains (f y ∷ map f xs) (f v)) e (here (f y) (map f xs))
      | inr r ↦ there (f y) (map f xs) (f x) (in_map f xs x r)
    ]

pub from_map : {X Y : Type 0} (f : X → Y) (xs : List X) (y : Y) → Contains (map f xs) y → (x : X) × Contains xs x × (f x ≡ y)
from_map f [] y c = absurd (none_in y c)
from_map f (z ∷ xs) y c =
    elim (cons_cases (f z) (map f xs) y c) [
      | inl e ↦ (z, here z xs, e)
      | inr r ↦ let o = from_map f xs y r in (o.0, there z xs o.0 o.1, o.2)
    ]

pub in_flat_map : {X Y : Type 0} (f : X → List Y) (xs : List X) (x : X) (y : Y) → Contains xs x → Contains (f x) y → Contains (flat_map f xs) y
in_flat_map f [] x y c d = absurd (none_in x c)
in_flat_map {X} {Y} f (z ∷ xs) x y c d =
    elim (cons_cases z xs x c) [
      | inl e ↦ Contains-append_left (f z) (flat_map f xs) y (subst (λ (v : X). Contains (f v) y) (sym e) d)
      | inr r ↦ Contains-append_right (f z) (flat_map f xs) y (in_flat_map f xs x y r d)
    ]

pub from_flat_map : {X Y : Type 0} (f : X → List Y) (xs : List X) (y : Y) → Contains (flat_map f xs) y → (x : X) × Contains xs x × Contains (f x) y
from_flat_map f [] y c = absurd (none_in y c)
from_flat_map f (z ∷ xs) y c =
    elim (Contains-append_cases (f z) (flat_map f xs) y c) [
      | inl h ↦ (z, here z xs, h)
      | inr r ↦ let o = from_flat_map f xs y r in (o.0, there z xs o.0 o.1, o.2)
    ]

-- the names that are others than this one
abbrev pub others : List ℕ → List (List ℕ) → List (List ℕ)
others c ns = filter (λ n. not (bytes_eq n c)) ns

pub same_name : (a : List ℕ) → bytes_eq a a ≡ true
same_name a = (bytes_eq-Decides a a).1 refl

pub in_others : (c : List ℕ) (ns : List (List ℕ)) (x : List ℕ) → bytes_eq x c ≡ false → Contains ns x → Contains (others c ns) x
in_others c [] x apart h = absurd (none_in x h)
in_others c (n ∷ ns) x apart h = by_test (bytes_eq n c) refl (cons_cases n ns x h) (in_others c ns x apart)
  where
    by_test : (b : Bool) → bytes_eq n c ≡ b → (n ≡ x) ⊎ Contains ns x → (Contains ns x → Contains (others c ns) x) → Contains (others c (n ∷ ns)) x
    by_test true is (inl e) rest = absurd (true≢false (sym is ∙ ap (λ (v : List ℕ). bytes_eq v c) e ∙ apart))
    by_test true is (inr r) rest = rw is (rest r)
    by_test false is (inl e) rest = rw is (subst (λ (v : List ℕ). Contains (n ∷ others c ns) v) e (here n (others c ns)))
    by_test false is (inr r) rest = rw is (there n (others c ns) x (rest r))

others_at_most : (c : List ℕ) (ns : List (List ℕ)) → length (others c ns) ≤ length ns
others_at_most c [] = omega arith
others_at_most c (n ∷ ns) = by_test (bytes_eq n c) refl (others_at_most c ns)
  where
    by_test : (b : Bool) → bytes_eq n c ≡ b → length (others c ns) ≤ length ns → length (others c (n ∷ ns)) ≤ length (n ∷ ns)
    by_test true is rest = rw is (omega (arith, rest))
    by_test false is rest = rw is (omega (arith, rest))

pub fewer_others : (c : List ℕ) (ns : List (List ℕ)) → Contains ns c → length (others c ns) < length ns
fewer_others c [] h = absurd (none_in c h)
fewer_others c (n ∷ ns) h = by_test (bytes_eq n c) refl (cons_cases n ns c h) (others_at_most c ns) (fewer_others c ns)
  where
    by_test : (b : Bool) → bytes_eq n c ≡ b → (n ≡ c) ⊎ Contains ns c → length (others c ns) ≤ length ns → (Contains ns c → length (others c ns) < length ns) →
        length (others c (n ∷ ns)) < length (n ∷ ns)
    by_test true is at most rest = rw is (omega (arith, most))
    by_test false is (inl e) most rest = absurd (true≢false (sym (ap (λ (v : List ℕ). bytes_eq v c) e ∙ same_name c) ∙ is))
    by_test false is (inr r) most rest = let less = rest r in rw is (omega (arith, less))

-- a filter that nothing passes
pub none_left : {X : Type 0} (p : X → Bool) (xs : List X) → ((x : X) → Contains xs x → p x ≡ false) → filter p xs ≡ []
none_left p [] h = refl
none_left {X} p (x ∷ xs) h =
    ap (λ (b : Bool). cond b (x ∷ filter p xs) (filter p xs)) (h x (here x xs)) ∙ none_left p xs (λ y c. h y (there x xs y c))
