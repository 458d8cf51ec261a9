-- Numbers in lists, and what passes for all or for some of them.
use Rattle.std.proofs.Common.{◌≡◌, ℕ, zero, suc, ◌<◌, ◌≤◌, Bool, true, false, not, ◌||◌, cond, List, [], ◌∷◌, length, ◌⊎◌, inl, inr, refl, sym, ap, ◌∙◌, subst, arith}
use Rattle.std.specs.Prelude.{◌==◌, filter}
use Rattle.std.specs.List.{list_all, list_any}
use Rattle.std.proofs.lemmas.Bool.{cases_eq, eq-eqb, eqb-true, true≢false}
use Rattle.link_rules.proofs.Truth.{and_first, and_second, or_left, or_right}
use Rattle.type_cycles.specs.Leading.{is_in}

pub all_in : (p : ℕ → Bool) (js : List ℕ) (k : ℕ) → list_all p js ≡ true → is_in k js ≡ true → p k ≡ true
all_in p [] k a h = absurd (true≢false (sym h))
all_in p (j ∷ js) k a h = by_test (j == k) refl h (all_in p js k (and_second (p j) (list_all p js) a))
  where
    by_test : (b : Bool) → (j == k) ≡ b → (b || is_in k js) ≡ true → (is_in k js ≡ true → p k ≡ true) → p k ≡ true
    by_test true is t rest = subst (λ (v : ℕ). p v ≡ true) (eqb-true j k is) (and_first (p j) (list_all p js) a)
    by_test false is t rest = rest t

pub some_in : (p : ℕ → Bool) (js : List ℕ) → list_any p js ≡ true → (k : ℕ) × (is_in k js ≡ true) × (p k ≡ true)
some_in p [] h = absurd (true≢false (sym h))
some_in p (j ∷ js) h = by_test (p j) refl h (some_in p js)
  where
    by_test : (b : Bool) → p j ≡ b → (b || list_any p js) ≡ true → (list_any p js ≡ true → (k : ℕ) × (is_in k js ≡ true) × (p k ≡ true)) →
        (k : ℕ) × (is_in k (j ∷ js) ≡ true) × (p k ≡ true)
    by_test true is t rest = (j, or_left (j == j) (is_in j js) (eq-eqb j j refl), is)
    by_test false is t rest = let r = rest t in (r.0, or_right (j == r.0) (is_in r.0 js) r.1, r.2)

pub any_in : (p : ℕ → Bool) (js : List ℕ) (k : ℕ) → is_in k js ≡ true → p k ≡ true → list_any p js ≡ true
any_in p [] k h e = absurd (true≢false (sym h))
any_in p (j ∷ js) k h e = by_test (j == k) refl h (λ t. any_in p js k t e)
  where
    by_test : (b : Bool) → (j == k) ≡ b → (b || is_in k js) ≡ true → (is_in k js ≡ true → list_any p js ≡ true) → (p j || list_any p js) ≡ true
    by_test true is t rest = or_left (p j) (list_any p js) (ap p (eqb-true j k is) ∙ e)
    by_test false is t rest = or_right (p j) (list_any p js) (rest t)

-- ---- the others

abbrev pub others : ℕ → List ℕ → List ℕ
others c ns = filter (λ n. not (n == c)) ns

pub in_others : (c : ℕ) (ns : List ℕ) (x : ℕ) → (x == c) ≡ false → is_in x ns ≡ true → is_in x (others c ns) ≡ true
in_others c [] x apart h = absurd (true≢false (sym h))
in_others c (n ∷ ns) x apart h = by_test (n == c) (n == x) refl refl h (in_others c ns x apart)
  where
    by_test : (b d : Bool) → (n == c) ≡ b → (n == x) ≡ d → (d || is_in x ns) ≡ true → (is_in x ns ≡ true → is_in x (others c ns) ≡ true) →
        is_in x (cond (not b) (n ∷ others c ns) (others c ns)) ≡ true
    by_test true true is same t rest =
        absurd (true≢false (sym is ∙ ap (λ (v : ℕ). v == c) (eqb-true n x same) ∙ apart))
    by_test true false is same t rest = rest t
    by_test false true is same t rest = or_left (n == x) (is_in x (others c ns)) same
    by_test false false is same t rest = or_right (n == x) (is_in x (others c ns)) (rest t)

others_at_most : (c : ℕ) (ns : List ℕ) → length (others c ns) ≤ length ns
others_at_most c [] = omega arith
others_at_most c (n ∷ ns) = by_test (n == c) (others_at_most c ns)
  where
    by_test : (b : Bool) → length (others c ns) ≤ length ns → length (cond (not b) (n ∷ others c ns) (others c ns)) ≤ length (n ∷ ns)
    by_test true rest = omega (arith, rest)
    by_test false rest = omega (arith, rest)

pub fewer_others : (c : ℕ) (ns : List ℕ) → is_in c ns ≡ true → length (others c ns) < length ns
fewer_others c [] h = absurd (true≢false (sym h))
fewer_others c (n ∷ ns) h = by_test (n == c) h (others_at_most c ns) (fewer_others c ns)
  where
    by_test : (b : Bool) → (b || is_in c ns) ≡ true → length (others c ns) ≤ length ns → (is_in c ns ≡ true → length (others c ns) < length ns) →
        length (cond (not b) (n ∷ others c ns) (others c ns)) < length (n ∷ ns)
    by_test true t most rest = omega (arith, most)
    by_test false t most rest = let less = rest t in omega (arith, less)

-- ---- all numbers below one

abbrev pub below : ℕ → List ℕ
below zero = []
below (suc n) = n ∷ below n

pub length-below : (n : ℕ) → length (below n) ≡ n
length-below zero = refl
length-below (suc n) = ap (λ (k : ℕ). suc k) (length-below n)

pub in_below : (n i : ℕ) → i < n → is_in i (below n) ≡ true
in_below zero i lt = absurd (omega (arith, lt))
in_below (suc n) i lt = by_place (cases_eq n i) (in_below n i)
  where
    by_place : (n ≡ i) ⊎ (n ≡ i → ⊥) → (i < n → is_in i (below n) ≡ true) → is_in i (below (suc n)) ≡ true
    by_place (inl e) rest = or_left (n == i) (is_in i (below n)) (eq-eqb n i e)
    by_place (inr apart) rest = or_right (n == i) (is_in i (below n)) (rest (omega (arith, lt, apart)))
