-- Steps along a list.
use Rattle.std.proofs.Common.{◌≡◌, ℕ, zero, suc, ◌+◌, ◌-◌, ◌<◌, ◌≤◌, Bool, true, Option, None, is_some, List, [], ◌∷◌, ◌++◌, Some, length, map, take, drop, get_or, set, refl, ap, sym, ◌∙◌, arith}
use Rattle.std.proofs.Math.Seq.{drop-cons}
use Rattle.std.proofs.lemmas.List.{append_assoc}
use Rattle.std.specs.List.{find, remove}
use Rattle.std.specs.Option.{MatchOption}
use Rattle.net_rules.specs.Script.{without_first}
use Rattle.net_rules.specs.declared.flight.Flight.{Flight}
use Rattle.net_rules.specs.Flights.{nearer}

wrote : {X : Type 0} (f : X → X) (xs : List X) (i : ℕ) (d : X) → i < length xs →
    set (map f (take i xs) ++ drop i xs) i (f (get_or (map f (take i xs) ++ drop i xs) i d)) ≡ map f (take (suc i) xs) ++ drop (suc i) xs
wrote f [] i d lt = absurd (omega arith)
wrote f (x ∷ xs) zero d lt = refl
wrote f (x ∷ xs) (suc i) d lt = ap (λ ys. f x ∷ ys) (wrote f xs i d (omega arith))

-- one copy more is nearer
pub one_nearer : {X : Type 0} (row first : List (Flight X)) (i ticks : ℕ) (d : Flight X) → row ≡ map nearer (take i first) ++ drop i first → i < length first →
    ticks ≡ (get_or row i d).ticks - 1 → set row i (record (get_or row i d) { ticks = ticks }) ≡ map nearer (take (i + 1) first) ++ drop (i + 1) first
one_nearer row first i ticks d e lt less =
    let more : i + 1 ≡ suc i = omega arith in
    rw (less, more, e) (wrote nearer first i d lt)

-- what is left from a place on begins with what stands there
begins : {X : Type 0} (xs : List X) (at : ℕ) (x : X) → at < length xs → x ≡ get_or xs at x → drop at xs ≡ x ∷ drop (suc at) xs
begins xs at x within is = drop-cons xs at x within ∙ ap (λ y. y ∷ drop (suc at) xs) (sym is)

found_first : {X : Type 0} (p : X → Bool) (x : X) (xs : List X) → p x ≡ true → find p (x ∷ xs) ≡ Some x
found_first p x xs passes = rw passes refl

left_first : {X : Type 0} (p : X → Bool) (x : X) (xs : List X) → p x ≡ true → without_first p (x ∷ xs) ≡ xs
left_first p x xs passes = rw passes refl

-- what passes is what is found, where what is found from there on is
pub found_there : {X : Type 0} (p : X → Bool) (xs : List X) (at : ℕ) (x : X) → at < length xs → x ≡ get_or xs at x → p x ≡ true →
    find p (drop at xs) ≡ find p xs → find p xs ≡ Some x
found_there p xs at x within is passes e =
    sym e ∙ ap (λ ys. find p ys) (begins xs at x within is) ∙ found_first p x (drop (suc at) xs) passes

-- and what is left without it
pub left_there : {X : Type 0} (p : X → Bool) (xs : List X) (at : ℕ) (x : X) → at < length xs → x ≡ get_or xs at x → p x ≡ true →
    take at xs ++ without_first p (drop at xs) ≡ without_first p xs → remove xs at ≡ without_first p xs
left_there p xs at x within is passes e =
    ap (λ ys. take at xs ++ ys) (sym (ap (λ ys. without_first p ys) (begins xs at x within is) ∙ left_first p x (drop (suc at) xs) passes)) ∙ e

-- where something is found is told by its place
pub is_there : {X : Type 0} (R : ℕ → Type 0) (p : X → Bool) (xs : List X) (n : ℕ) → n ≡ length xs → (o : Option ℕ) →
    MatchOption o (find p xs ≡ None) (λ at. (at < n) × ((d : X) → find p xs ≡ Some (get_or xs at d)) × R at) → is_some o ≡ is_some (find p xs)
is_there R p xs n e None h = sym (ap is_some h)
is_there R p [] n e (Some at) h = absurd (omega (arith, e, h.0))
is_there R p (x ∷ xs) n e (Some at) h = sym (ap is_some (h.1 x))

front_taken : {X : Type 0} (at : ℕ) (xs rest : List X) → at ≤ length xs → take at (take at xs ++ rest) ≡ take at xs
front_taken zero xs rest h = refl
front_taken (suc at) [] rest h = absurd (omega arith)
front_taken (suc at) (x ∷ xs) rest h = ap (λ ys. x ∷ ys) (front_taken at xs rest (omega arith))

front_dropped : {X : Type 0} (at : ℕ) (xs rest : List X) → at ≤ length xs → drop at (take at xs ++ rest) ≡ rest
front_dropped zero xs rest h = refl
front_dropped (suc at) [] rest h = absurd (omega arith)
front_dropped (suc at) (x ∷ xs) rest h = front_dropped at xs rest (omega arith)

-- two lists that are put in at one place, the second one first, stand there one behind the other
pub both_added : {X : Type 0} (at : ℕ) (xs first second ys zs : List X) → at ≤ length xs → ys ≡ take at xs ++ (second ++ drop at xs) →
    zs ≡ take at ys ++ (first ++ drop at ys) → zs ≡ take at xs ++ ((first ++ second) ++ drop at xs)
both_added at xs first second ys zs h e f =
    let t : take at ys ≡ take at xs = ap (λ l. take at l) e ∙ front_taken at xs (second ++ drop at xs) h in
    let d : drop at ys ≡ second ++ drop at xs = ap (λ l. drop at l) e ∙ front_dropped at xs (second ++ drop at xs) h in
    let a : (first ++ second) ++ drop at xs ≡ first ++ (second ++ drop at xs) = append_assoc first second (drop at xs) in
    f ∙ rw (t, d, a) refl
