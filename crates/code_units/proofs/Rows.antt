-- Lists that are made one by one.
use Rattle.std.proofs.Common.{◌≡◌, ◌<◌, ℕ, zero, suc, ◌+◌, List, [], ◌∷◌, ◌++◌, get_or, length, map, take, Result, Ok, Err, Some, refl, sym, ap, ◌∙◌, subst, arith}
use Rattle.std.specs.Prelude.{IfOk, max, option_map, slice_get}
use Rattle.std.proofs.lemmas.List.{map-append, take_more}
use Rattle.std.proofs.lemmas.Option.{slice_get-map, slice_get-get_or}
use Rattle.program_bodies.specs.Matching.{Match}

pub on_if : {A E : Type 0} (r : Result A E) (P Q : A → Type 0) → ((x : A) → P x → Q x) → IfOk r P → IfOk r Q
on_if (Ok x) P Q f h = f x h
on_if (Err e) P Q f h = tt

pub both_maps : {A B C : Type 0} (f : A → B) (g : B → C) (xs : List A) → map g (map f xs) ≡ map (λ x. g (f x)) xs
both_maps f g [] = refl
both_maps {A} {B} {C} f g (x ∷ xs) = ap (λ (l : List C). g (f x) ∷ l) (both_maps f g xs)

-- one thing more has been made
pub made_next : {A X Y : Type 0} (seen : X → Y) (g : A → Y) (xs : List A) (i : ℕ) (x : A) (all new : List X) (o : X) → i < length xs → x ≡ get_or xs i x →
    new ≡ all ++ o ∷ [] → map seen all ≡ map g (take i xs) → seen o ≡ g x → map seen new ≡ map g (take (i + 1) xs)
made_next {A} {X} {Y} seen g xs i x all new o lt is e before own =
    ap (map seen) e
    ∙ map-append seen all (o ∷ [])
    ∙ ap (λ (l : List Y). l ++ seen o ∷ []) before
    ∙ ap (λ (y : Y). map g (take i xs) ++ y ∷ []) own
    ∙ sym (map-append g (take i xs) (x ∷ []))
    ∙ sym (ap (map g) (take_more xs i x lt ∙ ap (λ (v : A). take i xs ++ v ∷ []) (sym is)))

-- what stands at a place of a list, as it is seen
pub seen_at : {A B : Type 0} (view : A → B) (xs : List A) (ys : List B) (i : ℕ) (x : A) → map view xs ≡ ys → i < length xs → x ≡ get_or xs i x →
    slice_get ys i ≡ Some (view x)
seen_at {A} {B} view xs ys i x is lt e =
    ap (λ (l : List B). slice_get l i) (sym is) ∙ slice_get-map view xs i ∙ ap (option_map view) (slice_get-get_or xs i x lt ∙ ap (λ (v : A). Some v) (sym e))

-- what stands at a place, and the part in front of it, one longer
pub next_there : {B : Type 0} (ys : List B) (i : ℕ) → i < length ys → (t : B) × ((slice_get ys i ≡ Some t) × (take (i + 1) ys ≡ take i ys ++ t ∷ []))
next_there [] i lt = absurd (omega (arith, lt))
next_there (y ∷ ys) zero lt = (y, (refl, refl))
next_there {B} (y ∷ ys) (suc i) lt =
    let low : i < length ys = omega (arith, lt) in
    let next : suc i + 1 ≡ suc (i + 1) = omega arith in
    let r = next_there ys i low in
    (r.0, (r.1.0, ap (λ (k : ℕ). take k (y ∷ ys)) next ∙ ap (λ (l : List B). y ∷ l) r.1.1))

-- one thing more has been made, of what stands at a place
pub made_there : {B X Y : Type 0} (seen : X → Y) (g : B → Y) (ys : List B) (i : ℕ) (t : B) (all new : List X) (o : X) → take (i + 1) ys ≡ take i ys ++ t ∷ [] →
    new ≡ all ++ o ∷ [] → map seen all ≡ map g (take i ys) → seen o ≡ g t → map seen new ≡ map g (take (i + 1) ys)
made_there {B} {X} {Y} seen g ys i t all new o longer e before own =
    ap (map seen) e
    ∙ map-append seen all (o ∷ [])
    ∙ ap (λ (l : List Y). l ++ seen o ∷ []) before
    ∙ ap (λ (y : Y). map g (take i ys) ++ y ∷ []) own
    ∙ sym (map-append g (take i ys) (t ∷ []))
    ∙ sym (ap (map g) longer)

-- what goes with the thing at a place
pub match_there : {A B : Type 0} (R : A → B → Type 0) (xs : List A) (ys : List B) (i : ℕ) (x : A) → Match R xs ys → i < length xs → x ≡ get_or xs i x →
    (t : B) × (R x t × (take (i + 1) ys ≡ take i ys ++ t ∷ []))
match_there R [] ys i x all lt is = absurd (omega (arith, lt))
match_there R (a ∷ xs) [] i x all lt is = absurd all
match_there {A} {B} R (a ∷ xs) (y ∷ ys) zero x all lt is = (y, (subst (λ (v : A). R v y) (sym is) all.0, refl))
match_there {A} {B} R (a ∷ xs) (y ∷ ys) (suc i) x all lt is =
    let low : i < length xs = omega (arith, lt) in
    let next : suc i + 1 ≡ suc (i + 1) = omega arith in
    let r = match_there R xs ys i x all.1 low is in
    (r.0, (r.1.0, ap (λ (k : ℕ). take k (y ∷ ys)) next ∙ ap (λ (l : List B). y ∷ l) r.1.1))

pub match_long : {A B : Type 0} (R : A → B → Type 0) (xs : List A) (ys : List B) → Match R xs ys → length xs ≡ length ys
match_long R [] [] all = refl
match_long R [] (y ∷ ys) all = absurd all
match_long R (x ∷ xs) [] all = absurd all
match_long R (x ∷ xs) (y ∷ ys) all = ap (λ (k : ℕ). suc k) (match_long R xs ys all.1)

-- the greatest of what is left, and of what was before
pub max_grouped : (a b c : ℕ) → max (max a b) c ≡ max a (max b c)
max_grouped a b c = omega arith
