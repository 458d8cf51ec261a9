-- Lists that go together, one more in them, and what they have at a position.
use Rattle.std.proofs.Common.{◌≡◌, ℕ, zero, suc, ◌<◌, ◌+◌, List, [], ◌∷◌, ◌++◌, length, get_or, take, map, sym, ap, subst, ◌∙◌}
use Rattle.std.specs.Prelude.{slice_get}
use Rattle.std.proofs.lemmas.List.{take_more}
use Rattle.program_bodies.specs.Matching.{Both, Match}

match_push : {A B : Type 0} (R : A → B → Type 0) (xs : List A) (ys : List B) (a : A) (b : B) → Match R xs ys → R a b →
    Match R (xs ++ a ∷ []) (ys ++ b ∷ [])
match_push R [] [] a b all own = (own, tt)
match_push R [] (y ∷ ys) a b all own = absurd all
match_push R (x ∷ xs) [] a b all own = absurd all
match_push R (x ∷ xs) (y ∷ ys) a b all own = (all.0, match_push R xs ys a b all.1 own)

-- one more of a list
pub match_next : {B X : Type 0} (R : X → B → Type 0) (xs : List B) (i : ℕ) (x : B) (ys zs : List X) (y : X) → i < length xs →
    x ≡ get_or xs i x → zs ≡ ys ++ y ∷ [] → Match R ys (take i xs) → R y x → Match R zs (take (i + 1) xs)
match_next {B} {X} R xs i x ys zs y lt is e before own =
    subst (λ (l : List X). Match R l (take (i + 1) xs)) (sym e)
    (subst (λ (l : List B). Match R (ys ++ y ∷ []) l) (sym (take_more xs i x lt ∙ ap (λ (v : B). take i xs ++ v ∷ []) (sym is)))
    (match_push R ys (take i xs) y x before own))

pub match_get : {A B : Type 0} (R : A → B → Type 0) (xs : List A) (ys : List B) (i : ℕ) → Match R xs ys → Both R (slice_get xs i) (slice_get ys i)
match_get R [] [] i all = tt
match_get R [] (y ∷ ys) i all = absurd all
match_get R (x ∷ xs) [] i all = absurd all
match_get R (x ∷ xs) (y ∷ ys) zero all = all.0
match_get R (x ∷ xs) (y ∷ ys) (suc i) all = match_get R xs ys i all.1

pub match_map : {A B C : Type 0} (R : C → B → Type 0) (view : A → C) (xs : List A) (ys : List B) → Match (λ x y. R (view x) y) xs ys → Match R (map view xs) ys
match_map R view [] [] all = tt
match_map R view [] (y ∷ ys) all = absurd all
match_map R view (x ∷ xs) [] all = absurd all
match_map R view (x ∷ xs) (y ∷ ys) all = (all.0, match_map R view xs ys all.1)
