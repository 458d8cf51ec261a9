-- Lists that go together, one more in them, and what they have at a place.
use Rattle.std.proofs.Common.{◌≡◌, ℕ, zero, suc, ◌<◌, ◌+◌, List, [], ◌∷◌, ◌++◌, length, get_or, take, map, Option, Some, None, sym, ap, subst, ◌∙◌}
use Rattle.std.specs.Prelude.{slice_get, option_map, option_and_then}
use Rattle.std.specs.Borrow.{Bor}
use Rattle.std.proofs.lemmas.List.{map-append, take_more}
use Rattle.program_bodies.specs.Matching.{Both, Match, or_none}

match_push : {A B : Type 0} (R : A → B → Type 0) (xs : List A) (ys : List B) (a : A) (b : B) → Match R xs ys → R a b →
    Match R (xs ++ a ∷ []) (ys ++ b ∷ [])
match_push R [] [] a b all own = (own, tt)
match_push R [] (y ∷ ys) a b all own = absurd all
match_push R (x ∷ xs) [] a b all own = absurd all
match_push R (x ∷ xs) (y ∷ ys) a b all own = (all.0, match_push R xs ys a b all.1 own)

-- one more of what is seen of a list
pub seen_more : {A B : Type 0} (view : A → B) (xs : List A) (i : ℕ) (x : A) → i < length xs → x ≡ get_or xs i x →
    map view (take (i + 1) xs) ≡ map view (take i xs) ++ view x ∷ []
seen_more {A} view xs i x lt is =
    ap (map view) (take_more xs i x lt ∙ ap (λ (v : A). take i xs ++ v ∷ []) (sym is)) ∙ map-append view (take i xs) (x ∷ [])

pub match_more : {A B X : Type 0} (R : X → B → Type 0) (view : A → B) (xs : List A) (i : ℕ) (x : A) (ys zs : List X) (y : X) → i < length xs →
    x ≡ get_or xs i x → zs ≡ ys ++ y ∷ [] → Match R ys (map view (take i xs)) → R y (view x) → Match R zs (map view (take (i + 1) xs))
match_more {A} {B} {X} R view xs i x ys zs y lt is e before own =
    subst (λ (l : List X). Match R l (map view (take (i + 1) xs))) (sym e)
    (subst (λ (l : List B). Match R (ys ++ y ∷ []) l) (sym (seen_more view xs i x lt is))
    (match_push R ys (map view (take i xs)) y (view x) before own))

match_get : {A B : Type 0} (R : A → B → Type 0) (xs : List A) (ys : List B) (i : ℕ) → Match R xs ys → Both R (slice_get xs i) (slice_get ys i)
match_get R [] [] i all = tt
match_get R [] (y ∷ ys) i all = absurd all
match_get R (x ∷ xs) [] i all = absurd all
match_get R (x ∷ xs) (y ∷ ys) zero all = all.0
match_get R (x ∷ xs) (y ∷ ys) (suc i) all = match_get R xs ys i all.1

joined : {T X Y : Type 0} (R : X → Y → Type 0) (g : T → Option Y) (o : Option (Option X)) (t : Option T) → Both (λ f u. Both R f (g u)) o t →
    Both R (or_none o) (option_and_then g t)
joined R g None None all = tt
joined R g None (Some t) all = absurd all
joined R g (Some o) None all = absurd all
joined R g (Some o) (Some t) all = all

lent : {X Y : Type 0} (R : X → Y → Type 0) (r : Option (Bor X)) (o : Option Y) → Both R (option_map (λ c. c.now) r) o → Both (λ c y. R c.now y) r o
lent R None None all = tt
lent R None (Some y) all = absurd all
lent R (Some c) None all = absurd all
lent R (Some c) (Some y) all = all

-- what a table has for a number, and what it stands for
pub got : {T X Y : Type 0} (R : X → Y → Type 0) (g : T → Option Y) (table : List (Option X)) (tops : List T) (i : ℕ) (r : Option (Bor X)) →
    Match (λ f t. Both R f (g t)) table tops → option_map (λ c. c.now) r ≡ or_none (slice_get table i) →
    Both (λ c y. R c.now y) r (option_and_then g (slice_get tops i))
got {T} {X} {Y} R g table tops i r all e =
    lent R r (option_and_then g (slice_get tops i))
    (subst (λ (o : Option X). Both R o (option_and_then g (slice_get tops i))) (sym e)
    (joined R g (slice_get table i) (slice_get tops i) (match_get (λ f t. Both R f (g t)) table tops i all)))
