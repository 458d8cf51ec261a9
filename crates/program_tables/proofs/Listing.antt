-- Lists that grow: of what passes a test, of places of names, and of a function's values.
use Rattle.std.proofs.Common.{◌≡◌, ℕ, zero, suc, ◌<◌, ◌≤◌, ◌+◌, Bool, cond, List, [], ◌∷◌, ◌++◌, length, get_or, take, map, filter, Option, Some, None, refl, sym, ap, ◌∙◌, arith}
use Rattle.std.specs.Prelude.{slice_get, unwrap_or, position}
use Rattle.std.specs.List.{position_from}
use Rattle.std.proofs.Math.ListN.{get_or-map}
use Rattle.std.proofs.lemmas.List.{take_more, length-map}
use Rattle.std.proofs.lemmas.List.Elements.{filter-append}
use Rattle.std.proofs.lemmas.Iterator.Adapters.{position_from-zero}
use Rattle.type_rules.specs.TopLevel.{or_else}
use Rattle.type_forms.proofs.Positions.{position_more, position_push}
use Rattle.type_tables.specs.Entries.{or_other}

-- ---- a function's values

-- the list has a function's value at each of its places
abbrev pub Has : {X : Type 0} → (ℕ → X) → List X → Type 0
Has f xs = (i : ℕ) → i < length xs → slice_get xs i ≡ Some (f i)

pub has_more : {X : Type 0} (f : ℕ → X) (xs : List X) (y : X) → Has f xs → y ≡ f (length xs) → Has f (xs ++ y ∷ [])
has_more {X} f [] y all is zero lt = ap (λ (v : X). Some v) is
has_more f [] y all is (suc i) lt = absurd (omega (arith, lt))
has_more f (x ∷ xs) y all is zero lt = all zero (omega arith)
has_more f (x ∷ xs) y all is (suc i) lt = has_more (λ k. f (suc k)) xs y (λ k h. all (suc k) (omega (arith, h))) is i (omega (arith, lt))

-- beyond its places another value stands for all
pub told : {X : Type 0} (f : ℕ → X) (xs : List X) (d : X) → Has f xs → ((i : ℕ) → length xs ≤ i → d ≡ f i) → (i : ℕ) → unwrap_or (slice_get xs i) d ≡ f i
told f [] d all past i = past i (omega arith)
told {X} f (x ∷ xs) d all past zero = ap (λ (o : Option X). unwrap_or o d) (all zero (omega arith))
told f (x ∷ xs) d all past (suc i) = told (λ k. f (suc k)) xs d (λ k h. all (suc k) (omega (arith, h))) (λ k h. past (suc k) (omega (arith, h))) i

-- ---- what passes a test

pub passed_more : {A X : Type 0} (view : A → X) (p : X → Bool) (xs : List A) (k : ℕ) (x : A) → k < length xs → x ≡ get_or xs k x →
    filter p (take (k + 1) (map view xs)) ≡ filter p (take k (map view xs)) ++ cond (p (view x)) (view x ∷ []) []
passed_more {A} {X} view p xs k x lt is =
    let long = length-map xs view in
    ap (filter p) (take_more (map view xs) k (view x) (omega (arith, lt, long)))
    ∙ filter-append p (take k (map view xs)) (get_or (map view xs) k (view x) ∷ [])
    ∙ ap (λ (v : X). filter p (take k (map view xs)) ++ filter p (v ∷ [])) (get_or-map view xs k x ∙ ap view (sym is))

-- ---- places

or_same : (x y : Option ℕ) → or_other x y ≡ or_else x y
or_same None y = refl
or_same (Some i) y = refl

-- the first place of what passes, in a list that is one longer
pub placed_more : {X : Type 0} (t : X → Bool) (xs : List X) (y : X) → position t (xs ++ y ∷ []) ≡ or_other (position t xs) (cond (t y) (Some (length xs)) None)
placed_more t xs y =
    position_from-zero t (xs ++ y ∷ [])
    ∙ position_push t 0 xs y
    ∙ ap (λ (k : ℕ). or_else (position_from t 0 xs) (cond (t y) (Some k) None)) (omega arith)
    ∙ ap (λ (o : Option ℕ). or_else o (cond (t y) (Some (length xs)) None)) (sym (position_from-zero t xs))
    ∙ sym (or_same (position t xs) (cond (t y) (Some (length xs)) None))

-- and in a view of a list, one more of it seen
pub placed_next : {A X : Type 0} (view : A → X) (t : X → Bool) (xs : List A) (k : ℕ) (x : A) (was now : Option ℕ) → k < length xs → x ≡ get_or xs k x →
    was ≡ position t (map view (take k xs)) → now ≡ or_other was (cond (t (view x)) (Some k) None) → now ≡ position t (map view (take (k + 1) xs))
placed_next {A} {X} view t xs k x was now lt is before after =
    after
    ∙ or_same was (cond (t (view x)) (Some k) None)
    ∙ ap (λ (o : Option ℕ). or_else o (cond (t (view x)) (Some k) None)) (before ∙ position_from-zero t (map view (take k xs)))
    ∙ ap (λ (v : A). or_else (position_from t 0 (map view (take k xs))) (cond (t (view v)) (Some k) None)) is
    ∙ sym (position_more view t xs k x lt)
    ∙ sym (position_from-zero t (map view (take (k + 1) xs)))
