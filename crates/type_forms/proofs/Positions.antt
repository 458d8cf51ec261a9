-- The first place in a list at which a test passes, as a loop finds it.
use Rattle.std.proofs.Common.{◌≡◌, ℕ, ◌<◌, ◌+◌, Bool, true, false, cond, List, [], ◌∷◌, ◌++◌, length, get_or, take, map, Option, Some, None, refl, ap, ◌∙◌, arith}
use Rattle.std.specs.List.{position_from}
use Rattle.std.proofs.lemmas.List.{take_more, map-append, length-map, length-take-le}
use Rattle.type_rules.specs.TopLevel.{or_else}

-- where the test passes, its own place
pub placed : Bool → ℕ → Option ℕ
placed t i = cond t (Some i) None

pub or_else_none : (x : Option ℕ) → or_else x None ≡ x
or_else_none None = refl
or_else_none (Some i) = refl

push_by : {X : Type 0} (t : X → Bool) (i : ℕ) (x : X) (xs : List X) (y : X) (b : Bool) → t x ≡ b →
    position_from t (i + 1) (xs ++ y ∷ []) ≡ or_else (position_from t (i + 1) xs) (cond (t y) (Some (i + 1 + length xs)) None) →
    position_from t i (x ∷ xs ++ y ∷ []) ≡ or_else (position_from t i (x ∷ xs)) (cond (t y) (Some (i + length (x ∷ xs))) None)
push_by t i x xs y true is rest = rw is refl
push_by t i x xs y false is rest = rw is (rest ∙ ap (λ (k : ℕ). or_else (position_from t (i + 1) xs) (cond (t y) (Some k) None)) (omega arith))

pub position_push : {X : Type 0} (t : X → Bool) (i : ℕ) (xs : List X) (y : X) →
    position_from t i (xs ++ y ∷ []) ≡ or_else (position_from t i xs) (cond (t y) (Some (i + length xs)) None)
position_push t i [] y = ap (λ (k : ℕ). cond (t y) (Some k) None) (omega arith)
position_push t i (x ∷ xs) y = push_by t i x xs y (t x) refl (position_push t (i + 1) xs y)

-- a part more of what is viewed
pub position_more : {A X : Type 0} (view : A → X) (t : X → Bool) (xs : List A) (k : ℕ) (d : A) → k < length xs →
    position_from t 0 (map view (take (k + 1) xs)) ≡ or_else (position_from t 0 (map view (take k xs))) (cond (t (view (get_or xs k d))) (Some k) None)
position_more {A} {X} view t xs k d lt =
    ap (λ (l : List A). position_from t 0 (map view l)) (take_more xs k d lt)
    ∙ ap (position_from t 0) (map-append view (take k xs) (get_or xs k d ∷ []))
    ∙ position_push t 0 (map view (take k xs)) (view (get_or xs k d))
    ∙ ap (λ (j : ℕ). or_else (position_from t 0 (map view (take k xs))) (cond (t (view (get_or xs k d))) (Some j) None)) count
  where
    count : 0 + length (map view (take k xs)) ≡ k
    count = let m = length-map (take k xs) view in let n = length-take-le k xs (omega (arith, lt)) in omega (arith, m, n)
