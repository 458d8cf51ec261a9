-- What is kept of a member's entries, one after the other.
use Rattle.std.proofs.Common.{◌≡◌, ◌∙◌, ℕ, suc, Bool, true, false, cond, ltb, List, [], ◌∷◌, ◌++◌, ap, sym, subst, refl, append_assoc}
use Rattle.book_law.specs.Performed.{placed}
use Rattle.book_law.specs.declared.placing.Placed.{Placed}
use Rattle.value_core.specs.declared.action.Line.{Line}
use Rattle.world_core.specs.Drafting.{behind, lines_behind}

first_behind : {A : Type 0} (known place : ℕ) (x : A) (xs : List A) → behind known place (x ∷ xs) ≡ cond (ltb known (suc place)) (x ∷ []) [] ++ behind known (suc place) xs
first_behind {A} known place x xs = go (ltb known (suc place))
  where
    go : (b : Bool) → cond b (x ∷ behind known (suc place) xs) (behind known (suc place) xs) ≡ cond b (x ∷ []) [] ++ behind known (suc place) xs
    go true = refl
    go false = refl

-- what is kept so far, with what is behind `known` of the rest, is all of it
pub kept_next : {A : Type 0} (known place next : ℕ) (x : A) (rest left all total new : List A) → suc place ≡ next → rest ≡ x ∷ left → all ++ behind known place rest ≡ total
    → new ≡ all ++ cond (ltb known next) (x ∷ []) [] → new ++ behind known next left ≡ total
kept_next {A} known place next x rest left all total new one is so more =
    ap (λ (l : List A). l ++ behind known next left) more
    ∙ subst (λ (n : ℕ). (all ++ cond (ltb known n) (x ∷ []) []) ++ behind known n left ≡ total) one
    (append_assoc all (cond (ltb known (suc place)) (x ∷ []) []) (behind known (suc place) left)
    ∙ ap (λ (l : List A). all ++ l) (sym (first_behind known place x left) ∙ ap (behind known place) (sym is)) ∙ so)

first_lines : (known place : ℕ) (x : List Line) (xs : List (List Line)) → lines_behind known place (x ∷ xs) ≡ cond (ltb known (suc place)) (placed (suc place) x) [] ++ lines_behind known (suc place) xs
first_lines known place x xs = go (ltb known (suc place))
  where
    go : (b : Bool) → cond b (placed (suc place) x ++ lines_behind known (suc place) xs) (lines_behind known (suc place) xs) ≡ cond b (placed (suc place) x) [] ++ lines_behind known (suc place) xs
    go true = refl
    go false = refl

pub lines_next : (known place next : ℕ) (x : List Line) (rest left : List (List Line)) (all total new : List Placed) → suc place ≡ next → rest ≡ x ∷ left → all ++ lines_behind known place rest ≡ total
    → new ≡ all ++ cond (ltb known next) (placed next x) [] → new ++ lines_behind known next left ≡ total
lines_next known place next x rest left all total new one is so more =
    ap (λ (l : List Placed). l ++ lines_behind known next left) more
    ∙ subst (λ (n : ℕ). (all ++ cond (ltb known n) (placed n x) []) ++ lines_behind known n left ≡ total) one
    (append_assoc all (cond (ltb known (suc place)) (placed (suc place) x) []) (lines_behind known (suc place) left)
    ∙ ap (λ (l : List Placed). all ++ l) (sym (first_lines known place x left) ∙ ap (lines_behind known place) (sym is)) ∙ so)
