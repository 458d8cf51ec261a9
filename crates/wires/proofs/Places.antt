-- The first of a list that passes, by its place.
use Rattle.std.proofs.Common.{◌≡◌, ℕ, suc, ◌+◌, ◌<◌, Bool, true, false, cond, List, [], ◌∷◌, length, get_or, drop, ap, refl, sym, ◌∙◌, arith}
use Rattle.std.specs.Prelude.{Some, None}
use Rattle.std.specs.List.{find, position_from, remove}
use Rattle.std.proofs.lemmas.List.{at_drop_more}
use Rattle.net_rules.specs.Script.{without_first}

-- one place on
pub at_place : {X : Type 0} (p : X → Bool) (i : ℕ) (xs : List X) (d : X) → i < length xs →
    position_from p i (drop i xs) ≡ cond (p (get_or xs i d)) (Some i) (position_from p (i + 1) (drop (i + 1) xs))
at_place {X} p i xs d below = at_drop_more (λ (l : List X). position_from p i l) xs i d below

-- where none passes
pub record Nowhere {X : Type 0} (p : X → Bool) (xs : List X) : Type 0 where
  pub found : find p xs ≡ None
  pub rest : without_first p xs ≡ xs

nowhere-sort : {X : Type 0} (p : X → Bool) (i : ℕ) (x : X) (xs : List X) (b : Bool) → p x ≡ b → (position_from p (i + 1) xs ≡ None → Nowhere p xs) →
    cond b (Some i) (position_from p (i + 1) xs) ≡ None → Nowhere p (x ∷ xs)
nowhere-sort p i x xs true is more e = absurd (cc)
nowhere-sort p i x xs false is more e =
    let w = more e in
    record {
      found = ap (λ b. cond b (Some x) (find p xs)) is ∙ w.found;
      rest = ap (λ b. cond b xs (x ∷ without_first p xs)) is ∙ ap (λ ys. x ∷ ys) w.rest;
    }

pub nowhere : {X : Type 0} (p : X → Bool) (i : ℕ) (xs : List X) → position_from p i xs ≡ None → Nowhere p xs
nowhere p i [] e = record { found = refl; rest = refl }
nowhere p i (x ∷ xs) e = nowhere-sort p i x xs (p x) refl (nowhere p (i + 1) xs) e

-- where one does
pub record Somewhere {X : Type 0} (p : X → Bool) (i j : ℕ) (xs : List X) : Type 0 where
  pub place : ℕ
  pub at : j ≡ i + place
  pub found : (d : X) → find p xs ≡ Some (get_or xs place d)
  pub rest : remove xs place ≡ without_first p xs

somewhere-sort : {X : Type 0} (p : X → Bool) (i j : ℕ) (x : X) (xs : List X) (b : Bool) → p x ≡ b → (position_from p (i + 1) xs ≡ Some j → Somewhere p (i + 1) j xs) →
    cond b (Some i) (position_from p (i + 1) xs) ≡ Some j → Somewhere p i j (x ∷ xs)
somewhere-sort p i j x xs true is more e =
    let same : i ≡ j = cc in
    record {
      place = 0;
      at = omega arith;
      found = λ d. ap (λ b. cond b (Some x) (find p xs)) is;
      rest = sym (ap (λ b. cond b xs (x ∷ without_first p xs)) is);
    }
somewhere-sort p i j x xs false is more e =
    let w = more e in
    let n = w.at in
    record {
      place = suc w.place;
      at = omega arith;
      found = λ d. ap (λ b. cond b (Some x) (find p xs)) is ∙ w.found d;
      rest = ap (λ ys. x ∷ ys) w.rest ∙ sym (ap (λ b. cond b xs (x ∷ without_first p xs)) is);
    }

pub somewhere : {X : Type 0} (p : X → Bool) (i j : ℕ) (xs : List X) → position_from p i xs ≡ Some j → Somewhere p i j xs
somewhere p i j [] e = absurd (cc)
somewhere p i j (x ∷ xs) e = somewhere-sort p i j x xs (p x) refl (somewhere p (i + 1) j xs) e
