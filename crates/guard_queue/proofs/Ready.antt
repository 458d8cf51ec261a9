-- The first place at which a test passes, from a place on.
use Rattle.std.proofs.Common.{◌≡◌, ℕ, [], zero, Bool, true, false, not, ◌+◌, ◌<◌, List, ◌∷◌, length, get_or, drop, Some, ap, ◌∙◌, sym, cond, add-one, suc, refl}
use Rattle.std.proofs.Math.Seq.{drop-cons}
use Rattle.std.specs.List.{position_from}
use Rattle.std.specs.Prelude.{slice_get}
use Rattle.value_core.specs.declared.meaning.Tried.{Tried}
use Rattle.value_core.specs.declared.meaning.Tried.TheVariants as tried
use Rattle.value_core.specs.Meaning.{Performs}
use Rattle.value_core.specs.History.{Objects}
use Rattle.guard_queue.specs.declared.queue.Suspended.{Suspended}
use Rattle.guard_queue.specs.Settles.{is_ready, is_blocked, tried_in}

-- the list from i on begins with the element there
pub from_here : {X : Type 0} (xs : List X) (i : ℕ) (x : X) → i < length xs → x ≡ get_or xs i x → drop i xs ≡ x ∷ drop (i + 1) xs
from_here xs i x lt is = rw (add-one) (drop-cons xs i x lt ∙ ap (λ y. y ∷ drop (suc i) xs) (sym is))

pub from_suc : {X : Type 0} (xs : List X) (i : ℕ) (x : X) → slice_get xs i ≡ Some x → drop i xs ≡ x ∷ drop (suc i) xs
from_suc [] i x h = cc
from_suc (y ∷ ys) zero x h = let e : y ≡ x = cc h in ap (λ z. z ∷ ys) e
from_suc (y ∷ ys) (suc i) x h = from_suc ys i x h

pub from_place : {X : Type 0} (xs : List X) (i : ℕ) (x : X) → slice_get xs i ≡ Some x → drop i xs ≡ x ∷ drop (i + 1) xs
from_place xs i x h = rw (add-one) (from_suc xs i x h)

-- the element at i passes
pub position_here : {X : Type 0} (t : X → Bool) (xs : List X) (i : ℕ) (x : X) → slice_get xs i ≡ Some x → t x ≡ true → position_from t i (drop i xs) ≡ Some i
position_here t xs i x is t_is = ap (position_from t i) (from_place xs i x is) ∙ ap (λ b. cond b (Some i) (position_from t (i + 1) (drop (i + 1) xs))) t_is

-- the element at i doesn't
pub position_on : {X : Type 0} (t : X → Bool) (xs : List X) (i : ℕ) (x : X) → slice_get xs i ≡ Some x → t x ≡ false → position_from t i (drop i xs) ≡ position_from t (i + 1) (drop (i + 1) xs)
position_on t xs i x is t_is = ap (position_from t i) (from_place xs i x is) ∙ ap (λ b. cond b (Some i) (position_from t (i + 1) (drop (i + 1) xs))) t_is

not_blocked : (t : Tried) → (t ≡ tried.Blocked → ⊥) → not (is_blocked t) ≡ true
not_blocked tried.Blocked apart = absurd (apart refl)
not_blocked (tried.Did guard state reply) apart = refl
not_blocked (tried.Broke guard fault) apart = refl

-- a call that isn't blocked is ready
pub ready_if : (p : Performs) (objects : Objects) (call : Suspended) (t : Tried) → t ≡ tried_in p objects call → (t ≡ tried.Blocked → ⊥) → is_ready p objects call ≡ true
ready_if p objects call t is apart = ap (λ u. not (is_blocked u)) (sym is) ∙ not_blocked t apart

-- one that is blocked isn't
pub not_ready_if : (p : Performs) (objects : Objects) (call : Suspended) (t : Tried) → t ≡ tried_in p objects call → t ≡ tried.Blocked → is_ready p objects call ≡ false
not_ready_if p objects call t is blocked = ap (λ u. not (is_blocked u)) (sym is ∙ blocked)
