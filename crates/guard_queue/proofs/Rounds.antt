-- The rounds of settling: the call that was found is the one that is taken, and where none is found all are blocked.
use Rattle.std.proofs.Common.{◌≡◌, ℕ, ◌+◌, ◌<◌, Bool, true, false, not, cond, List, [], ◌∷◌, length, Option, Some, None, ap, ◌∙◌, sym, refl, subst, zero, suc, arith}
use Rattle.std.specs.Prelude.{slice_get, option_map}
use Rattle.std.specs.List.{position_from}
use Rattle.value_core.specs.declared.meaning.Tried.{Tried}
use Rattle.value_core.specs.declared.meaning.Tried.TheVariants as tried
use Rattle.value_core.specs.Meaning.{Performs}
use Rattle.value_core.specs.History.{Objects}
use Rattle.guard_queue.specs.declared.queue.Suspended.{Suspended}
use Rattle.guard_queue.specs.Settles.{AllBlocked, IsFound, Settling, is_blocked, is_ready, next_ready, settle_up_to, settled_from, stepped, taken, tried_in}
use Rattle.guard_queue.specs.Rounds.{OthersBlocked}
use Rattle.guard_queue.specs.Fitting.{GoOnFitting}
use Rattle.orca_base.specs.declared.ids.KindNo.{KindNo}
use Rattle.orca_base.specs.declared.ids.ObjectId.{ObjectId}
use Rattle.orca_base.specs.declared.ids.OpNo.{OpNo}
use Rattle.value_core.specs.Datum.{Data}
use Rattle.value_core.specs.Fits.{Kinds}
use Rattle.guard_queue.proofs.Steps.{taken_step, settle_at_end}

pub found_call : (p : Performs) (objects : Objects) (queue : List Suspended) (o : Option (ℕ × Tried)) (at : ℕ) (t : Tried) → o ≡ Some (at, t) → IsFound p objects queue o
    → (call : Suspended) × (slice_get queue at ≡ Some call) × (t ≡ tried_in p objects call)
found_call p objects queue o at t is found = let P : Option (ℕ × Tried) → Type 0 = λ r. IsFound p objects queue r in subst P is found

pub within : {X : Type 0} (xs : List X) (i : ℕ) (x : X) → slice_get xs i ≡ Some x → i < length xs
within [] i x h = cc
within (y ∷ ys) zero x h = omega arith
within (y ∷ ys) (suc i) x h = let rest = within ys i x h in omega arith

-- a round is a step
pub round : (p : Performs) (s t : Settling) (o : Option (ℕ × Tried)) (at : ℕ) (u : Tried) → o ≡ Some (at, u) → next_ready p s.objects s.queue ≡ option_map (λ x. x.0) o → IsFound p s.objects s.queue o
    → t ≡ taken s at u (slice_get s.queue at) → t ≡ stepped p s (next_ready p s.objects s.queue)
round p s t o at u is place found did =
    let call = found_call p s.objects s.queue o at u is found in
    did ∙ taken_step p s at u call.0 (place ∙ ap (option_map (λ x. x.0)) is) call.1 call.2

-- the last round finds none
pub no_round : (p : Performs) (s r : Settling) (o : Option (ℕ × Tried)) → o ≡ None → next_ready p s.objects s.queue ≡ option_map (λ x. x.0) o → settle_up_to p (length s.queue) s ≡ r → s ≡ r
no_round p s r o is place rest = sym (settle_at_end p (length s.queue) s (place ∙ ap (option_map (λ x. x.0)) is)) ∙ rest

blocked_of : (t : Tried) → not (is_blocked t) ≡ false → t ≡ tried.Blocked
blocked_of tried.Blocked h = refl
blocked_of (tried.Did guard state reply) h = cc
blocked_of (tried.Broke guard fault) h = cc

head_not : (b : Bool) (n : ℕ) (rest : Option ℕ) → cond b (Some n) rest ≡ None → b ≡ false
head_not true n rest h = cc
head_not false n rest h = refl

rest_not : (b : Bool) (n : ℕ) (rest : Option ℕ) → cond b (Some n) rest ≡ None → rest ≡ None
rest_not true n rest h = cc
rest_not false n rest h = h

pub blocked_at : (p : Performs) (objects : Objects) (c : Suspended) (cs : List Suspended) → tried_in p objects c ≡ tried.Blocked → AllBlocked p objects cs → AllBlocked p objects (c ∷ cs)
blocked_at p objects c cs here rest zero d lt = here
blocked_at p objects c cs here rest (suc k) d lt = rest k d (omega arith)

pub blocked_from : (p : Performs) (objects : Objects) (n : ℕ) (queue : List Suspended) → position_from (is_ready p objects) n queue ≡ None → AllBlocked p objects queue
blocked_from p objects n [] none = λ k d lt. absurd (omega arith)
blocked_from p objects n (c ∷ cs) none =
    blocked_at p objects c cs (blocked_of (tried_in p objects c) (head_not (is_ready p objects c) n (position_from (is_ready p objects) (n + 1) cs) none))
    (blocked_from p objects (n + 1) cs (rest_not (is_ready p objects c) n (position_from (is_ready p objects) (n + 1) cs) none))

-- where none is found, each call is blocked
pub all_blocked : (p : Performs) (objects : Objects) (queue : List Suspended) (o : Option (ℕ × Tried)) → o ≡ None → next_ready p objects queue ≡ option_map (λ x. x.0) o → AllBlocked p objects queue
all_blocked p objects queue o is place = blocked_from p objects 0 queue (place ∙ ap (option_map (λ x. x.0)) is)

-- rounds on the way: the next call is found, they settle as what they began with, what fitted fits, and calls on other objects are blocked
pub record IsUnderWay (fits_state : Kinds → KindNo → Data → Type 0) (fits_args : Kinds → KindNo → OpNo → Data → Type 0) (p : Performs) (before now : Settling) (ready : Option (ℕ × Tried)) (on : Option ObjectId) : Type 0 where
  pub place : next_ready p now.objects now.queue ≡ option_map (λ x. x.0) ready
  pub found : IsFound p now.objects now.queue ready
  pub fits : GoOnFitting fits_state fits_args before.objects before.queue now.objects now.queue
  pub same : settled_from p now ≡ settled_from p before
  pub others : OthersBlocked p now.objects now.queue on
