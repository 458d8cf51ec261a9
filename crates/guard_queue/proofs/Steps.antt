-- One step of settling: what fits still fits, and one call leaves the queue.
use Rattle.std.proofs.Common.{◌≡◌, ℕ, ◌+◌, Bool, true, false, cond, List, [], ◌∷◌, Option, Some, None, ap, ◌∙◌, sym, refl, subst, zero, suc, arith, remove}
use Rattle.std.specs.Prelude.{slice_get}
use Rattle.std.specs.BTreeMap.{is_at}
use Rattle.orca_base.specs.declared.ids.KindNo.{KindNo}
use Rattle.orca_base.specs.declared.ids.OpNo.{OpNo}
use Rattle.orca_base.specs.declared.ids.ObjectId.{ObjectId}
use Rattle.value_core.specs.Datum.{Data}
use Rattle.value_core.specs.declared.action.Instance.{Instance}
use Rattle.value_core.specs.declared.meaning.Tried.{Tried}
use Rattle.value_core.specs.declared.meaning.Tried.TheVariants as tried
use Rattle.value_core.specs.Fits.{Kinds, ExtendsKinds, KeepsState}
use Rattle.value_core.specs.Meaning.{Performs}
use Rattle.value_core.specs.History.{Objects, object_cmp, object_at, with_object, after_try}
use Rattle.guard_queue.specs.declared.queue.Suspended.{Suspended}
use Rattle.guard_queue.specs.Fitting.{CallFits, CanTry, Fitting, kinds_of}
use Rattle.guard_queue.specs.Settles.{Settling, objects_if, objects_with, performed, taken, settle_up_to, stepped, next_ready, tried_in, tried_at}
use Rattle.guard_queue.proofs.Lookups.{object_at-with_object, same_place}
use Rattle.guard_queue.proofs.KindsStay.{kinds_extend}

-- where no call is ready nothing more happens
pub settle_at_end : (p : Performs) (n : ℕ) (s : Settling) → next_ready p s.objects s.queue ≡ None → settle_up_to p n s ≡ s
settle_at_end p zero s none = refl
settle_at_end p (suc n) s none = ap (λ o. settle_up_to p n (stepped p s o)) none ∙ settle_at_end p n s none

-- one step, where one leaves the queue
pub settle_step : (p : Performs) (n m : ℕ) (s t : Settling) → n + 1 ≡ m → t ≡ stepped p s (next_ready p s.objects s.queue) → settle_up_to p m s ≡ settle_up_to p n t
settle_step p n m s t less is = ap (λ k. settle_up_to p k s) (let e : m ≡ suc n = omega arith in e) ∙ ap (settle_up_to p n) (sym is)

-- the call that was found and tried is the step
pub taken_step : (p : Performs) (s : Settling) (at : ℕ) (t : Tried) (call : Suspended) → next_ready p s.objects s.queue ≡ Some at → slice_get s.queue at ≡ Some call → t ≡ tried_in p s.objects call
    → taken s at t (slice_get s.queue at) ≡ stepped p s (next_ready p s.objects s.queue)
taken_step p s at t call next here is =
    ap (λ o. taken s at t o) here ∙ ap (λ u. taken s at u (Some call)) is ∙ sym (ap (λ o. performed p s at o) here) ∙ sym (ap (λ o. stepped p s o) next)

-- what is left of a list was in it
pub from_remove : {X : Type 0} (xs : List X) (n i : ℕ) (x : X) → slice_get (remove xs n) i ≡ Some x → (j : ℕ) × (slice_get xs j ≡ Some x)
from_remove [] zero i x h = (i, h)
from_remove [] (suc n) i x h = (i, h)
from_remove (y ∷ ys) zero i x h = (suc i, h)
from_remove (y ∷ ys) (suc n) zero x h = (0, h)
from_remove (y ∷ ys) (suc n) (suc i) x h = let r = from_remove ys n i x h in (suc r.0, r.1)

module _ (fits_state : Kinds → KindNo → Data → Type 0) (fits_args : Kinds → KindNo → OpNo → Data → Type 0) where
  module _ (kinds : Kinds) where
    -- one object's state changes, and fits again
    pub states_with : (objects : Objects) (object : ObjectId) (kept : Instance) → ((q : ObjectId) (k : Instance) → object_at objects q ≡ Some k → fits_state kinds k.kind k.state) → fits_state kinds kept.kind kept.state
        → (q : ObjectId) (k : Instance) → object_at (with_object objects object kept) q ≡ Some k → fits_state kinds k.kind k.state
    states_with objects object kept old here q k is =
        let e : cond (is_at (object_cmp q) object) (Some kept) (object_at objects q) ≡ Some k = sym (object_at-with_object objects object kept q) ∙ is in
        elim (is_at (object_cmp q) object) as (λ b. cond b (Some kept) (object_at objects q) ≡ Some k → fits_state kinds k.kind k.state) [
          | true ↦ λ f. let same : kept ≡ k = cc f in let P : Instance → Type 0 = λ x. fits_state kinds x.kind x.state in subst P same here
          | false ↦ λ f. old q k f
        ] e

    -- a call, where one object is changed and keeps its type
    call_with : (objects : Objects) (object : ObjectId) (kept old : Instance) → object_at objects object ≡ Some old → kept.kind ≡ old.kind → (call : Suspended)
        → CallFits fits_args kinds objects call → CallFits fits_args kinds (with_object objects object kept) call
    call_with objects object kept old was kind call fit =
        let at : (b : Bool) → is_at (object_cmp call.object) object ≡ b → object_at (with_object objects object kept) call.object ≡ cond b (Some kept) (object_at objects call.object) = λ b h. object_at-with_object objects object kept call.object ∙ ap (λ c. cond c (Some kept) (object_at objects call.object)) h in
        elim (is_at (object_cmp call.object) object) as (λ b. is_at (object_cmp call.object) object ≡ b → CallFits fits_args kinds (with_object objects object kept) call) [
          | true ↦ λ here.
              let s : fit.kept ≡ old = cc (fit.exists, same_place objects call.object object here, was) in
              record { kept = kept; exists = at true here; kind = kind ∙ sym (ap (λ (k : Instance). k.kind) s) ∙ fit.kind; args = fit.args }
          | false ↦ λ away. record { kept = fit.kept; exists = at false away ∙ fit.exists; kind = fit.kind; args = fit.args }
        ] refl

    -- what a try leaves fits
    after_fits : (objects : Objects) (queue : List Suspended) (object : ObjectId) (kept : Instance) (t : Tried) → object_at objects object ≡ Some kept → KeepsState t (fits_state kinds kept.kind)
        → Fitting fits_state fits_args kinds objects queue → Fitting fits_state fits_args kinds (after_try objects object kept t) queue
    after_fits objects queue object kept tried.Blocked was keeps fit = fit
    after_fits objects queue object kept (tried.Did guard state reply) was keeps fit = record {
      states = states_with objects object (record { kind = kept.kind; state = state }) fit.states keeps;
      calls = λ at call is. call_with objects object (record { kind = kept.kind; state = state }) kept was refl call (fit.calls at call is);
    }
    after_fits objects queue object kept (tried.Broke guard fault) was keeps fit = fit

    -- the queue without one call
    without_fits : (objects : Objects) (queue : List Suspended) (n : ℕ) → Fitting fits_state fits_args kinds objects queue → Fitting fits_state fits_args kinds objects (remove queue n)
    without_fits objects queue n fit = record { states = fit.states; calls = λ at call is. let r = from_remove queue n at call is in fit.calls r.0 call r.1 }

    -- the objects after a call was tried
    pub with_fits : (p : Performs) → ((kind : KindNo) (op : OpNo) (state args : Data) → fits_state kinds kind state → fits_args kinds kind op args → KeepsState (p.tries kind op state args) (fits_state kinds kind))
        → (objects : Objects) (queue : List Suspended) (call : Suspended) → CallFits fits_args kinds objects call → Fitting fits_state fits_args kinds objects queue → Fitting fits_state fits_args kinds (objects_with objects call (tried_in p objects call)) queue
    with_fits p keeps objects queue call one fit =
        let P : Option Instance → Type 0 = λ o. Fitting fits_state fits_args kinds (objects_if objects call (tried_at p call o) o) queue in
        let fits_kind : fits_state kinds call.kind one.kept.state = (let Q : KindNo → Type 0 = λ k. fits_state kinds k one.kept.state in subst Q one.kind (fit.states call.object one.kept one.exists)) in
        let kept_kind : KeepsState (p.tries call.kind call.op one.kept.state call.args) (fits_state kinds one.kept.kind) = (let Q : KindNo → Type 0 = λ k. KeepsState (p.tries call.kind call.op one.kept.state call.args) (fits_state kinds k) in subst Q (sym one.kind) (keeps call.kind call.op one.kept.state call.args fits_kind one.args)) in
        subst P (sym one.exists) (after_fits objects queue call.object one.kept (p.tries call.kind call.op one.kept.state call.args) one.exists kept_kind fit)

  -- what fits stays fitting over more objects
  pub over_more : ((kinds more : Kinds) (kind : KindNo) (state : Data) → ExtendsKinds kinds more → fits_state kinds kind state → fits_state more kind state)
      → ((kinds more : Kinds) (kind : KindNo) (op : OpNo) (args : Data) → ExtendsKinds kinds more → fits_args kinds kind op args → fits_args more kind op args)
      → (kinds more : Kinds) (objects : Objects) (queue : List Suspended) → ExtendsKinds kinds more → Fitting fits_state fits_args kinds objects queue → Fitting fits_state fits_args more objects queue
  over_more states_stay args_stay kinds more objects queue extends fit = record {
    states = λ object kept is. states_stay kinds more kept.kind kept.state extends (fit.states object kept is);
    calls = λ at call is. let one = fit.calls at call is in record { kept = one.kept; exists = one.exists; kind = one.kind; args = args_stay kinds more call.kind call.op call.args extends one.args };
  }

-- the types stay as a call is tried
after_extends : (objects : Objects) (object : ObjectId) (kept : Instance) (t : Tried) → object_at objects object ≡ Some kept → ExtendsKinds (kinds_of objects) (kinds_of (after_try objects object kept t))
after_extends objects object kept tried.Blocked was = λ entry has. has
after_extends objects object kept (tried.Did guard state reply) was =
    kinds_extend objects object (record { kind = kept.kind; state = state }) (λ old here. let same : kept ≡ old = cc (was, here) in ap (λ (k : Instance). k.kind) same)
after_extends objects object kept (tried.Broke guard fault) was = λ entry has. has

pub with_extends : (objects : Objects) (call : Suspended) (t : Tried) → ExtendsKinds (kinds_of objects) (kinds_of (objects_with objects call t))
with_extends objects call t =
    elim (object_at objects call.object) as (λ o. object_at objects call.object ≡ o → ExtendsKinds (kinds_of objects) (kinds_of (objects_if objects call t o))) [
      | None ↦ λ is entry has. has
      | Some kept ↦ λ is. after_extends objects call.object kept t is
    ] refl

module _ (fits_state : Kinds → KindNo → Data → Type 0) (fits_args : Kinds → KindNo → OpNo → Data → Type 0) (kinds : Kinds) (p : Performs)
    (keeps : (kind : KindNo) (op : OpNo) (state args : Data) → fits_state kinds kind state → fits_args kinds kind op args → KeepsState (p.tries kind op state args) (fits_state kinds kind)) where
  -- one step
  stepped_fits : (s : Settling) (o : Option ℕ) → Fitting fits_state fits_args kinds s.objects s.queue → Fitting fits_state fits_args kinds (stepped p s o).objects (stepped p s o).queue
  stepped_fits s None fit = fit
  stepped_fits s (Some at) fit =
      elim (slice_get s.queue at) as (λ o. slice_get s.queue at ≡ o → Fitting fits_state fits_args kinds (performed p s at o).objects (performed p s at o).queue) [
        | None ↦ λ is. fit
        | Some call ↦ λ is.
            without_fits fits_state fits_args kinds (objects_with s.objects call (tried_in p s.objects call)) s.queue at
            (with_fits fits_state fits_args kinds p keeps s.objects s.queue call (fit.calls at call is) fit)
      ] refl

  -- the same, in the words of the contracts
  pub fit_stepped : (s t : Settling) (o : Option ℕ) → t ≡ stepped p s o → Fitting fits_state fits_args kinds s.objects s.queue → Fitting fits_state fits_args kinds t.objects t.queue
  fit_stepped s t o is fit =
      let P : Settling → Type 0 = λ u. Fitting fits_state fits_args kinds u.objects u.queue in
      subst P (sym is) (stepped_fits s o fit)

  -- settling
  pub settled_fits : (n : ℕ) (s : Settling) → Fitting fits_state fits_args kinds s.objects s.queue → Fitting fits_state fits_args kinds (settle_up_to p n s).objects (settle_up_to p n s).queue
  settled_fits zero s fit = fit
  settled_fits (suc n) s fit = settled_fits n (stepped p s (next_ready p s.objects s.queue)) (stepped_fits s (next_ready p s.objects s.queue) fit)

-- a call that fits can be tried
pub can_try : (fits_state : Kinds → KindNo → Data → Type 0) (fits_args : Kinds → KindNo → OpNo → Data → Type 0) (kinds : Kinds) (objects : Objects) (queue : List Suspended) (call : Suspended)
    → Fitting fits_state fits_args kinds objects queue → CallFits fits_args kinds objects call → CanTry fits_state fits_args objects call.kind call.op call.object call.args
can_try fits_state fits_args kinds objects queue call fit one =
    record {
      kinds = kinds;
      state = λ kept has.
          let same : kept ≡ one.kept = cc (has, one.exists) in
          let P : KindNo → Type 0 = λ kind. fits_state kinds kind kept.state in
          subst P (ap (λ (k : Instance). k.kind) same ∙ one.kind) (fit.states call.object kept has);
      args = one.args;
    }
