-- After what a message does of itself all fits again, over the same types.
use Rattle.std.proofs.Common.{◌≡◌, ℕ, Bool, true, false, cond, List, [], ◌∷◌, ◌++◌, Some, None, ap, ◌∙◌, sym, refl, subst, zero, suc}
use Rattle.std.specs.Prelude.{slice_get}
use Rattle.std.specs.BTreeMap.{is_at}
use Rattle.orca_base.specs.declared.ids.KindNo.{KindNo}
use Rattle.orca_base.specs.declared.ids.OpNo.{OpNo}
use Rattle.orca_base.specs.declared.ids.ObjectId.{ObjectId}
use Rattle.value_core.specs.Datum.{Data}
use Rattle.value_core.specs.declared.action.Instance.{Instance}
use Rattle.value_core.specs.declared.meaning.Making.{Making}
use Rattle.value_core.specs.declared.meaning.Making.TheVariants as making
use Rattle.value_core.specs.declared.meaning.Tried.{Tried}
use Rattle.value_core.specs.declared.meaning.Tried.TheVariants as tried
use Rattle.value_core.specs.Fits.{Kinds, IfMade, KeepsState}
use Rattle.value_core.specs.Meaning.{Performs}
use Rattle.value_core.specs.History.{Objects, after_making, object_cmp, object_at, with_object}
use Rattle.guard_queue.specs.declared.queue.Suspended.{Suspended}
use Rattle.guard_queue.specs.Fitting.{CallFits, Fitting}
use Rattle.guard_queue.specs.Settles.{objects_with, tried_in}
use Rattle.guard_queue.proofs.Lookups.{object_at-with_object, same_place}
use Rattle.guard_queue.proofs.Steps.{states_with, with_fits}
use Rattle.object_manager.specs.After.{called_in}

last_or : {X : Type 0} (P : X → Type 0) (xs : List X) (y : X) (at : ℕ) (x : X) → slice_get (xs ++ y ∷ []) at ≡ Some x → ((k : ℕ) (z : X) → slice_get xs k ≡ Some z → P z) → P y → P x
last_or P [] y zero x is all here = let same : y ≡ x = cc is in subst P same here
last_or P [] y (suc at) x is all here = cc
last_or P (z ∷ zs) y zero x is all here = all 0 x is
last_or P (z ∷ zs) y (suc at) x is all here = last_or P zs y at x is (λ k w there. all (suc k) w there) here

module _ (fits_state : Kinds → KindNo → Data → Type 0) (fits_args : Kinds → KindNo → OpNo → Data → Type 0) (kinds : Kinds) where
  -- a call's object stays, where another one is made
  call_beside : (objects : Objects) (object : ObjectId) (kept : Instance) → object_at objects object ≡ None → (call : Suspended) → CallFits fits_args kinds objects call → CallFits fits_args kinds (with_object objects object kept) call
  call_beside objects object kept absent call fit =
      let at : (b : Bool) → is_at (object_cmp call.object) object ≡ b → object_at (with_object objects object kept) call.object ≡ cond b (Some kept) (object_at objects call.object) = λ b h. object_at-with_object objects object kept call.object ∙ ap (λ c. cond c (Some kept) (object_at objects call.object)) h in
      elim (is_at (object_cmp call.object) object) as (λ b. is_at (object_cmp call.object) object ≡ b → CallFits fits_args kinds (with_object objects object kept) call) [
        | true ↦ λ here. let no : Some fit.kept ≡ None = sym fit.exists ∙ same_place objects call.object object here ∙ absent in absurd (cc no)
        | false ↦ λ away. record { kept = fit.kept; exists = at false away ∙ fit.exists; kind = fit.kind; args = fit.args }
      ] refl

  -- an object is made
  pub made_fit : (objects : Objects) (queue : List Suspended) (kind : KindNo) (object : ObjectId) (m : Making) → IfMade m (fits_state kinds kind) → object_at objects object ≡ None → Fitting fits_state fits_args kinds objects queue
      → Fitting fits_state fits_args kinds (after_making objects kind object m) queue
  made_fit objects queue kind object (making.Made state) made absent fit =
      let kept : Instance = record { kind = kind; state = state } in
      record {
        states = states_with fits_state fits_args kinds objects object kept fit.states made;
        calls = λ at call is. call_beside objects object kept absent call (fit.calls at call is);
      }
  made_fit objects queue kind object (making.Broke fault) made absent fit = fit

  joined_fits : (objects : Objects) (queue : List Suspended) (call : Suspended) → CallFits fits_args kinds objects call → Fitting fits_state fits_args kinds objects queue → Fitting fits_state fits_args kinds objects (queue ++ call ∷ [])
  joined_fits objects queue call one fit = record {
    states = fit.states;
    calls = λ at x is. last_or (CallFits fits_args kinds objects) queue call at x is fit.calls one;
  }

  tried_fit : (objects : Objects) (queue : List Suspended) (call : Suspended) (t : Tried) → CallFits fits_args kinds objects call → Fitting fits_state fits_args kinds objects queue → Fitting fits_state fits_args kinds (objects_with objects call t) queue
      → Fitting fits_state fits_args kinds (called_in objects queue call t).objects (called_in objects queue call t).queue
  tried_fit objects queue call tried.Blocked one fit after = joined_fits objects queue call one fit
  tried_fit objects queue call (tried.Did guard state reply) one fit after = after
  tried_fit objects queue call (tried.Broke guard fault) one fit after = after

  -- a call is tried
  pub called_fit : (p : Performs) → ((kind : KindNo) (op : OpNo) (state args : Data) → fits_state kinds kind state → fits_args kinds kind op args → KeepsState (p.tries kind op state args) (fits_state kinds kind))
      → (objects : Objects) (queue : List Suspended) (call : Suspended) → CallFits fits_args kinds objects call → Fitting fits_state fits_args kinds objects queue
      → Fitting fits_state fits_args kinds (called_in objects queue call (tried_in p objects call)).objects (called_in objects queue call (tried_in p objects call)).queue
  called_fit p keeps objects queue call one fit = tried_fit objects queue call (tried_in p objects call) one fit (with_fits fits_state fits_args kinds p keeps objects queue call one fit)
