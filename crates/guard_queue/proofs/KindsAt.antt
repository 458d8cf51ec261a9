-- Objects keep their types while the queue settles.
use Rattle.std.proofs.Common.{◌≡◌, ℕ, true, false, cond, Option, None, Some, ap, ◌∙◌, sym, refl, zero, suc}
use Rattle.std.specs.Prelude.{slice_get}
use Rattle.std.specs.BTreeMap.{is_at}
use Rattle.orca_base.specs.declared.ids.ObjectId.{ObjectId}
use Rattle.value_core.specs.declared.action.Instance.{Instance}
use Rattle.value_core.specs.declared.meaning.Tried.{Tried}
use Rattle.value_core.specs.declared.meaning.Tried.TheVariants as tried
use Rattle.value_core.specs.Meaning.{Performs}
use Rattle.value_core.specs.History.{Objects, object_cmp, object_at, with_object, after_try}
use Rattle.guard_queue.specs.declared.queue.Suspended.{Suspended}
use Rattle.guard_queue.specs.Fitting.{kind_at, kind_in}
use Rattle.guard_queue.specs.Settles.{Settling, next_ready, objects_if, objects_with, performed, settle_up_to, stepped, tried_in}
use Rattle.guard_queue.proofs.Lookups.{object_at-with_object, same_place}

-- an object that is put in by its type
pub kind_at-with_object : (objects : Objects) (object : ObjectId) (kept : Instance) (q : ObjectId) → kind_at objects object ≡ Some kept.kind → kind_at (with_object objects object kept) q ≡ kind_at objects q
kind_at-with_object objects object kept q had =
    ap kind_in (object_at-with_object objects object kept q)
    ∙ elim (is_at (object_cmp q) object) as (λ b. is_at (object_cmp q) object ≡ b → kind_in (cond b (Some kept) (object_at objects q)) ≡ kind_at objects q) [
      | true ↦ λ here. sym (ap kind_in (same_place objects q object here) ∙ had)
      | false ↦ λ away. refl
    ] refl

-- an object that wasn't there before
pub kind_at-made : (objects : Objects) (object : ObjectId) (kept : Instance) (q : ObjectId) (old : Instance) → object_at objects object ≡ None → object_at objects q ≡ Some old → kind_at (with_object objects object kept) q ≡ kind_at objects q
kind_at-made objects object kept q old absent there =
    ap kind_in (object_at-with_object objects object kept q)
    ∙ elim (is_at (object_cmp q) object) as (λ b. is_at (object_cmp q) object ≡ b → kind_in (cond b (Some kept) (object_at objects q)) ≡ kind_at objects q) [
      | true ↦ λ here. let no : Some old ≡ None = sym there ∙ same_place objects q object here ∙ absent in absurd (cc no)
      | false ↦ λ away. refl
    ] refl

tried_keeps : (objects : Objects) (object : ObjectId) (kept : Instance) (t : Tried) (q : ObjectId) → object_at objects object ≡ Some kept → kind_at (after_try objects object kept t) q ≡ kind_at objects q
tried_keeps objects object kept tried.Blocked q there = refl
tried_keeps objects object kept (tried.Did guard state reply) q there = kind_at-with_object objects object (record { kind = kept.kind; state = state }) q (ap kind_in there)
tried_keeps objects object kept (tried.Broke guard fault) q there = refl

pub with_keeps : (objects : Objects) (call : Suspended) (t : Tried) (q : ObjectId) → kind_at (objects_with objects call t) q ≡ kind_at objects q
with_keeps objects call t q =
    elim (object_at objects call.object) as (λ o. object_at objects call.object ≡ o → kind_at (objects_if objects call t o) q ≡ kind_at objects q) [
      | None ↦ λ is. refl
      | Some kept ↦ λ is. tried_keeps objects call.object kept t q is
    ] refl

performed_keeps : (p : Performs) (s : Settling) (at : ℕ) (o : Option Suspended) (q : ObjectId) → kind_at (performed p s at o).objects q ≡ kind_at s.objects q
performed_keeps p s at None q = refl
performed_keeps p s at (Some call) q = with_keeps s.objects call (tried_in p s.objects call) q

stepped_keeps : (p : Performs) (s : Settling) (o : Option ℕ) (q : ObjectId) → kind_at (stepped p s o).objects q ≡ kind_at s.objects q
stepped_keeps p s None q = refl
stepped_keeps p s (Some at) q = performed_keeps p s at (slice_get s.queue at) q

pub settled_keeps : (p : Performs) (n : ℕ) (s : Settling) (q : ObjectId) → kind_at (settle_up_to p n s).objects q ≡ kind_at s.objects q
settled_keeps p zero s q = refl
settled_keeps p (suc n) s q = settled_keeps p n (stepped p s (next_ready p s.objects s.queue)) q ∙ stepped_keeps p s (next_ready p s.objects s.queue) q
