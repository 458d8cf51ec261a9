-- What stays while the queue settles: each object by its type, that ids rise, and how many objects there are.
use Rattle.std.proofs.Common.{◌≡◌, ℕ, ◌+◌, cond, is_some, length, Option, None, Some, ap, ◌∙◌, refl, zero, suc}
use Rattle.std.specs.Prelude.{slice_get}
use Rattle.orca_base.specs.declared.ids.ObjectId.{ObjectId}
use Rattle.value_core.specs.declared.action.Instance.{Instance}
use Rattle.value_core.specs.declared.meaning.Tried.{Tried}
use Rattle.value_core.specs.declared.meaning.Tried.TheVariants as tried
use Rattle.value_core.specs.Fits.{ExtendsKinds}
use Rattle.value_core.specs.Meaning.{Performs}
use Rattle.value_core.specs.History.{Objects, after_try, object_at}
use Rattle.guard_queue.specs.declared.queue.Suspended.{Suspended}
use Rattle.guard_queue.specs.Fitting.{kinds_of}
use Rattle.guard_queue.specs.Settles.{Settling, next_ready, objects_if, objects_with, performed, settle_up_to, stepped, tried_in}
use Rattle.guard_queue.specs.Shown.{Rises}
use Rattle.guard_queue.proofs.Steps.{with_extends}
use Rattle.guard_queue.proofs.Writes.{length_with, rises_with}

performed_extends : (p : Performs) (s : Settling) (at : ℕ) (o : Option Suspended) → ExtendsKinds (kinds_of s.objects) (kinds_of (performed p s at o).objects)
performed_extends p s at None = λ entry has. has
performed_extends p s at (Some call) = with_extends s.objects call (tried_in p s.objects call)

stepped_extends : (p : Performs) (s : Settling) (o : Option ℕ) → ExtendsKinds (kinds_of s.objects) (kinds_of (stepped p s o).objects)
stepped_extends p s None = λ entry has. has
stepped_extends p s (Some at) = performed_extends p s at (slice_get s.queue at)

pub settled_extends : (p : Performs) (n : ℕ) (s : Settling) → ExtendsKinds (kinds_of s.objects) (kinds_of (settle_up_to p n s).objects)
settled_extends p zero s = λ entry has. has
settled_extends p (suc n) s = λ entry has. settled_extends p n (stepped p s (next_ready p s.objects s.queue)) entry (stepped_extends p s (next_ready p s.objects s.queue) entry has)

try_rises : (objects : Objects) (object : ObjectId) (kept : Instance) (t : Tried) → Rises objects → Rises (after_try objects object kept t)
try_rises objects object kept tried.Blocked rises = rises
try_rises objects object kept (tried.Did guard state reply) rises = rises_with objects object (record { kind = kept.kind; state = state }) rises
try_rises objects object kept (tried.Broke guard fault) rises = rises

if_rises : (objects : Objects) (call : Suspended) (t : Tried) (o : Option Instance) → Rises objects → Rises (objects_if objects call t o)
if_rises objects call t None rises = rises
if_rises objects call t (Some kept) rises = try_rises objects call.object kept t rises

pub with_rises : (objects : Objects) (call : Suspended) (t : Tried) → Rises objects → Rises (objects_with objects call t)
with_rises objects call t rises = if_rises objects call t (object_at objects call.object) rises

performed_rises : (p : Performs) (s : Settling) (at : ℕ) (o : Option Suspended) → Rises s.objects → Rises (performed p s at o).objects
performed_rises p s at None rises = rises
performed_rises p s at (Some call) rises = with_rises s.objects call (tried_in p s.objects call) rises

stepped_rises : (p : Performs) (s : Settling) (o : Option ℕ) → Rises s.objects → Rises (stepped p s o).objects
stepped_rises p s None rises = rises
stepped_rises p s (Some at) rises = performed_rises p s at (slice_get s.queue at) rises

pub settled_rises : (p : Performs) (n : ℕ) (s : Settling) → Rises s.objects → Rises (settle_up_to p n s).objects
settled_rises p zero s rises = rises
settled_rises p (suc n) s rises = settled_rises p n (stepped p s (next_ready p s.objects s.queue)) (stepped_rises p s (next_ready p s.objects s.queue) rises)

try_length : (objects : Objects) (object : ObjectId) (kept : Instance) (t : Tried) → object_at objects object ≡ Some kept → Rises objects → length (after_try objects object kept t) ≡ length objects
try_length objects object kept tried.Blocked there rises = refl
try_length objects object kept (tried.Did guard state reply) there rises =
    length_with objects object (record { kind = kept.kind; state = state }) rises ∙ ap (λ o. cond (is_some o) (length objects) (length objects + 1)) there
try_length objects object kept (tried.Broke guard fault) there rises = refl

pub with_length : (objects : Objects) (call : Suspended) (t : Tried) → Rises objects → length (objects_with objects call t) ≡ length objects
with_length objects call t rises =
    elim (object_at objects call.object) as (λ o. object_at objects call.object ≡ o → length (objects_if objects call t o) ≡ length objects) [
      | None ↦ λ is. refl
      | Some kept ↦ λ is. try_length objects call.object kept t is rises
    ] refl

performed_length : (p : Performs) (s : Settling) (at : ℕ) (o : Option Suspended) → Rises s.objects → length (performed p s at o).objects ≡ length s.objects
performed_length p s at None rises = refl
performed_length p s at (Some call) rises = with_length s.objects call (tried_in p s.objects call) rises

stepped_length : (p : Performs) (s : Settling) (o : Option ℕ) → Rises s.objects → length (stepped p s o).objects ≡ length s.objects
stepped_length p s None rises = refl
stepped_length p s (Some at) rises = performed_length p s at (slice_get s.queue at) rises

pub settled_length : (p : Performs) (n : ℕ) (s : Settling) → Rises s.objects → length (settle_up_to p n s).objects ≡ length s.objects
settled_length p zero s rises = refl
settled_length p (suc n) s rises =
    settled_length p n (stepped p s (next_ready p s.objects s.queue)) (stepped_rises p s (next_ready p s.objects s.queue) rises)
    ∙ stepped_length p s (next_ready p s.objects s.queue) rises
