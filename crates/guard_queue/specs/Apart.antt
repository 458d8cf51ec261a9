-- That an object settles apart: what comes of it, of the calls on it and of the lines depends on no other object, and no other
-- object depends on it (Bal, Kaashoek, Tanenbaum 1992, section 2: an operation works on one object).
use Rattle.std.specs.Prelude.{◌≡◌, List, [], ◌∷◌, ◌++◌, Some}
use Rattle.std.specs.List.{filter}
use Rattle.std.specs.BTreeMap.{is_at}
use Rattle.orca_base.specs.declared.ids.ObjectId.{ObjectId}
use Rattle.value_core.specs.declared.meaning.Tried.TheVariants as tried
use Rattle.value_core.specs.Meaning.{Performs}
use Rattle.value_core.specs.History.{Objects, object_at, object_cmp}
use Rattle.guard_queue.specs.declared.queue.Suspended.{Suspended}
use Rattle.guard_queue.specs.Rounds.{OthersBlocked}
use Rattle.guard_queue.specs.Settles.{AllBlocked, objects_with, settled, tried_in}

-- the calls on this object
abbrev pub calls_on : ObjectId → List Suspended → List Suspended
calls_on object queue = filter (λ (call : Suspended). is_at (object_cmp object) call.object) queue

-- settling performs the same lines, and leaves the same of this object and of the calls on it, where these calls stand alone on
-- `own`; every other object and the calls on it stay
pub record Apart (p : Performs) (objects : Objects) (calls : List Suspended) (object : ObjectId) (own : Objects) : Type 0 where
  pub lines : (settled p objects calls).lines ≡ (settled p own (calls_on object calls)).lines
  pub kept : object_at (settled p objects calls).objects object ≡ object_at (settled p own (calls_on object calls)).objects object
  pub queue : calls_on object (settled p objects calls).queue ≡ (settled p own (calls_on object calls)).queue
  pub others :
      (id : ObjectId) → (id ≡ object → ⊥) →
      (object_at (settled p objects calls).objects id ≡ object_at objects id)
      × (calls_on id (settled p objects calls).queue ≡ calls_on id calls)

-- where each call on another object is blocked, this object settles apart, on any objects that have the same at its id
abbrev pub SettlesApart : Performs → Type 0
SettlesApart p =
    (objects : Objects) (queue : List Suspended) (object : ObjectId) → OthersBlocked p objects queue (Some object) →
    (own : Objects) → object_at own object ≡ object_at objects object → Apart p objects queue object own

-- a call is its object's own: it is tried alike on `own`; where it is performed or faults, and where it is blocked and joins the queue
-- as the newest, its object settles apart; and every other object and the calls on it stay
pub record CallApart (p : Performs) (objects : Objects) (queue : List Suspended) (call : Suspended) (own : Objects) : Type 0 where
  pub tried_alike : tried_in p own call ≡ tried_in p objects call
  pub performed :
      Apart p (objects_with objects call (tried_in p objects call)) queue call.object (objects_with own call (tried_in p own call))
  pub joined : tried_in p objects call ≡ tried.Blocked → Apart p objects (queue ++ call ∷ []) call.object own
  pub newest : calls_on call.object (queue ++ call ∷ []) ≡ calls_on call.object queue ++ call ∷ []
  pub others :
      (id : ObjectId) → (id ≡ call.object → ⊥) →
      (object_at (objects_with objects call (tried_in p objects call)) id ≡ object_at objects id)
      × (calls_on id (queue ++ call ∷ []) ≡ calls_on id queue)

-- where each suspended call is blocked, a call is its object's own
abbrev pub CallsApart : Performs → Type 0
CallsApart p =
    (objects : Objects) (queue : List Suspended) (call : Suspended) → AllBlocked p objects queue →
    (own : Objects) → object_at own call.object ≡ object_at objects call.object → CallApart p objects queue call own
