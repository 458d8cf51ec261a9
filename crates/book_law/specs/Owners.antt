-- What an owner's copies have to do with a single copy: a call does there what it does to the single copy by itself.
use Rattle.std.specs.Prelude.{◌≡◌, Some}
use Rattle.orca_base.specs.declared.ids.ObjectId.{ObjectId}
use Rattle.value_core.specs.Meaning.{Performs}
use Rattle.value_core.specs.History.{object_at}
use Rattle.guard_queue.specs.Apart.{calls_on}
use Rattle.guard_queue.specs.Settles.{AllBlocked}
use Rattle.guard_queue.specs.declared.queue.Suspended.{Suspended}
use Rattle.object_manager.specs.After.{Copied}
use Rattle.object_manager.specs.Singles.{after_single, lines_single}
use Rattle.object_manager.specs.State.{message_of}
use Rattle.book_law.specs.Singles.{Single, after_on, lines_on}

-- the copies keep the single copy: its state, and the calls suspended on it
pub record Keeps (c : Copied) (x : Single) : Type 0 where
  pub state : object_at c.own x.object ≡ Some x.kept
  pub queue : calls_on x.object c.waits ≡ x.queue

-- a call performs the lines that it performs on the single copy, and leaves it as it leaves that; every other object that is kept
-- here, and the calls on it, stay
pub record DoesAlike (p : Performs) (c : Copied) (x : Single) (call : Suspended) : Type 0 where
  pub lines : lines_single p c (message_of call) ≡ lines_on p x call
  pub keeps : Keeps (after_single p c (message_of call)) (after_on p x call)
  pub others :
      (id : ObjectId) → (id ≡ x.object → ⊥) →
      (object_at (after_single p c (message_of call)).own id ≡ object_at c.own id)
      × (calls_on id (after_single p c (message_of call)).waits ≡ calls_on id c.waits)

-- so it is where each suspended call of single objects that are kept here is blocked
abbrev pub OwnersDoAlike : Type 0
OwnersDoAlike =
    (p : Performs) (c : Copied) (x : Single) (call : Suspended) → call.object ≡ x.object → AllBlocked p c.own c.waits → Keeps c x →
    DoesAlike p c x call
