-- That a call is its object's own: what it does, and what it lets run, depends on its object and the calls on it alone (Bal, Kaashoek,
-- Tanenbaum 1992, section 2: an operation works on one object). So an object that one member keeps, with the calls on it, goes on
-- beside others as it would by itself.
use Rattle.std.specs.Prelude.{◌≡◌}
use Rattle.orca_base.specs.declared.ids.KindNo.{KindNo}
use Rattle.orca_base.specs.declared.ids.OpNo.{OpNo}
use Rattle.orca_base.specs.declared.ids.ObjectId.{ObjectId}
use Rattle.value_core.specs.Datum.{Data}
use Rattle.value_core.specs.declared.action.Action.TheVariants as action
use Rattle.value_core.specs.declared.message.Message.{Message}
use Rattle.value_core.specs.Meaning.{Performs}
use Rattle.value_core.specs.History.{object_at}
use Rattle.guard_queue.specs.Apart.{calls_on}
use Rattle.guard_queue.specs.Settles.{AllBlocked}
use Rattle.object_manager.specs.After.{Copied, after, lines_after}

-- the message performs the same lines on the copies as on `alone`, and leaves the same of this object and of the calls on it; every
-- other object and the calls on it stay
pub record AfterAlike (p : Performs) (c alone : Copied) (message : Message) (object : ObjectId) : Type 0 where
  pub lines : lines_after p c message ≡ lines_after p alone message
  pub kept : object_at (after p c message).objects object ≡ object_at (after p alone message).objects object
  pub queue : calls_on object (after p c message).queue ≡ (after p alone message).queue
  pub others :
      (id : ObjectId) → (id ≡ object → ⊥) →
      (object_at (after p c message).objects id ≡ object_at c.objects id)
      × (calls_on id (after p c message).queue ≡ calls_on id c.queue)

-- so it is with a call, where each suspended call is blocked, on any `alone` that has the same object and the calls on it
abbrev pub AfterApart : Performs → Type 0
AfterApart p =
    (c alone : Copied) (message : Message) (kind : KindNo) (op : OpNo) (object : ObjectId) (args : Data) →
    message.action ≡ action.Call kind op object args → AllBlocked p c.objects c.queue →
    object_at c.objects object ≡ object_at alone.objects object → calls_on object c.queue ≡ alone.queue →
    AfterAlike p c alone message object
