-- What is always so of one member's copies.
use Rattle.std.specs.Prelude.{◌≡◌, ◌≤◌, None, Some}
use Rattle.orca_base.specs.declared.ids.ObjectId.{ObjectId}
use Rattle.value_core.specs.History.{object_at, output_kind, output_object}
use Rattle.guard_queue.specs.Fitting.{kind_at}
use Rattle.guard_queue.specs.Shown.{Rises}
use Rattle.object_manager.specs.After.{Copied}
use Rattle.object_manager.specs.Limits.{made_objects, most_objects, most_processes}
use Rattle.object_manager.specs.Singles.{AreCounted, IsCounted}

-- the output object is replicated, and of its type; the ids of the replicated objects rise; each single object that is kept here
-- was counted; no object is both counted as single and replicated; and there are no more objects and processes than a run may have
pub record IsWhole (c : Copied) : Type 0 where
  pub output : kind_at c.objects output_object ≡ Some output_kind
  pub rises : Rises c.objects
  pub counted : AreCounted c.own c.singles
  pub apart : (object : ObjectId) → IsCounted c.singles object → object_at c.objects object ≡ None
  pub some : 1 ≤ c.processes
  pub few : c.processes ≤ most_processes
  pub made : made_objects c ≤ most_objects
