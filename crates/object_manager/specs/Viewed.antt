-- Snapshots of one member's copies, and what a read asks of them.
use Rattle.std.specs.Prelude.{◌≡◌, ℕ, Some}
use Rattle.orca_base.specs.declared.ids.KindNo.{KindNo}
use Rattle.orca_base.specs.declared.ids.OpNo.{OpNo}
use Rattle.orca_base.specs.declared.ids.ObjectId.{ObjectId}
use Rattle.value_core.specs.Datum.{Data}
use Rattle.value_core.specs.declared.action.Instance.{Instance}
use Rattle.value_core.specs.Fits.{Kinds}
use Rattle.value_core.specs.History.{Objects, object_at}
use Rattle.guard_queue.specs.Fitting.{OperationFits}

-- the replicated objects, and the number of entries that the copies had applied
pub record Viewed : Type 0 where
  pub objects : Objects
  pub place : ℕ

-- over these types each object's state fits its own
abbrev pub StatesFit : (Kinds → KindNo → Data → Type 0) → Kinds → Objects → Type 0
StatesFit fits_state kinds objects = (object : ObjectId) (kept : Instance) → object_at objects object ≡ Some kept →
    fits_state kinds kept.kind kept.state

-- over some types, each object's state fits its own, and the arguments fit the operation of an object that is there by its type
abbrev pub ReadFits : (Kinds → KindNo → Data → Type 0) → (Kinds → KindNo → OpNo → Data → Type 0) → Objects → KindNo → OpNo →
    ObjectId → Data → Type 0
ReadFits fits_state fits_args objects kind op object args = (kinds : Kinds) × StatesFit fits_state kinds objects
    × OperationFits fits_args kinds objects kind op object args
