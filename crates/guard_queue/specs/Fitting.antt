-- What fits on a member's copies: each object its type, and each suspended call its object's operation.
use Rattle.std.specs.Prelude.{◌≡◌, ℕ, List, map, Option, Some, option_map, slice_get}
use Rattle.orca_base.specs.declared.ids.KindNo.{KindNo}
use Rattle.orca_base.specs.declared.ids.OpNo.{OpNo}
use Rattle.orca_base.specs.declared.ids.ObjectId.{ObjectId}
use Rattle.value_core.specs.Datum.{Data}
use Rattle.value_core.specs.declared.action.Instance.{Instance}
use Rattle.value_core.specs.Fits.{Kinds}
use Rattle.value_core.specs.History.{Objects, object_at}
use Rattle.guard_queue.specs.declared.queue.Suspended.{Suspended}

-- the objects with their types
abbrev pub kinds_of : Objects → Kinds
kinds_of objects = map (λ e. (e.0, e.1.kind)) objects

abbrev pub kind_in : Option Instance → Option KindNo
kind_in o = option_map (λ (k : Instance). k.kind) o

-- the type of the object with this id, if there is one
abbrev pub kind_at : Objects → ObjectId → Option KindNo
kind_at objects object = kind_in (object_at objects object)

-- the object exists and is of this type, and the arguments fit the operation
pub record OperationFits (fits_args : Kinds → KindNo → OpNo → Data → Type 0) (kinds : Kinds) (objects : Objects) (of_kind : KindNo)
    (op : OpNo) (object : ObjectId) (given : Data) : Type 0 where
  pub kept : Instance
  pub exists : object_at objects object ≡ Some kept
  pub kind : kept.kind ≡ of_kind
  pub args : fits_args kinds of_kind op given

-- that, of a suspended call
abbrev pub CallFits : (Kinds → KindNo → OpNo → Data → Type 0) → Kinds → Objects → Suspended → Type 0
CallFits fits_args kinds objects call = OperationFits fits_args kinds objects call.kind call.op call.object call.args

-- each object's state fits its type, and each call its object
pub record Fitting (fits_state : Kinds → KindNo → Data → Type 0) (fits_args : Kinds → KindNo → OpNo → Data → Type 0) (kinds : Kinds)
    (objects : Objects) (queue : List Suspended) : Type 0 where
  pub states : (object : ObjectId) (kept : Instance) → object_at objects object ≡ Some kept → fits_state kinds kept.kind kept.state
  pub calls : (at : ℕ) (call : Suspended) → slice_get queue at ≡ Some call → CallFits fits_args kinds objects call

-- over some types all fits
abbrev pub SomeFit : (Kinds → KindNo → Data → Type 0) → (Kinds → KindNo → OpNo → Data → Type 0) → Objects → List Suspended → Type 0
SomeFit fits_state fits_args objects queue = (kinds : Kinds) × Fitting fits_state fits_args kinds objects queue

-- over whichever types the first ones fit, the others do
abbrev pub GoOnFitting : (Kinds → KindNo → Data → Type 0) → (Kinds → KindNo → OpNo → Data → Type 0) →
    Objects → List Suspended → Objects → List Suspended → Type 0
GoOnFitting fits_state fits_args objects queue after left = (kinds : Kinds) →
    Fitting fits_state fits_args kinds objects queue → Fitting fits_state fits_args kinds after left

-- the operation can be tried: its object's state and its arguments fit, where the object exists
pub record CanTry (fits_state : Kinds → KindNo → Data → Type 0) (fits_args : Kinds → KindNo → OpNo → Data → Type 0) (objects : Objects)
    (kind : KindNo) (op : OpNo) (object : ObjectId) (given : Data) : Type 0 where
  pub kinds : Kinds
  pub state : (kept : Instance) → object_at objects object ≡ Some kept → fits_state kinds kind kept.state
  pub args : fits_args kinds kind op given

-- that, of a suspended call
abbrev pub CanTryCall : (Kinds → KindNo → Data → Type 0) → (Kinds → KindNo → OpNo → Data → Type 0) → Objects → Suspended → Type 0
CanTryCall fits_state fits_args objects call = CanTry fits_state fits_args objects call.kind call.op call.object call.args
