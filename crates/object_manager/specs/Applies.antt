-- What a message must meet to be applied.
use Rattle.std.specs.Prelude.{◌≡◌, None}
use Rattle.orca_base.specs.declared.ids.KindNo.{KindNo}
use Rattle.orca_base.specs.declared.ids.OpNo.{OpNo}
use Rattle.value_core.specs.Datum.{Data}
use Rattle.value_core.specs.declared.action.Action.{Action}
use Rattle.value_core.specs.declared.action.Action.TheVariants as action
use Rattle.value_core.specs.Fits.{Kinds}
use Rattle.value_core.specs.Meaning.{Performs}
use Rattle.value_core.specs.History.{object_at}
use Rattle.guard_queue.specs.Fitting.{Fitting, OperationFits}
use Rattle.guard_queue.specs.Settles.{AllBlocked}
use Rattle.object_manager.specs.After.{Copied}
use Rattle.object_manager.specs.Singles.{IsCounted, kinds_at}

-- over the types of all objects, each object's state fits its type, and each suspended call its object: of the replicated objects,
-- and of the single ones that are kept here
pub record CopiesFit (fits_state : Kinds → KindNo → Data → Type 0) (fits_args : Kinds → KindNo → OpNo → Data → Type 0)
    (c : Copied) : Type 0 where
  pub shared : Fitting fits_state fits_args (kinds_at c) c.objects c.queue
  pub own : Fitting fits_state fits_args (kinds_at c) c.own c.waits

-- each suspended call is blocked, on either side
pub record CopiesBlocked (p : Performs) (c : Copied) : Type 0 where
  pub shared : AllBlocked p c.objects c.queue
  pub own : AllBlocked p c.own c.waits

-- a make's object neither exists nor was counted as single; a call's is replicated, of its type, and its arguments fit the
-- operation
abbrev pub Applies : (Kinds → KindNo → OpNo → Data → Type 0) → Copied → Action → Type 0
Applies fits_args c (action.Make kind object) = (object_at c.objects object ≡ None) × (IsCounted c.singles object → ⊥)
Applies fits_args c (action.Call kind op object args) = OperationFits fits_args (kinds_at c) c.objects kind op object args
Applies fits_args c (action.Fork process args place_on) = Unit {0}
Applies fits_args c action.Ended = Unit {0}
Applies fits_args c (action.Faulted fault) = Unit {0}

-- the action is a call on a single object that is kept here, of its type, and its arguments fit the operation
abbrev pub AppliesSingle : (Kinds → KindNo → OpNo → Data → Type 0) → Copied → Action → Type 0
AppliesSingle fits_args c (action.Make kind object) = ⊥
AppliesSingle fits_args c (action.Call kind op object args) = OperationFits fits_args (kinds_at c) c.own kind op object args
AppliesSingle fits_args c (action.Fork process args place_on) = ⊥
AppliesSingle fits_args c action.Ended = ⊥
AppliesSingle fits_args c (action.Faulted fault) = ⊥
