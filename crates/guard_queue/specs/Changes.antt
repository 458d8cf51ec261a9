-- What a message does before the queue settles, and what comes of it.
use Rattle.std.specs.Prelude.{◌≡◌, List, [], ◌∷◌, ◌++◌, Vec}
use Rattle.std.specs.declared.alloc.Global.{Global}
use Rattle.orca_base.specs.declared.ids.KindNo.{KindNo}
use Rattle.orca_base.specs.declared.ids.OpNo.{OpNo}
use Rattle.orca_base.specs.declared.ids.ObjectId.{ObjectId}
use Rattle.value_core.specs.Datum.{Data}
use Rattle.value_core.specs.declared.action.Instance.{Instance}
use Rattle.value_core.specs.Fits.{Kinds}
use Rattle.value_core.specs.Meaning.{Performs}
use Rattle.value_core.specs.History.{Objects, with_object}
use Rattle.value_core.specs.declared.meaning.Tried.TheVariants as tried
use Rattle.guard_queue.specs.Fitting.{Fitting}
use Rattle.guard_queue.specs.Settles.{Settling, behind, lines_of, settled, settled_from, stands, tried_in}
use Rattle.guard_queue.specs.declared.settling.Answered.{Answered}
use Rattle.guard_queue.specs.declared.queue.Suspended.{Suspended}
use Rattle.guard_queue.specs.declared.change.Change.{Change}
use Rattle.guard_queue.specs.declared.change.Change.TheVariants as change

-- the objects after a change
abbrev pub objects_changed : Objects → Change → Objects
objects_changed objects change.Nothing = objects
objects_changed objects (change.Puts object kept) = with_object objects object kept
objects_changed objects (change.Joins call) = objects

-- the suspended calls after a change
abbrev pub queue_changed : List Suspended → Change → List Suspended
queue_changed queue change.Nothing = queue
queue_changed queue (change.Puts object kept) = queue
queue_changed queue (change.Joins call) = queue ++ call ∷ []

-- over these types all fits before a change and after it
abbrev pub ChangeFits : (Kinds → KindNo → Data → Type 0) → (Kinds → KindNo → OpNo → Data → Type 0) → Kinds → Objects →
    List Suspended → Change → Type 0
ChangeFits fits_state fits_args kinds objects queue change = Fitting fits_state fits_args kinds objects queue
    × Fitting fits_state fits_args kinds (objects_changed objects change) (queue_changed queue change)

-- over whichever types that is so, these fit
abbrev pub KeepsFitting : (Kinds → KindNo → Data → Type 0) → (Kinds → KindNo → OpNo → Data → Type 0) → Objects →
    List Suspended → Change → Objects → List Suspended → Type 0
KeepsFitting fits_state fits_args objects queue change after left = (kinds : Kinds) →
    ChangeFits fits_state fits_args kinds objects queue change → Fitting fits_state fits_args kinds after left

-- a call that joins is blocked
abbrev pub JoinsBlocked : Performs → Objects → Change → Type 0
JoinsBlocked p objects change.Nothing = Unit {0}
JoinsBlocked p objects (change.Puts object kept) = Unit {0}
JoinsBlocked p objects (change.Joins call) = tried_in p objects call ≡ tried.Blocked

-- a change is made and the queue settles, with these lines in front
abbrev pub outcome : Performs → Objects → List Suspended → Change → Vec Answered Global → Settling
outcome p objects queue change lines = behind (lines_of lines.items)
    (settled p (objects_changed objects change) (queue_changed queue change))

-- an object is put in and the queue settles, with these lines in front
abbrev pub after_put : Performs → Objects → ObjectId → Instance → List Suspended → Vec Answered Global → Settling
after_put p objects object kept queue lines = settled_from p (stands (with_object objects object kept) queue lines)
