-- What is so of settling by its definition, whatever performs the operations.
use Rattle.std.specs.Prelude.{List}
use Rattle.orca_base.specs.declared.ids.KindNo.{KindNo}
use Rattle.orca_base.specs.declared.ids.OpNo.{OpNo}
use Rattle.value_core.specs.Datum.{Data}
use Rattle.value_core.specs.Fits.{Kinds, ExtendsKinds}
use Rattle.value_core.specs.Meaning.{Performs}
use Rattle.value_core.specs.History.{Objects}
use Rattle.guard_queue.specs.declared.queue.Suspended.{Suspended}
use Rattle.guard_queue.specs.Fitting.{Fitting, kinds_of}
use Rattle.guard_queue.specs.Settles.{AllBlocked, settled}
use Rattle.guard_queue.specs.Shown.{Rises}

-- after settling each suspended call is blocked
abbrev pub SettlesBlocked : Performs → Type 0
SettlesBlocked p = (objects : Objects) (queue : List Suspended) →
    AllBlocked p (settled p objects queue).objects (settled p objects queue).queue

-- what fits goes on fitting, over whichever types
abbrev pub SettlesFitting : (Kinds → KindNo → Data → Type 0) → (Kinds → KindNo → OpNo → Data → Type 0) → Performs → Type 0
SettlesFitting fits_state fits_args p =
    (kinds : Kinds) (objects : Objects) (queue : List Suspended) → Fitting fits_state fits_args kinds objects queue
    → Fitting fits_state fits_args kinds (settled p objects queue).objects (settled p objects queue).queue

-- each object stays, by its type
abbrev pub SettlesTyped : Performs → Type 0
SettlesTyped p = (objects : Objects) (queue : List Suspended) → ExtendsKinds (kinds_of objects) (kinds_of (settled p objects queue).objects)

-- ids that rise go on rising
abbrev pub SettlesRising : Performs → Type 0
SettlesRising p = (objects : Objects) (queue : List Suspended) → Rises objects → Rises (settled p objects queue).objects
