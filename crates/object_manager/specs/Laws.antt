-- What is so of copies by their definitions, whatever performs the operations.
use Rattle.std.specs.Prelude.{◌≡◌, ◌-◌, Bool, [], length}
use Rattle.orca_base.specs.declared.ids.KindNo.{KindNo}
use Rattle.orca_base.specs.declared.ids.OpNo.{OpNo}
use Rattle.value_core.specs.Datum.{Data}
use Rattle.value_core.specs.Fits.{Kinds, ExtendsKinds}
use Rattle.value_core.specs.Meaning.{Performs}
use Rattle.value_core.specs.declared.message.Message.{Message}
use Rattle.guard_queue.specs.Fitting.{kinds_of}
use Rattle.guard_queue.specs.Settles.{AllBlocked}
use Rattle.guard_queue.specs.Shown.{Rises}
use Rattle.object_manager.specs.After.{Copied, after}
use Rattle.object_manager.specs.Applies.{Applies, AppliesSingle, CopiesBlocked, CopiesFit}
use Rattle.object_manager.specs.Limits.{made_objects}
use Rattle.object_manager.specs.Singles.{AreCounted, after_passed, after_single, kinds_at}
use Rattle.object_manager.specs.State.{HasNoSingles, state_of}

-- after a message each suspended call on a replicated object is blocked
abbrev pub AfterBlocked : Performs → Type 0
AfterBlocked p = (c : Copied) (message : Message) → AllBlocked p (after p c message).objects (after p c message).queue

-- what fits goes on fitting
abbrev pub AfterFitting : (Kinds → KindNo → Data → Type 0) → (Kinds → KindNo → OpNo → Data → Type 0) → Performs → Type 0
AfterFitting fits_state fits_args p =
    (c : Copied) (message : Message) → CopiesFit fits_state fits_args c → Applies fits_args c message.action →
    CopiesFit fits_state fits_args (after p c message)

-- each object stays, by its type
abbrev pub AfterTyped : (Kinds → KindNo → OpNo → Data → Type 0) → Performs → Type 0
AfterTyped fits_args p = (c : Copied) (message : Message) → Applies fits_args c message.action →
    ExtendsKinds (kinds_at c) (kinds_at (after p c message))

-- ids that rise go on rising
abbrev pub AfterRising : Performs → Type 0
AfterRising p = (c : Copied) (message : Message) → Rises c.objects → Rises (after p c message).objects

-- what stays of copies, and what goes on: all fits, each suspended call is blocked, what is kept here was counted, and each
-- object stays by its type
pub record GoesOn (fits_state : Kinds → KindNo → Data → Type 0) (fits_args : Kinds → KindNo → OpNo → Data → Type 0) (p : Performs)
    (before now : Copied) : Type 0 where
  pub fits : CopiesFit fits_state fits_args now
  pub blocked : CopiesBlocked p now
  pub counted : AreCounted now.own now.singles
  pub types : ExtendsKinds (kinds_at before) (kinds_at now)

-- so it is after an entry
abbrev pub EntryGoesOn : (Kinds → KindNo → Data → Type 0) → (Kinds → KindNo → OpNo → Data → Type 0) → Performs → Type 0
EntryGoesOn fits_state fits_args p = (c : Copied) (message : Message) → CopiesFit fits_state fits_args c → CopiesBlocked p c →
    AreCounted c.own c.singles → Applies fits_args c message.action → GoesOn fits_state fits_args p c (after p c message)

-- after an entry that makes a single object
abbrev pub PassedGoesOn : (Kinds → KindNo → Data → Type 0) → (Kinds → KindNo → OpNo → Data → Type 0) → Performs → Type 0
PassedGoesOn fits_state fits_args p = (keeps : Bool) (c : Copied) (message : Message) → CopiesFit fits_state fits_args c →
    CopiesBlocked p c → AreCounted c.own c.singles → Applies fits_args c message.action →
    GoesOn fits_state fits_args p c (after_passed p keeps c message)

-- and after a call on a single object
abbrev pub SingleGoesOn : (Kinds → KindNo → Data → Type 0) → (Kinds → KindNo → OpNo → Data → Type 0) → Performs → Type 0
SingleGoesOn fits_state fits_args p = (c : Copied) (message : Message) → CopiesFit fits_state fits_args c → CopiesBlocked p c →
    AreCounted c.own c.singles → AppliesSingle fits_args c message.action →
    GoesOn fits_state fits_args p c (after_single p c message)

-- the types of all objects and the number of objects made are those of the replicated ones, and an entry counts no single object
pub record IsPlain (p : Performs) (c : Copied) (message : Message) : Type 0 where
  pub types : kinds_at c ≡ kinds_of c.objects
  pub made : made_objects c ≡ length c.objects - 1
  pub none : (after p c message).singles ≡ []

-- so it is with no single object
abbrev pub WithoutSingles : Performs → Type 0
WithoutSingles p = (c : Copied) (message : Message) → c.singles ≡ [] → IsPlain p c message

-- where no object was counted as single, none is kept here and no call waits on one
abbrev pub NoneKept : (Kinds → KindNo → Data → Type 0) → (Kinds → KindNo → OpNo → Data → Type 0) → Type 0
NoneKept fits_state fits_args =
    (c : Copied) → CopiesFit fits_state fits_args c → AreCounted c.own c.singles → c.singles ≡ [] → HasNoSingles c

-- copies without single objects are what their state says
abbrev pub StatesTell : Type 0
StatesTell = (c d : Copied) → HasNoSingles c → HasNoSingles d → state_of c ≡ state_of d → c ≡ d
