-- What fits copies of pools and flags, and why an entry or a read is refused.
use Rattle.std.specs.Prelude.{◌≡◌, ◌-◌, ◌^◌, [], Some}
use Rattle.orca_base.specs.declared.ids.KindNo.{KindNo}
use Rattle.orca_base.specs.declared.ids.OpNo.{OpNo}
use Rattle.orca_base.specs.declared.ids.ObjectId.{ObjectId}
use Rattle.value_core.specs.Datum.{Data}
use Rattle.value_core.specs.declared.action.Instance.{Instance}
use Rattle.value_core.specs.Fits.{Kinds}
use Rattle.value_core.specs.History.{Objects, object_at}
use Rattle.value_core.specs.declared.action.Action.{Action}
use Rattle.object_manager.specs.After.{Copied}
use Rattle.object_manager.specs.Applies.{Applies, AppliesSingle, CopiesBlocked, CopiesFit}
use Rattle.object_manager.specs.Limits.{IfLimit, too_many}
use Rattle.object_manager.specs.Singles.{IsMake}
use Rattle.object_manager.specs.Viewed.{StatesFit}
use Rattle.object_manager.specs.declared.copies.ApplyError.TheVariants as apply
use Rattle.bag_performer.specs.Bags.{bag_performs}
use Rattle.bag_performer.specs.Fitting.{FitsArgs, FitsState}
use Rattle.bag_copies.specs.declared.entries.Refused.{Refused}
use Rattle.bag_copies.specs.declared.entries.Refused.TheVariants as refused

-- what fits, over whatever types
abbrev pub BagState : Kinds → KindNo → Data → Type 0
BagState kinds = FitsState

abbrev pub BagArgs : Kinds → KindNo → OpNo → Data → Type 0
BagArgs kinds = FitsArgs

-- all fits, and each suspended call is blocked
abbrev pub FitsAll : Copied → Type 0
FitsAll c = CopiesFit BagState BagArgs c × CopiesBlocked bag_performs c

-- each object's state fits its type, over some types
abbrev pub ViewFits : Objects → Type 0
ViewFits objects = (kinds : Kinds) × StatesFit BagState kinds objects

-- the object exists, by this type
abbrev pub HasObject : Objects → KindNo → ObjectId → Type 0
HasObject objects kind object = (kept : Instance) × (object_at objects object ≡ Some kept) × (kept.kind ≡ kind)

-- why an entry with this action wasn't applied; a limit is exactly where it is reached
abbrev pub IsEntryRefusal : Copied → Action → Refused → Type 0
IsEntryRefusal c action refused.Object = Applies BagArgs c action → ⊥
IsEntryRefusal c action refused.Entries = c.applied ≡ 2 ^ 64 - 1
IsEntryRefusal c action (refused.Copies why) = IfLimit why (too_many bag_performs c action)

-- why an entry with this action wasn't applied as a make of a single object
abbrev pub IsPassRefusal : Copied → Action → Refused → Type 0
IsPassRefusal c action refused.Object = IsMake action → Applies BagArgs c action → ⊥
IsPassRefusal c action refused.Entries = c.applied ≡ 2 ^ 64 - 1
IsPassRefusal c action (refused.Copies why) = IfLimit why (too_many bag_performs c action)

-- why a call on a single object wasn't tried
abbrev pub IsSingleRefusal : Copied → Action → Refused → Type 0
IsSingleRefusal c action refused.Object = AppliesSingle BagArgs c action → ⊥
IsSingleRefusal c action refused.Entries = ⊥
IsSingleRefusal c action (refused.Copies why) = why ≡ apply.NoMemory

-- why no copies were made from a state
abbrev pub IsSendRefusal : Copied → Refused → Type 0
IsSendRefusal c refused.Object = c.singles ≡ [] → ⊥
IsSendRefusal c refused.Entries = ⊥
IsSendRefusal c (refused.Copies why) = why ≡ apply.NoMemory

-- why an operation wasn't tried
abbrev pub IsReadRefusal : Objects → KindNo → OpNo → ObjectId → Data → Refused → Type 0
IsReadRefusal objects kind op object args refused.Object = HasObject objects kind object → FitsArgs kind op args → ⊥
IsReadRefusal objects kind op object args refused.Entries = ⊥
IsReadRefusal objects kind op object args (refused.Copies why) = why ≡ apply.NoMemory
