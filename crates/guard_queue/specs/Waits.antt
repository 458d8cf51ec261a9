-- Who waits in a queue of suspended calls, and on what.
use Rattle.std.specs.Prelude.{◌≡◌, ℕ, List, map, Option, None, Some, zero, suc, if◌then◌else◌}
use Rattle.std.specs.Arc.{arc_value}
use Rattle.std.specs.BTreeMap.{BTreeMap, get, is_at}
use Rattle.std.specs.List.{Any, count_by}
use Rattle.std.specs.Option.{unwrap_or}
use Rattle.std.specs.declared.alloc.Global.{Global}
use Rattle.std.specs.declared.sync.Arc.{Arc}
use Rattle.orca_base.specs.declared.ids.ObjectId.{ObjectId}
use Rattle.orca_base.specs.declared.ids.ProcessNo.{ProcessNo}
use Rattle.value_core.specs.History.{object_cmp}
use Rattle.guard_queue.specs.declared.queue.Suspended.{Suspended}

-- the calls, without how they are shared
abbrev pub called : List (Arc Suspended Global) → List Suspended
called calls = map arc_value calls

-- the process has a suspended call
abbrev pub IsWaiting : List Suspended → ProcessNo → Type 0
IsWaiting queue process = Any (λ (call : Suspended). call.process ≡ process) queue

-- a call on this object is suspended
abbrev pub IsWaitingOn : List Suspended → ObjectId → Type 0
IsWaitingOn queue object = Any (λ (call : Suspended). call.object ≡ object) queue

-- how many of the calls are on this object
abbrev pub waiting_on : List Suspended → ObjectId → ℕ
waiting_on queue object = count_by (λ (call : Suspended). is_at (object_cmp call.object) object) queue

-- what stands in an index for so many calls: nothing for none
abbrev pub entry_for : ℕ → Option ℕ
entry_for zero = None
entry_for (suc n) = Some (suc n)

-- how many calls the index has on this object
abbrev pub indexed : BTreeMap ObjectId ℕ → ObjectId → ℕ
indexed index object = unwrap_or (get object_cmp index object) 0

-- the index has how many of the calls are on each object
abbrev pub IsIndexOf : BTreeMap ObjectId ℕ → List Suspended → Type 0
IsIndexOf index calls = (object : ObjectId) → get object_cmp index object ≡ entry_for (waiting_on calls object)

-- the index after has so many calls on this object, and on each other one what the index before has
abbrev pub Indexes : BTreeMap ObjectId ℕ → ObjectId → ℕ → BTreeMap ObjectId ℕ → Type 0
Indexes before object n after = (other : ObjectId) →
    get object_cmp after other ≡ (if is_at (object_cmp object) other then entry_for n else get object_cmp before other)
