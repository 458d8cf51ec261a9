-- Settling by rounds on copies.
use Rattle.std.specs.Prelude.{◌≡◌, ℕ, List, Option, None, Some, slice_get}
use Rattle.orca_base.specs.declared.ids.ObjectId.{ObjectId}
use Rattle.value_core.specs.Meaning.{Performs}
use Rattle.value_core.specs.History.{Objects}
use Rattle.value_core.specs.declared.meaning.Tried.{Tried}
use Rattle.value_core.specs.declared.meaning.Tried.TheVariants as tried
use Rattle.guard_queue.specs.declared.queue.Suspended.{Suspended}
use Rattle.guard_queue.specs.declared.settling.Rounds.{Rounds}
use Rattle.guard_queue.specs.Settles.{Settling, stands, tried_in}

-- the copies as they stand
abbrev pub settling_of : Rounds → Settling
settling_of r = stands r.objects r.queue r.lines

-- where an object is named, each call on another one is blocked
abbrev pub OthersBlocked : Performs → Objects → List Suspended → Option ObjectId → Type 0
OthersBlocked p objects queue None = Unit {0}
OthersBlocked p objects queue (Some object) =
    (at : ℕ) (call : Suspended) → slice_get queue at ≡ Some call → (call.object ≡ object → ⊥) → tried_in p objects call ≡ tried.Blocked

-- a try of the call at this place gives this
abbrev pub IsTriedAt : Performs → Objects → List Suspended → ℕ → Tried → Type 0
IsTriedAt p objects queue at t = (call : Suspended) × (slice_get queue at ≡ Some call) × (t ≡ tried_in p objects call)
