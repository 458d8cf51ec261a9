-- What a window has at a number.
use Rattle.std.specs.Prelude.{ℕ, ◌-◌, if◌then◌else◌, nat_le, slice_get, Option, None, Some}
use denote.Ref.{Bor}
use Rattle.history_buffer.specs.declared.history.Slot.{Slot}
use Rattle.history_buffer.specs.declared.history.Slot.TheVariants.{Found, Purged, NotYet}
use Rattle.history_buffer.specs.Window.{Window}

-- what is borrowed, and why it isn't there
abbrev pub slot_copied : {B : Type 0} → Slot (Bor B) → Slot B
slot_copied (Found item) = Found item.now
slot_copied Purged = Purged
slot_copied NotYet = NotYet

-- an entry, or none yet
abbrev pub slot_of : {B : Type 0} → Option B → Slot B
slot_of None = NotYet
slot_of (Some item) = Found item

-- the entry of this number: it is purged where the number is at most the base, and not there yet where it is beyond the last
abbrev pub slot_at : {B : Type 0} → Window B → ℕ → Slot B
slot_at w number = if nat_le number w.base then Purged else slot_of (slice_get w.items (number - w.base - 1))
