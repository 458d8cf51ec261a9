-- What was read, and what is still read, are all.
use Rattle.std.proofs.Common.{◌≡◌, ◌-◌, None, map}
use Rattle.orca_base.specs.declared.limits.TheConstants.{VALUE_NESTING}
use Rattle.value_core.specs.View.{datum_of}
use Rattle.value_bytes.specs.Reading.{items_at, last_of, value_at}
use Rattle.packet_bytes.specs.Reading.{any}
use Rattle.value_bytes.proofs.Loop.{with_front}
use Rattle.packet_bytes.proofs.fields.values_of.Given as goal

abbrev pub invariant-loop : goal.invariant-loop
invariant-loop l =
    with_front (map datum_of l.values.items) (items_at (value_at l.end VALUE_NESTING) any l.end (l.count - l.counter) (last_of (map datum_of l.values.items)) l.rest)
    ≡ items_at (value_at l.end VALUE_NESTING) any l.end l.count None l.bytes
