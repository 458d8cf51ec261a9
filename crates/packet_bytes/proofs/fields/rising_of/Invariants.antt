-- What was read, and what is still read, are all.
use Rattle.std.proofs.Common.{◌≡◌, ◌-◌, None}
use Rattle.value_bytes.specs.Reading.{byte_at, items_at, last_of}
use Rattle.packet_bytes.specs.Reading.{rises}
use Rattle.value_bytes.proofs.Loop.{with_front}
use Rattle.packet_bytes.proofs.fields.rising_of.Given as goal

abbrev pub invariant-loop : goal.invariant-loop
invariant-loop l =
    with_front l.members.items (items_at (byte_at 15 l.end) rises l.end (l.count - l.counter) (last_of l.members.items) l.rest)
    ≡ items_at (byte_at 15 l.end) rises l.end l.count None l.bytes
