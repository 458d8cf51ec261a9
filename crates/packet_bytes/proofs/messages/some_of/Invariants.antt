-- What was read, and what is still read, are all.
use Rattle.std.proofs.Common.{◌≡◌, ◌-◌, None}
use Rattle.value_bytes.specs.Reading.{items_at, last_of}
use Rattle.packet_bytes.specs.Reading.{any, message_at}
use Rattle.value_bytes.proofs.Loop.{with_front}
use Rattle.packet_bytes.proofs.messages.some_of.Given as goal

abbrev pub invariant-loop : goal.invariant-loop
invariant-loop l =
    with_front l.messages.items (items_at (message_at l.end) any l.end (l.count - l.counter) (last_of l.messages.items) l.rest)
    ≡ items_at (message_at l.end) any l.end l.count None l.bytes
