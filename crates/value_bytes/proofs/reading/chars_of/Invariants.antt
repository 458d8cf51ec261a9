use Rattle.std.proofs.Common.{◌≡◌, ◌-◌, true}
use Rattle.value_bytes.specs.Reading.{byte_at, chars_at, items_at, last_of}
use Rattle.value_bytes.proofs.Loop.{with_front}
use Rattle.value_bytes.proofs.reading.chars_of.Given as goal

abbrev pub invariant-loop : goal.invariant-loop
invariant-loop l = with_front l.chars.items (items_at (byte_at 127 l.end) (λ last c. true) l.end (l.count - l.counter) (last_of l.chars.items) l.rest) ≡ chars_at l.end l.count l.bytes
