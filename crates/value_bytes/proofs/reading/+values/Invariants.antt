-- Each value inside has one level less.
use Rattle.std.proofs.Common.{◌≡◌, ◌+◌, ◌*◌, ◌-◌, map, None}
use Rattle.value_core.specs.View.{datum_of}
use Rattle.value_bytes.specs.Reading.{items_at, last_of, may_follow, value_at}
use Rattle.value_bytes.proofs.Loop.{with_front}
use Rattle.value_bytes.proofs.reading.+values.Given as goal

abbrev pub invariant-parts_of-loop : goal.invariant-parts_of-loop
invariant-parts_of-loop l =
    with_front (map datum_of l.parts.items) (items_at (value_at l.end l.levels) (may_follow l.tag) l.end (l.count - l.counter) (last_of (map datum_of l.parts.items)) l.rest)
    ≡ items_at (value_at l.end l.levels) (may_follow l.tag) l.end l.count None l.bytes

abbrev pub decreases-value_of : goal.decreases-value_of
decreases-value_of l = 5 * l.levels

abbrev pub decreases-part_of : goal.decreases-part_of
decreases-part_of l = 5 * l.levels + 1

abbrev pub decreases-parts_of : goal.decreases-parts_of
decreases-parts_of l = 5 * l.levels + 2

abbrev pub decreases-list_of : goal.decreases-list_of
decreases-list_of l = 5 * l.levels + 3

abbrev pub decreases-content_of : goal.decreases-content_of
decreases-content_of l = 5 * l.levels + 4
