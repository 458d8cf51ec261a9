-- Each value inside has one level less.
use Rattle.std.proofs.Common.{◌≡◌, ◌+◌, ◌*◌, ◌-◌, map, length, None}
use Rattle.value_core.specs.View.{datum_of}
use Rattle.value_texts.specs.Reading.{closing, last_of, part_at, until_at, value_at}
use Rattle.value_texts.proofs.Turns.{with_front}
use Rattle.value_texts.proofs.reading.+values.Given as goal

abbrev pub invariant-parts_in-loop : goal.invariant-parts_in-loop
invariant-parts_in-loop l =
    with_front (map datum_of l.parts.items) (until_at (part_at (value_at l.levels) l.brackets) (closing l.brackets) (length l.text - l.counter) (last_of (map datum_of l.parts.items)) l.rest)
    ≡ until_at (part_at (value_at l.levels) l.brackets) (closing l.brackets) (length l.text) None l.text

abbrev pub decreases-value_in : goal.decreases-value_in
decreases-value_in l = 6 * l.levels

abbrev pub decreases-part_in : goal.decreases-part_in
decreases-part_in l = 6 * l.levels + 1

abbrev pub decreases-parts_in : goal.decreases-parts_in
decreases-parts_in l = 6 * l.levels + 2

abbrev pub decreases-list_in : goal.decreases-list_in
decreases-list_in l = 6 * l.levels + 3

abbrev pub decreases-content_in : goal.decreases-content_in
decreases-content_in l = 6 * l.levels + 4

abbrev pub decreases-first_in : goal.decreases-first_in
decreases-first_in l = 6 * l.levels + 5
