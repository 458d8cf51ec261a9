-- Each value inside has one level less.
use Rattle.std.proofs.Common.{◌+◌, ◌*◌}
use Rattle.value_rows.proofs.byte_plain.Plain.+values.Given as goal

abbrev pub decreases-list : goal.decreases-list
decreases-list l = 2 * l.levels + 1

abbrev pub decreases-value : goal.decreases-value
decreases-value l = 2 * l.levels

abbrev pub invariant-list-loop : goal.invariant-list-loop
invariant-list-loop l = Unit {0}
