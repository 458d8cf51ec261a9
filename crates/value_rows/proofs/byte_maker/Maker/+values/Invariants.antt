-- Each value inside has one level less.
use Rattle.std.proofs.Common.{◌+◌, ◌*◌}
use Rattle.value_rows.proofs.byte_maker.Maker.+values.Given as goal

abbrev pub decreases-put_list : goal.decreases-put_list
decreases-put_list l = 2 * l.levels + 1

abbrev pub decreases-put_value : goal.decreases-put_value
decreases-put_value l = 2 * l.levels

abbrev pub invariant-put_list-loop : goal.invariant-put_list-loop
invariant-put_list-loop l = Unit {0}
