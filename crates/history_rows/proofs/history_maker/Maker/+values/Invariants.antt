-- Each value inside has one level less.
use Rattle.std.proofs.Common.{◌+◌, ◌*◌}
use Rattle.history_rows.proofs.history_maker.Maker.+values.Given as goal

abbrev pub decreases-put_list : goal.decreases-put_list
decreases-put_list l = 2 * l.levels + 1

abbrev pub decreases-put_value : goal.decreases-put_value
decreases-put_value l = 2 * l.levels

abbrev pub invariant-put_list-loop-nth : goal.invariant-put_list-loop-nth
invariant-put_list-loop-nth l = Unit {0}
