-- Each value inside has one level less.
use Rattle.std.proofs.Common.{◌+◌, ◌*◌}
use Rattle.row_files.proofs.flat.+values.Given as goal

abbrev pub decreases-put_list : goal.decreases-put_list
decreases-put_list l = 2 * l.levels

abbrev pub decreases-put_value : goal.decreases-put_value
decreases-put_value l = 2 * l.levels + 1

abbrev pub invariant-put_list-loop-part : goal.invariant-put_list-loop-part
invariant-put_list-loop-part l = Unit {0}
