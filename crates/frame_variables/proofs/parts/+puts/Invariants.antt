use Rattle.std.proofs.Common.{◌+◌, ◌-◌, ◌*◌, length}
use Rattle.frame_variables.proofs.parts.+puts.Given as goal

abbrev pub decreases-put_in_array : goal.decreases-put_in_array
decreases-put_in_array l = 2 * (length l.path.now - l.from) + 1

abbrev pub decreases-put_in_record : goal.decreases-put_in_record
decreases-put_in_record l = 2 * (length l.path.now - l.from) + 1

abbrev pub decreases-put_in_graph : goal.decreases-put_in_graph
decreases-put_in_graph l = 2 * (length l.path.now - l.from) + 1

abbrev pub decreases-put_from : goal.decreases-put_from
decreases-put_from l = 2 * (length l.path.now - l.from)
