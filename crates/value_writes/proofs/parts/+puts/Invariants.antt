use Rattle.std.proofs.Common.{◌+◌, ◌-◌, ◌*◌, length}
use Rattle.value_writes.proofs.parts.+puts.Given as goal

-- what is left of the path, and how many calls lead to the next part
abbrev pub decreases-put_in_array : goal.decreases-put_in_array
decreases-put_in_array l = 4 * (length l.path.now - l.from) + 1

abbrev pub decreases-put_in_record : goal.decreases-put_in_record
decreases-put_in_record l = 4 * (length l.path.now - l.from) + 1

abbrev pub decreases-put_in_nodes : goal.decreases-put_in_nodes
decreases-put_in_nodes l = 4 * (length l.path.now - l.from) + 1

abbrev pub decreases-put_in_graph : goal.decreases-put_in_graph
decreases-put_in_graph l = 4 * (length l.path.now - l.from) + 2

abbrev pub decreases-put_behind : goal.decreases-put_behind
decreases-put_behind l = 4 * (length l.path.now - l.from) + 3

abbrev pub decreases-put_from : goal.decreases-put_from
decreases-put_from l = 4 * (length l.path.now - l.from)
