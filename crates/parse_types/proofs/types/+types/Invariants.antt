use Rattle.std.proofs.Common.{◌+◌, ◌*◌}
use Rattle.parse_types.proofs.types.+types.Given as goal

abbrev pub decreases-type_phrase : goal.decreases-type_phrase
decreases-type_phrase l = 4 * l.depth

abbrev pub decreases-array_type : goal.decreases-array_type
decreases-array_type l = 4 * l.depth + 2

abbrev pub decreases-set_type : goal.decreases-set_type
decreases-set_type l = 4 * l.depth + 2

abbrev pub decreases-bag_type : goal.decreases-bag_type
decreases-bag_type l = 4 * l.depth + 2

abbrev pub decreases-element_type : goal.decreases-element_type
decreases-element_type l = 4 * l.depth + 1
