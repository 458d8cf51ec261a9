use Rattle.std.proofs.Common.{◌≡◌, ◌+◌, ◌*◌, List, map, take}
use Rattle.link_rules.specs.Units.{Source}
use Rattle.value_core.specs.Datum.{list_of}
use Rattle.meaning_rules.specs.Openings.{record_opening, type_opening}
use Rattle.program_tables.specs.Listed.{HaveTypes}
use Rattle.program_tables.proofs.openings.+openings.Given as goal

-- the fields so far
abbrev pub invariant-fields_opening-fields : goal.invariant-fields_opening-fields
invariant-fields_opening-fields l = (us : List Source) → HaveTypes us l.records →
    list_of l.fields ≡ map (type_opening (record_opening us l.levels)) (take l.kind-index l.types)

abbrev pub decreases-type_opening : goal.decreases-type_opening
decreases-type_opening l = 4 * l.levels + 3

abbrev pub decreases-base_opening : goal.decreases-base_opening
decreases-base_opening l = 4 * l.levels + 2

abbrev pub decreases-record_opening : goal.decreases-record_opening
decreases-record_opening l = 4 * l.levels + 1

abbrev pub decreases-fields_opening : goal.decreases-fields_opening
decreases-fields_opening l = 4 * l.levels + 4
