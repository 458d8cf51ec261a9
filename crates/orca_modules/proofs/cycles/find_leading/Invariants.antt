use Rattle.std.proofs.Common.{◌≡◌, map}
use Rattle.std.specs.Prelude.{true}
use Rattle.orca_modules.specs.Seen.{has, import_line}
use Rattle.orca_modules.specs.Leading.{AllLead, outside}
use Rattle.orca_modules.proofs.cycles.find_leading.Given as goal

abbrev pub invariant-passes : goal.invariant-passes
invariant-passes l = AllLead (map import_line l.lines) l.target l.names × (has l.names l.target ≡ true)

abbrev pub decreases-passes : goal.decreases-passes
decreases-passes l = outside l.names (map import_line l.lines)
