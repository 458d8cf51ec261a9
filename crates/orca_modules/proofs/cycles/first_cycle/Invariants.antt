use Rattle.std.proofs.Common.{◌≡◌, drop, map}
use Rattle.std.specs.Prelude.{List, filter}
use Rattle.link_rules.specs.Units.{Source, imports}
use Rattle.link_rules.specs.Rules.{is_on_cycle}
use Rattle.orca_modules.specs.Seen.{import_line}
use Rattle.orca_modules.specs.Leading.{IsLeading}
use Rattle.orca_modules.proofs.cycles.first_cycle.Given as goal

abbrev pub invariant-imports : goal.invariant-imports
invariant-imports l =
    IsLeading (map import_line l.lines) l.last.target.now l.last.names
    × ((us : List Source) → imports us ≡ map import_line l.lines →
    filter (is_on_cycle us) (map import_line l.lines) ≡ filter (is_on_cycle us) (map import_line (drop l.line-index l.lines)))
