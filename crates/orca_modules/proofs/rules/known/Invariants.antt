use Rattle.std.proofs.Common.{◌≡◌, drop, map}
use Rattle.std.specs.Prelude.{List, filter}
use Rattle.link_rules.specs.Units.{Defined}
use Rattle.link_rules.specs.Rules.{is_unknown}
use Rattle.orca_modules.specs.Seen.{Knows, import_line}
use Rattle.orca_modules.proofs.rules.known.Given as goal

abbrev pub invariant-imports : goal.invariant-imports
invariant-imports l = (ds : List Defined) → Knows l.tables ds →
    filter (is_unknown ds) (map import_line l.lines) ≡ filter (is_unknown ds) (map import_line (drop l.line-index l.lines))
