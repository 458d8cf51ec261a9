use Rattle.std.proofs.Common.{◌≡◌, take, map}
use Rattle.std.specs.Prelude.{ℕ, List, true, false, ◌<◌, ◌≤◌}
use Rattle.orca_modules.specs.Seen.{has, import_line}
use Rattle.orca_modules.specs.Leading.{AllLead, IsClosed, outside}
use Rattle.orca_modules.proofs.cycles.widen.Given as goal

-- what is in the set leads to the target, as before; nothing is lost; where there was nothing new, what was passed is closed; and where
-- there was, fewer importers are outside
abbrev pub invariant-imports : goal.invariant-imports
invariant-imports l =
    ((target : List ℕ) → AllLead (map import_line l.lines) target l.initial.names → AllLead (map import_line l.lines) target l.names)
    × ((n : List ℕ) → has l.initial.names n ≡ true → has l.names n ≡ true)
    × (l.wider ≡ false → IsClosed (map import_line (take l.line-index l.lines)) l.names)
    × (outside l.names (map import_line l.lines) ≤ outside l.initial.names (map import_line l.lines))
    × (l.wider ≡ true → outside l.names (map import_line l.lines) < outside l.initial.names (map import_line l.lines))
