use Rattle.std.proofs.Common.{take, map}
use Rattle.orca_modules.specs.Seen.{import_line}
use Rattle.orca_modules.specs.Ranks.{Falls}
use Rattle.orca_modules.proofs.order.falls.Given as goal

abbrev pub invariant-imports : goal.invariant-imports
invariant-imports l = Falls l.ranks (map import_line (take l.line-index l.lines))
