use Rattle.std.proofs.Common.{◌≡◌, [], drop, take, map}
use Rattle.link_rules.specs.Rules.{repeated}
use Rattle.orca_modules.specs.Seen.{Knows, definition}
use Rattle.orca_modules.proofs.rules.distinct.Given as goal

-- the tables have what was passed, and none of it is repeated
abbrev pub invariant-definitions : goal.invariant-definitions
invariant-definitions l =
    Knows l.tables (map definition (take l.part-index l.definitions))
    × (repeated [] (map definition l.definitions)
    ≡ repeated (map definition (take l.part-index l.definitions)) (map definition (drop l.part-index l.definitions)))
