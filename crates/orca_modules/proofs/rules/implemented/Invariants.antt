use Rattle.std.proofs.Common.{◌≡◌, drop, map}
use Rattle.std.specs.Prelude.{List, filter}
use Rattle.link_rules.specs.Units.{Defined}
use Rattle.link_rules.specs.Rules.{is_unimplemented}
use Rattle.orca_modules.specs.Seen.{Knows, definition}
use Rattle.orca_modules.proofs.rules.implemented.Given as goal

abbrev pub invariant-definitions : goal.invariant-definitions
invariant-definitions l = (ds : List Defined) → Knows l.tables ds →
    filter (is_unimplemented ds) (map definition l.definitions) ≡ filter (is_unimplemented ds) (map definition (drop l.part-index l.definitions))
