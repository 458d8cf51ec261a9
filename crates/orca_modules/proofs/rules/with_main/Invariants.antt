use Rattle.std.proofs.Common.{◌≡◌, drop, map}
use Rattle.std.specs.List.{list_any}
use Rattle.link_rules.specs.Rules.{is_main}
use Rattle.orca_modules.specs.Seen.{definition}
use Rattle.orca_modules.proofs.rules.with_main.Given as goal

abbrev pub invariant-definitions : goal.invariant-definitions
invariant-definitions l = list_any is_main (map definition l.definitions) ≡ list_any is_main (map definition (drop l.part-index l.definitions))
