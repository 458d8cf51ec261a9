use Rattle.std.proofs.Common.{◌≡◌, drop}
use Rattle.std.specs.Prelude.{flat_map}
use Rattle.type_rules.specs.Order.{least, lesser}
use Rattle.type_rules.specs.Declarations as rules
use Rattle.type_decls.proofs.names.none_main.Given as goal

abbrev pub invariant-names : goal.invariant-names
invariant-names l = lesser l.first (least (flat_map rules.no_main (drop l.name-index l.names))) ≡ least (flat_map rules.no_main l.names)
