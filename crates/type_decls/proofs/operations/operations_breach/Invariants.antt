use Rattle.std.proofs.Common.{◌≡◌, List, drop, map}
use Rattle.std.specs.Prelude.{flat_map}
use Rattle.orca_syntax.specs.Shown.{operation}
use Rattle.orca_syntax.specs.Syntax.{Variables}
use Rattle.link_rules.specs.Units.{Source}
use Rattle.type_rules.specs.Order.{least, lesser}
use Rattle.type_rules.specs.Declarations as rules
use Rattle.type_decls.specs.Contexts.{IsContext}
use Rattle.type_decls.specs.Fields.{AreFields}
use Rattle.type_decls.proofs.operations.operations_breach.Given as goal

abbrev pub invariant-operations : goal.invariant-operations
invariant-operations l = (us : List Source) → IsContext us l.context → (fs : List Variables) → AreFields us l.home fs l.fields → AreFields us l.home fs l.initial.seen →
    (lesser l.first (least (flat_map (rules.operation_breaches us l.home fs) (map operation (drop l.operation-index l.operations))))
    ≡ least (flat_map (rules.operation_breaches us l.home fs) (map operation l.operations)))
    × AreFields us l.home fs l.seen
