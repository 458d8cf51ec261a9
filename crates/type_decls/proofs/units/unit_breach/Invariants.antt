use Rattle.std.proofs.Common.{◌≡◌, List, drop, map}
use Rattle.std.specs.Prelude.{flat_map}
use Rattle.orca_syntax.specs.Shown.{decl}
use Rattle.link_rules.specs.Units.{Source}
use Rattle.type_rules.specs.Order.{least, lesser}
use Rattle.type_rules.specs.Declarations as rules
use Rattle.type_decls.specs.Contexts.{IsContext}
use Rattle.type_decls.proofs.units.unit_breach.Given as goal

abbrev pub invariant-declarations : goal.invariant-declarations
invariant-declarations l = (us : List Source) → IsContext us l.context →
    lesser l.first (least (flat_map (rules.decl_breaches us l.home) (map decl (drop l.part-index l.unit.unit.declarations.items))))
    ≡ least (flat_map (rules.decl_breaches us l.home) (map decl l.unit.unit.declarations.items))
