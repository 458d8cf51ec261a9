use Rattle.std.proofs.Common.{◌≡◌, List, drop, map}
use Rattle.std.specs.Prelude.{flat_map}
use Rattle.link_rules.specs.Units.{Source, source}
use Rattle.type_rules.specs.Breaches.{type_error, unit_breaches}
use Rattle.type_decls.specs.Contexts.{IsContext}
use Rattle.type_decls.proofs.units.units_judged.Given as goal

abbrev pub invariant-units : goal.invariant-units
invariant-units l = (us : List Source) → IsContext us l.context →
    flat_map (λ u. map (type_error u) (unit_breaches us u)) (map source (drop l.unit-index l.units))
    ≡ flat_map (λ u. map (type_error u) (unit_breaches us u)) (map source l.units)
