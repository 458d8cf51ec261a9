use Rattle.std.proofs.Common.{◌≡◌, ℕ, ◌||◌, List, drop, map}
use Rattle.std.specs.List.{list_any}
use Rattle.link_rules.specs.Units.{imports, source}
use Rattle.type_forms.specs.Seen.{has, is_imported}
use Rattle.type_forms.proofs.modules.imported_by.Given as goal

abbrev pub invariant-units : goal.invariant-units
invariant-units l = (n : List ℕ) →
    (has l.names n || list_any (is_imported l.by n) (imports (map source (drop l.unit-index l.units))))
    ≡ list_any (is_imported l.by n) (imports (map source l.units))
