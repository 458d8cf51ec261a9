use Rattle.std.proofs.Common.{◌≡◌, drop, map}
use Rattle.std.specs.List.{list_any}
use Rattle.link_rules.specs.Units.{imports, source}
use Rattle.type_forms.specs.Seen.{is_imported}
use Rattle.type_forms.proofs.index.imports_directly.Given as goal

abbrev pub invariant-units : goal.invariant-units
invariant-units l =
    list_any (is_imported l.home l.by) (imports (map source l.units)) ≡ list_any (is_imported l.home l.by) (imports (map source (drop l.unit-index l.units)))
