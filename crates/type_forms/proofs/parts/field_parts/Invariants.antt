use Rattle.std.proofs.Common.{◌≡◌, ◌++◌, List, drop, map}
use Rattle.std.specs.Prelude.{flat_map, filter_map}
use Rattle.orca_syntax.specs.Shown.{typed_name}
use Rattle.link_rules.specs.Units.{Source}
use Rattle.type_rules.specs.TypePhrases.{names_of}
use Rattle.type_forms.specs.Indexed.{Indexes}
use Rattle.type_forms.specs.Parts.{part_named}
use Rattle.type_forms.proofs.parts.field_parts.Given as goal

abbrev pub invariant-fields : goal.invariant-fields
invariant-fields l = (us : List Source) → Indexes l.index us →
    l.parts.items ++ filter_map (part_named us l.home) (flat_map (λ f. names_of f.kind) (map typed_name (drop l.field-index l.fields)))
    ≡ filter_map (part_named us l.home) (flat_map (λ f. names_of f.kind) (map typed_name l.fields))
