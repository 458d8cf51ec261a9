use Rattle.std.proofs.Common.{◌≡◌, List, map, take}
use Rattle.orca_syntax.specs.Shown.{typed_name}
use Rattle.link_rules.specs.Units.{Source}
use Rattle.type_rules.specs.Constants.{View}
use Rattle.type_rules.specs.TypePhrases.{data_found}
use Rattle.type_rules.specs.Scopes.{type_of}
use Rattle.type_forms.specs.Forms.{AreTyped}
use Rattle.type_forms.specs.Views.{IsView}
use Rattle.program_tables.proofs.records.field_types.Given as goal

abbrev pub invariant-fields : goal.invariant-fields
invariant-fields l = (us : List Source) → AreTyped us l.forms → (w : View) → IsView us l.view w →
    l.types.items ≡ map (λ f. type_of (data_found w f.kind)) (map typed_name (take l.field-index l.fields))
