use Rattle.std.proofs.Common.{◌≡◌, ℕ, List, map, drop, find}
use Rattle.std.specs.Prelude.{bytes_eq, option_map}
use Rattle.orca_syntax.specs.Shown.{typed_name}
use Rattle.link_rules.specs.Units.{Source}
use Rattle.type_rules.specs.Constants.{View}
use Rattle.type_rules.specs.TypePhrases.{data_found}
use Rattle.type_rules.specs.Scopes.{type_of}
use Rattle.type_forms.specs.Forms.{AreTyped}
use Rattle.type_forms.specs.Views.{IsView}
use Rattle.type_tables.specs.Entries.{entry, or_other}
use Rattle.type_tables.proofs.tables.field_table.Given as goal

abbrev pub invariant-fields : goal.invariant-fields
invariant-fields l = (us : List Source) → AreTyped us l.forms → (w : View) → IsView us l.view w → (f : List ℕ) →
    or_other (entry l.table f) (option_map (λ d. type_of (data_found w d.kind)) (find (λ d. bytes_eq d.name.text f) (map typed_name (drop l.field-index l.fields))))
    ≡ option_map (λ d. type_of (data_found w d.kind)) (find (λ d. bytes_eq d.name.text f) (map typed_name l.fields))
