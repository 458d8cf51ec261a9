use Rattle.std.proofs.Common.{◌≡◌, List, map, take}
use Rattle.orca_syntax.specs.Shown.{typed_name}
use Rattle.link_rules.specs.Units.{Source}
use Rattle.type_rules.specs.declared.signature.Formal.TheVariants.{ByValue}
use Rattle.type_rules.specs.Constants.{View}
use Rattle.type_rules.specs.TypePhrases.{data_found}
use Rattle.type_rules.specs.Scopes.{type_of}
use Rattle.type_forms.specs.Forms.{AreTyped}
use Rattle.type_forms.specs.Views.{IsView}
use Rattle.type_tables.proofs.signatures.value_formals.Given as goal

abbrev pub invariant-values : goal.invariant-values
invariant-values l = (us : List Source) → AreTyped us l.forms → (w : View) → IsView us l.view w →
    l.formals.items ≡ map (λ t. ByValue (type_of (data_found w t.kind))) (map typed_name (take l.value-index l.values))
