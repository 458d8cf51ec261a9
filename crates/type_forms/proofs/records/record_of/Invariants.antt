use Rattle.std.proofs.Common.{◌≤◌, length, List, map, drop}
use Rattle.orca_syntax.specs.Shown.{typed_name}
use Rattle.link_rules.specs.Units.{Source}
use Rattle.type_rules.specs.Constants.{View}
use Rattle.type_rules.specs.TypePhrases.{record_of}
use Rattle.type_forms.specs.Finding.{Finds}
use Rattle.type_forms.specs.Forms.{AreForms}
use Rattle.type_forms.specs.Measures.{cut_found, declared_in}
use Rattle.type_forms.specs.Views.{IsView}
use Rattle.type_forms.proofs.records.record_of.Given as goal

abbrev pub invariant-fields : goal.invariant-fields
invariant-fields l = (l.left ≤ length l.fields)
    × ((us : List Source) → AreForms us l.forms → (w : View) → IsView us l.view w →
    Finds l.found (cut_found (record_of (declared_in l.forms.types.now) w l.number (map typed_name (drop l.left l.fields)))))

abbrev pub decreases-fields : goal.decreases-fields
decreases-fields l = l.left
