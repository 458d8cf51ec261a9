use Rattle.std.proofs.Common.{sym, ap, refl, ◌∙◌}
use Rattle.orca_syntax.specs.Shown.{definition}
use Rattle.type_forms.specs.declared.tops.What.{What}
use Rattle.type_forms.specs.Seen.{top, what}
use Rattle.type_rules.specs.TypePhrases.{whole_module}
use Rattle.type_rules.specs.Expressions.{field_of_what}
use Rattle.type_tables.proofs.Calls.{defined_fields}
use Rattle.type_tables.proofs.tables.item_fields.Goals as goal

pub returns-in_ok-definition_fields-in-TypeName : goal.returns-in_ok-definition_fields-in-TypeName
returns-in_ok-definition_fields-in-TypeName c = λ none us t f.
    (c.in_ok-definition_fields-in-TypeName.ensures {u = tt}) us t (whole_module us (top c.args.item.now)) (record { program = refl; home = refl; names = none }) f
    ∙ defined_fields us (top c.args.item.now) f (definition c.in-TypeName.definition.now)
    ∙ sym (ap (λ (w : What). field_of_what us (top c.args.item.now) f (what w)) c.in-TypeName.is)
