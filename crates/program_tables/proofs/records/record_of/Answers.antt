use Rattle.std.proofs.Common.{List, map, refl, ap, ◌∙◌}
use Rattle.std.specs.Prelude.{bytes_eq, position}
use Rattle.orca_syntax.specs.Syntax as syn
use Rattle.type_rules.specs.TypePhrases.{data_found, whole_module}
use Rattle.type_rules.specs.Scopes.{type_of}
use Rattle.type_forms.specs.Seen.{top}
use Rattle.program_tables.proofs.records.record_of.Goals as goal

pub returns : goal.returns
returns c = λ none us t. record {
  places = λ n. (c.in_ok-places.ensures {u = tt}) n ∙ ap (λ (fs : List syn.TypedName). position (λ f. bytes_eq f.name.text n) fs) c.fields_of-fields.ensures;
  types = (c.in_ok-types.ensures {u = tt}) us t (whole_module us (top c.args.item.now)) (record { program = refl; home = refl; names = none })
      ∙ ap (map (λ (f : syn.TypedName). type_of (data_found (whole_module us (top c.args.item.now)) f.kind))) c.fields_of-fields.ensures;
}
