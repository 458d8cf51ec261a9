use Rattle.std.proofs.Common.{ℕ, ◌+◌, List, ◌++◌, drop, map, ap, ◌∙◌}
use Rattle.std.specs.Prelude.{flat_map, filter_map}
use Rattle.std.proofs.lemmas.List.Elements.{filter_map-append}
use Rattle.orca_tree.specs.declared.tree.TypedName as tree
use Rattle.orca_syntax.specs.Shown.{kind, typed_name}
use Rattle.type_rules.specs.TypePhrases.{names_of}
use Rattle.type_forms.specs.Parts.{part_named}
use Rattle.type_forms.proofs.Loops.{appended, rest_is}
use Rattle.type_forms.proofs.parts.field_parts.Goals as goal

pub fields-preserved : goal.fields-preserved
fields-preserved c = λ us x.
    let own = names_of (kind c.field-item.result.kind) in
    let named = filter_map (part_named us c.args.home.now) in
    let rest = flat_map (λ f. names_of f.kind) (map typed_name (drop (c.fields.field-index + 1) c.args.fields.now)) in
    appended c.fields.parts.items c.note.new.parts.items (named own) (named rest) _ _
    (c.in_ok-note.ensures {u = tt} ∙ ap (λ (l : List ℕ). c.fields.parts.items ++ l) (c.part_in-part.ensures us x))
    (ap (λ (l : List tree.TypedName). named (flat_map (λ f. names_of f.kind) (map typed_name l)))
    (rest_is c.args.fields.now c.fields.field-index c.field-item.result c.fields-test.true c.field-item.is)
    ∙ filter_map-append (part_named us c.args.home.now) own rest)
    (c.fields.invariant us x)
