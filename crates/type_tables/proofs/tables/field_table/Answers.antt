use Rattle.std.proofs.Common.{ℕ, ◌+◌, List, cond, Some, None, map, drop, find, sym, ap, ◌∙◌}
use Rattle.std.specs.Prelude.{bytes_eq, option_map}
use Rattle.orca_tree.specs.declared.tree.TypedName as tree
use Rattle.orca_syntax.specs.Shown.{typed_name}
use Rattle.type_rules.specs.TypePhrases.{data_found}
use Rattle.type_rules.specs.Scopes.{type_of}
use Rattle.std.proofs.Math.ListN.{drop_of_length-le}
use Rattle.type_forms.proofs.Loops.{rest_is}
use Rattle.type_tables.specs.Entries.{entry, or_other}
use Rattle.type_tables.proofs.Noted.{found_step, or_other_none}
use Rattle.type_tables.proofs.tables.field_table.Goals as goal

pub fields-preserved : goal.fields-preserved
fields-preserved c = λ us t w v f.
    let x = c.field-item.result in
    found_step (bytes_eq x.name.text f) (entry c.fields.table f) (entry c.note.new.table f) _ c.in_ok-kind.kind (λ d. type_of (data_found w d.kind)) (typed_name x)
    (find (λ d. bytes_eq d.name.text f) (map typed_name (drop (c.fields.field-index + 1) c.args.fields.now)))
    (find (λ d. bytes_eq d.name.text f) (map typed_name (drop c.fields.field-index c.args.fields.now)))
    ((c.in_ok-note.ensures {u = tt}) f ∙ ap (λ (n : List ℕ). or_other (entry c.fields.table f) (cond (bytes_eq n f) (Some c.in_ok-kind.kind) None)) c.as_str.ensures)
    ((c.in_ok-kind.ensures {u = tt}) us t w v)
    (ap (λ (l : List tree.TypedName). find (λ d. bytes_eq d.name.text f) (map typed_name l))
    (rest_is c.args.fields.now c.fields.field-index x c.fields-test.true c.field-item.is))
    (c.fields.invariant us t w v f)

pub returns : goal.returns
returns c = λ us t w v f.
    or_other_none (entry c.fields.table f)
    ∙ ap (λ (l : List tree.TypedName). or_other (entry c.fields.table f) (option_map (λ d. type_of (data_found w d.kind)) (find (λ d. bytes_eq d.name.text f) (map typed_name l))))
    (sym (drop_of_length-le c.args.fields.now c.fields-test.false))
    ∙ c.fields.invariant us t w v f
