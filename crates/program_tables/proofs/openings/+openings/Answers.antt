use Rattle.std.proofs.Common.{◌≡◌, ℕ, suc, ◌-◌, List, [], ◌∷◌, ◌++◌, Option, take, map, sym, ap, ◌∙◌, arith}
use Rattle.link_rules.specs.Units.{Source}
use Rattle.type_rules.specs.declared.types.DataType.{DataType}
use Rattle.value_core.specs.Datum.{Datum, Data, data_of, data_of-list_of, list_of}
use Rattle.value_core.specs.Datum as datum
use Rattle.value_core.specs.View.{datum_of}
use Rattle.meaning_rules.specs.Openings.{field_types, record_opening, type_opening}
use Rattle.program_tables.proofs.Opened.{mapped_more}
use Rattle.program_tables.proofs.openings.+openings.Goals as goal

pub fields_opening-fields-preserved : goal.fields_opening-fields-preserved
fields_opening-fields-preserved t c = λ us types.
    let f = type_opening (record_opening us c.args.levels) in
    (c.in_ok-push.ensures {u = tt}).ok
    ∙ ap (λ (l : List Datum). l ++ datum_of c.in_ok-value.value ∷ []) (c.fields.invariant us types)
    ∙ ap (λ (v : Datum). map f (take c.fields.kind-index c.args.types.now) ++ v ∷ []) ((c.in_ok-value.ensures {u = tt}) us types ∙ ap f c.of_known.ensures)
    ∙ sym (mapped_more f c.args.types.now c.fields.kind-index c.kind-item.result c.fields-test.true c.kind-item.is)

-- fields that open with one record less in one another make a record
made : (us : List Source) (levels number : ℕ) (fields boxed : Data) (types : List (Option DataType)) → suc (levels - 1) ≡ levels → boxed ≡ fields →
    list_of fields ≡ map (type_opening (record_opening us (levels - 1))) types → types ≡ field_types us number →
    datum.fields boxed ≡ record_opening us levels number
made us levels number fields boxed types some is front are =
    ap (λ (d : Data). datum.fields d)
    (is ∙ sym (data_of-list_of fields) ∙ ap data_of (front ∙ ap (map (type_opening (record_opening us (levels - 1)))) are))
    ∙ ap (λ (k : ℕ). record_opening us k number) some

pub record_opening-returns : goal.record_opening-returns
record_opening-returns t c = λ us types.
    made us c.args.levels c.args.number c.in_ok-fields.fields c.in_ok-new.field-0 c.types_at.result.now (omega (arith, c.if-levels-eq0.false))
    (c.in_ok-new.ensures {u = tt}) ((c.in_ok-fields.ensures {u = tt}) us types) (c.types_at.ensures ∙ types c.args.number)
