use Rattle.std.proofs.Common.{rules, List, map, ap, ◌∙◌, arith}
use Rattle.std.proofs.Math.Path.{fun_ext}
use Rattle.std.proofs.lemmas.List.{take_all}
use Rattle.meaning_rules.specs.Openings.{types_in}
use Rattle.type_forms.specs.declared.tops.Top.{Top}
use Rattle.type_forms.specs.Seen.{top}
use Rattle.type_tables.specs.Entries.{entry}
use Rattle.type_tables.proofs.Tabled.{tabled}
use Rattle.program_tables.specs.declared.records.Record.{Record}
use Rattle.program_tables.specs.Listed.{IsRecord, field_places}
use Rattle.program_tables.proofs.records.records_of.Goals as goal

pub tops-preserved : goal.tops-preserved
tops-preserved c = λ us t.
    let own : IsRecord us (top c.item-item.result) c.in_ok-own.own = (c.in_ok-own.ensures {u = tt}) (λ n. search rules) us t in (
      ap (map (λ (r : Record). entry r.places)) c.in_ok-push.ensures.items
          ∙ tabled top field_places (λ (r : Record). entry r.places) c.tops-tops.result.now c.tops.item-index c.item-item.result c.tops.all.items c.in_ok-own.own c.tops-test.true c.item-item.is
          (c.tops.invariant us t).0 (fun_ext own.places),
      ap (map (λ (r : Record). r.types.items)) c.in_ok-push.ensures.items
          ∙ tabled top (types_in us) (λ (r : Record). r.types.items) c.tops-tops.result.now c.tops.item-index c.item-item.result c.tops.all.items c.in_ok-own.own c.tops-test.true c.item-item.is
          (c.tops.invariant us t).1 own.types,
    )

pub returns : goal.returns
returns c = λ us t.
    let whole = take_all c.tops.item-index c.tops-tops.result.now (omega (arith, c.tops-test.false)) in
    record {
      places = (c.tops.invariant us t).0 ∙ ap (λ (l : List Top). map field_places (map top l)) whole ∙ ap (map field_places) (c.tops-tops.ensures us t.forms.names);
      types = (c.tops.invariant us t).1 ∙ ap (λ (l : List Top). map (types_in us) (map top l)) whole ∙ ap (map (types_in us)) (c.tops-tops.ensures us t.forms.names);
    }
