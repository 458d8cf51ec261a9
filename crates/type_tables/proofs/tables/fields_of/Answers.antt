use Rattle.std.proofs.Common.{rules, map, ap, ◌∙◌}
use Rattle.std.proofs.Math.Path.{fun_ext}
use Rattle.type_forms.specs.Seen.{top}
use Rattle.type_tables.specs.Entries.{entry}
use Rattle.type_tables.specs.Tables.{fields_at}
use Rattle.type_tables.proofs.Tabled.{tabled}
use Rattle.type_tables.proofs.tables.fields_of.Goals as goal

pub items-preserved : goal.items-preserved
items-preserved c = λ us t.
    ap (map (λ m. entry m)) c.in_ok-push.ensures.items
    ∙ tabled top (fields_at us) (λ m. entry m) c.tops-tops.result.now c.items.item-index c.item-item.result c.items.all.items c.in_ok-own.own c.items-test.true c.item-item.is
    (c.items.invariant us t) (fun_ext ((c.in_ok-own.ensures {u = tt}) (λ n. search rules) us t))
