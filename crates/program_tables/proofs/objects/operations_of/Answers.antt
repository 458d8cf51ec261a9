use Rattle.std.proofs.Common.{List, map, ap, ◌∙◌, arith}
use Rattle.std.proofs.Math.Path.{fun_ext}
use Rattle.std.proofs.lemmas.List.{take_all}
use Rattle.type_forms.specs.declared.tops.Top.{Top}
use Rattle.type_forms.specs.Seen.{top}
use Rattle.type_tables.specs.Entries.{entry}
use Rattle.type_tables.proofs.Tabled.{tabled}
use Rattle.program_tables.specs.Listed.{operation_places}
use Rattle.program_tables.proofs.objects.operations_of.Goals as goal

pub tops-preserved : goal.tops-preserved
tops-preserved c =
    ap (map (λ m. entry m)) c.in_ok-push.ensures.items
    ∙ tabled top operation_places (λ m. entry m) c.tops-tops.result.now c.tops.item-index c.item-item.result c.tops.all.items c.in_ok-own.own c.tops-test.true c.item-item.is
    c.tops.invariant (fun_ext (c.in_ok-own.ensures {u = tt}))

pub returns : goal.returns
returns c = λ us t.
    c.tops.invariant
    ∙ ap (λ (l : List Top). map operation_places (map top l)) (take_all c.tops.item-index c.tops-tops.result.now (omega (arith, c.tops-test.false)))
    ∙ ap (map operation_places) (c.tops-tops.ensures us t)
