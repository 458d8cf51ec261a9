use Rattle.std.proofs.Common.{Vec, Global, map, refl}
use Rattle.site_estimates.specs.declared.estimate.Estimate.{Estimate}
use Rattle.type_forms.specs.Seen.{top}
use Rattle.access_estimates.proofs.Listed.{adds_list, adds_none}
use Rattle.access_estimates.proofs.program.add_text.Goals as goal

pub returns-in_ok-push : goal.returns-in_ok-push
returns-in_ok-push c = λ us both.
    adds_list (λ (v : Vec Estimate Global). v.items) c.args.all.now.items _ c.in_ok-sites.sites _ c.is_process.result _ c.if-is_process.true c.is_process.ensures
    (c.in_ok-push.ensures {u = tt}).items ((c.in_ok-sites.ensures {u = tt}) us (top c.args.item.now) refl both)

pub returns-else-is_process : goal.returns-else-is_process
returns-else-is_process c = λ us both.
    adds_none (map (λ (v : Vec Estimate Global). v.items) c.args.all.now.items) _ c.is_process.result _ c.if-is_process.false c.is_process.ensures
