use Rattle.std.proofs.Common.{Some, map, subst, sym, ap, ◌∙◌}
use Rattle.std.specs.Prelude.{flat_map}
use Rattle.link_rules.specs.Units.{module_name, source}
use Rattle.type_rules.specs.declared.type_error.TypeError.{TypeError}
use Rattle.type_rules.specs.Breaches.{type_error, unit_breaches}
use Rattle.type_rules.specs.Declarations.{decl_breaches}
use Rattle.type_decls.specs.Judged.{Judges}
use Rattle.type_decls.proofs.Judging.{unit_broken, unit_whole}
use Rattle.type_decls.proofs.units.unit_judged.Goals as goal

pub returns-in-None : goal.returns-in-None
returns-in-None c = λ us ctx.
    let u = source c.args.unit.now in
    unit_whole u (flat_map (decl_breaches us (module_name u)) u.syntax.declarations) (sym c.in-None.is ∙ (c.in_ok-unit_breach.ensures {u = tt}) us ctx)

pub returns-in_ok-cause-in-Some : goal.returns-in_ok-cause-in-Some
returns-in_ok-cause-in-Some c = λ us ctx.
    let u = source c.args.unit.now in
    subst (λ r. Judges r (map (type_error u) (unit_breaches us u))) (sym c.refuse.ensures)
    (unit_broken u (flat_map (decl_breaches us (module_name u)) u.syntax.declarations) c.in-Some.breach
    (sym c.in-Some.is ∙ (c.in_ok-unit_breach.ensures {u = tt}) us ctx)
    ∙ ap (λ (e : TypeError). Some e) (sym (c.in_ok-cause-in-Some.ensures {u = tt})))
