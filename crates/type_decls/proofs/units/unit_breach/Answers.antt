use Rattle.std.proofs.Common.{◌≡◌, ℕ, ◌<◌, ◌≤◌, List, length, get_or, map, subst, ap, ◌∙◌}
use Rattle.std.specs.Prelude.{flat_map}
use Rattle.std.proofs.Math.ListN.{drop_of_length-le}
use Rattle.orca_tree.specs.declared.tree.Declaration.{Declaration}
use Rattle.orca_syntax.specs.Shown.{decl}
use Rattle.type_rules.specs.Order.{least}
use Rattle.type_rules.specs.Declarations.{decl_breaches}
use Rattle.type_decls.proofs.FirstOnes.{shown_end, shown_further}
use Rattle.type_decls.proofs.units.unit_breach.Goals as goal

pub declarations-preserved : goal.declarations-preserved
declarations-preserved c = λ us ctx.
    let i = c.declarations.part-index in
    let x = c.part-item.result in
    let same = c.deref-part-items.ensures.value in
    shown_further decl (decl_breaches us c.module_of-home.result.now) c.args.unit.now.unit.declarations.items i x c.declarations.first c.in_ok-own.own
    c.lesser-first.result _ (subst (λ (l : List Declaration). i < length l) same c.declarations-test.true)
    (subst (λ (l : List Declaration). x ≡ get_or l i x) same c.part-item.is) c.lesser-first.ensures ((c.in_ok-own.ensures {u = tt}) us ctx)
    (c.declarations.invariant us ctx)

pub returns : goal.returns
returns c = λ us ctx.
    let items = c.args.unit.now.unit.declarations.items in
    shown_end decl (decl_breaches us c.module_of-home.result.now) items c.declarations.part-index c.declarations.first _
    (drop_of_length-le items (subst (λ (l : List Declaration). length l ≤ c.declarations.part-index) c.deref-part-items.ensures.value c.declarations-test.false))
    (c.declarations.invariant us ctx)
    ∙ ap (λ (m : List ℕ). least (flat_map (decl_breaches us m) (map decl items))) c.module_of-home.ensures
