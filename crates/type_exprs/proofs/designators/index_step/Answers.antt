use Rattle.std.proofs.Common.{◌++◌, Option, Some, subst, sym, ap, ◌∙◌}
use Rattle.type_rules.specs.declared.types.DataType.{DataType}
use Rattle.type_rules.specs.Types.{outside_of}
use Rattle.type_rules.specs.Rules.{asks}
use Rattle.type_rules.specs.Expressions.{index_of, index_step, is_indexed_by}
use Rattle.type_forms.specs.Finding.{Finds}
use Rattle.type_exprs.proofs.Firsts.{asked, first_of_two, found_as}
use Rattle.type_exprs.proofs.designators.index_step.Goals as goal

pub returns : goal.returns
returns c = λ g is_g.
    let at = c.args.at in
    let k = c.in-Some.kind in
    let wanted = index_of (outside_of k) in
    let own = asks 40 at (is_indexed_by wanted g.is) in
    let r = c.unless-in-Some.result in
    subst (λ (o : Option DataType). Finds r (index_step at g o)) (sym c.in-Some.is)
    (found_as r (own ++ g.breaches) _ _
    (c.unless-in-Some.ensures (own ++ g.breaches)
    (first_of_two c.asks-breach.result c.args.index.first c.lesser.result own g.breaches c.lesser.ensures
    (asked 40 at c.asks-breach.result c.is_indexed_by.result _ c.asks-breach.ensures
    (c.is_indexed_by.ensures ∙ ap (λ (o : Option DataType). is_indexed_by o c.args.index.is) c.index_of-wanted.ensures ∙ ap (is_indexed_by wanted) is_g.is))
    is_g.first))
    (ap (λ (t : DataType). Some t) (c.in_ok-inside-in-Some.ensures {u = tt})))
