use Rattle.std.proofs.Common.{◌++◌, Option, Some, ap, ◌∙◌}
use Rattle.type_rules.specs.declared.types.DataType.{DataType}
use Rattle.type_rules.specs.Rules.{asks}
use Rattle.type_rules.specs.Expressions.{are_compared}
use Rattle.type_exprs.proofs.Firsts.{asked, first_of_three, found_as}
use Rattle.type_exprs.proofs.operators.relation.Goals as goal

pub returns : goal.returns
returns c = λ f g is_f is_g.
    let at = c.args.at in
    let l = c.args.left in
    let r = c.args.right in
    let own = asks 37 at (are_compared f.is g.is) in
    let all = f.breaches ++ (g.breaches ++ own) in
    found_as c.unless.result all _ _
    (c.unless.ensures all
    (first_of_three l.first r.first c.asks-order.result c.lesser.result c.lesser-first.result f.breaches g.breaches own c.lesser.ensures c.lesser-first.ensures
    is_f.first is_g.first
    (asked 37 at c.asks-order.result c.are_compared.result _ c.asks-order.ensures
    (c.are_compared.ensures ∙ ap (λ (o : Option DataType). are_compared o r.is) is_f.is ∙ ap (are_compared f.is) is_g.is))))
    (ap (λ (t : DataType). Some t) c.plain.ensures)
