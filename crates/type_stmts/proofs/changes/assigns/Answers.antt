use Rattle.std.proofs.Common.{Option, ap, ◌∙◌}
use Rattle.type_rules.specs.declared.types.DataType.{DataType}
use Rattle.type_rules.specs.Rules.{agree, asks}
use Rattle.type_exprs.proofs.Firsts.{asked, first_of_three}
use Rattle.type_stmts.proofs.changes.assigns.Goals as goal

pub returns : goal.returns
returns c = λ f g is_f is_g.
    let l = c.args.left in
    let r = c.args.right in
    first_of_three l.first r.first c.asks-one_type.result c.lesser.result c.lesser-2.result f.breaches g.breaches (asks 20 c.args.at (agree f.is g.is))
    c.lesser.ensures c.lesser-2.ensures is_f.first is_g.first
    (asked 20 c.args.at c.asks-one_type.result c.agree.result _ c.asks-one_type.ensures
    (c.agree.ensures ∙ ap (λ (o : Option DataType). agree o r.is) is_f.is ∙ ap (agree f.is) is_g.is))
