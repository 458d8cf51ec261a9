use Rattle.std.proofs.Common.{Option, ap, ◌∙◌}
use Rattle.type_rules.specs.declared.types.DataType.{DataType}
use Rattle.type_rules.specs.Rules.{asks}
use Rattle.type_rules.specs.Expressions.{is_element}
use Rattle.type_exprs.proofs.Firsts.{asked, first_of_three}
use Rattle.type_stmts.proofs.changes.changes.Goals as goal

pub returns : goal.returns
returns c = λ f g is_f is_g.
    let l = c.args.element in
    let r = c.args.all in
    first_of_three l.first r.first c.asks.result c.lesser.result c.lesser-2.result f.breaches g.breaches (asks 38 c.args.at (is_element f.is g.is))
    c.lesser.ensures c.lesser-2.ensures is_f.first is_g.first
    (asked 38 c.args.at c.asks.result c.in_ok-holds.holds _ c.asks.ensures
    (c.in_ok-holds.ensures {u = tt} ∙ ap (λ (o : Option DataType). is_element o r.is) is_f.is ∙ ap (is_element f.is) is_g.is))
