use Rattle.std.proofs.Common.{◌++◌, ap, ◌∙◌}
use Rattle.type_rules.specs.Rules.{asks, fits}
use Rattle.type_exprs.specs.Wanted.{test}
use Rattle.type_exprs.proofs.Firsts.{asked, first_of_three}
use Rattle.type_exprs.proofs.operators.operands.Goals as goal

pub returns : goal.returns
returns c = λ f g is_f is_g.
    let rule = c.args.rule in
    let wants = test c.args.wanted in
    let left = asks rule c.args.at (fits wants f.is) in
    let right = g.breaches ++ asks rule c.args.place (fits wants g.is) in
    c.unless.ensures (f.breaches ++ (left ++ right))
    (first_of_three c.args.left.first c.asks.result c.wanting.result c.lesser.result c.lesser-first.result f.breaches left right c.lesser.ensures
    c.lesser-first.ensures is_f.first
    (asked rule c.args.at c.asks.result c.meets.result _ c.asks.ensures (c.meets.ensures ∙ ap (fits wants) is_f.is))
    (c.wanting.ensures g is_g))
