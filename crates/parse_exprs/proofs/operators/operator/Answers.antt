use Rattle.parse_exprs.specs.Chains.{links_at}
use Rattle.parse_exprs.proofs.OperatorLemmas.{operator_comes, operator_read}
use Rattle.parse_exprs.proofs.operators.operator.Goals as goal

pub returns : goal.returns
returns c =
    let level = links_at c.args.level in
    let first = c.in_ok-first.first.now in
    let op = c.in_ok-operator.ensures in (
      operator_comes level c.args.tokens.now first c.in_ok-first.rest.now c.in_ok-first.ensures op.0,
      λ d. operator_read level d c.args.tokens.now first c.in_ok-first.rest.now c.in_ok-operator.operator c.in_ok-first.ensures op.0 op.1,
      op.2,
    )
