use Rattle.std.proofs.Common.{◌++◌}
use Rattle.orca_syntax.specs.Shown.{exprs}
use Rattle.type_rules.specs.Expressions.{acts, operation_rules}
use Rattle.type_exprs.specs.Callees.{invoked_as, used_as}
use Rattle.type_exprs.proofs.Firsts.{first_of_three, found_as}
use Rattle.type_exprs.proofs.calls.operation_found.Goals as goal

pub returns : goal.returns
returns c = λ w s bs is_bs.
    let o = c.args.object.now in
    let here = acts w o.at in
    let own = operation_rules (used_as c.args.way) o c.args.operation.now (exprs c.args.given.now) (invoked_as c.args.is) in
    let all = here ++ (own ++ bs) in
    found_as c.unless.result all _ _
    (c.unless.ensures all
    (first_of_three c.acts.result c.operation_rules-own.result c.args.inside c.lesser.result c.lesser-first.result here own bs c.lesser.ensures
    c.lesser-first.ensures (c.acts.ensures w s) c.operation_rules-own.ensures is_bs))
    (c.in_ok-gives.ensures {u = tt})
