use Rattle.std.proofs.Common.{List, ◌++◌, ap, ◌∙◌}
use Rattle.orca_syntax.specs.Shown.{exprs}
use Rattle.type_rules.specs.Order.{least}
use Rattle.type_rules.specs.declared.signature.Formal.{Formal}
use Rattle.type_rules.specs.Expressions.{function_rules, roots_differ, signature_of}
use Rattle.type_exprs.specs.Callees.{called_as, used_as}
use Rattle.type_exprs.proofs.Firsts.{first_of_three, found_as}
use Rattle.type_exprs.proofs.calls.function_found.Goals as goal

pub returns : goal.returns
returns c = λ w s bs is_bs.
    let es = exprs c.args.given.now in
    let is = called_as c.args.is in
    let own = function_rules w (used_as c.args.way) c.args.name.now es is in
    let again = roots_differ (signature_of is).formals es in
    let all = own ++ (bs ++ again) in
    found_as c.unless.result all _ _
    (c.unless.ensures all
    (first_of_three c.function_rules-own.result c.args.inside c.in_ok-again.again c.lesser.result c.lesser-2.result own bs again c.lesser.ensures
    c.lesser-2.ensures (c.function_rules-own.ensures w s) is_bs
    (c.in_ok-again.ensures {u = tt} ∙ ap (λ (l : List Formal). least (roots_differ l es)) c.formals_of.ensures)))
    (c.in_ok-gives.ensures {u = tt})
