use Rattle.std.proofs.Common.{List, ◌++◌, option_map, subst, ap, ◌∙◌}
use Rattle.orca_syntax.specs.Shown.{expr, exprs}
use Rattle.type_rules.specs.declared.signature.Formal.{Formal}
use Rattle.type_rules.specs.Types.{is_integer}
use Rattle.type_rules.specs.Order.{least}
use Rattle.type_rules.specs.Expressions.{arguments, roots_differ}
use Rattle.type_rules.specs.Statements.{Forked, fork_rules, forked_signature, forks, wants_if_any}
use Rattle.type_forms.specs.Finding.{FirstOf}
use Rattle.type_exprs.proofs.Firsts.{first_of_three}
use Rattle.type_stmts.specs.Forked.{forked_as}
use Rattle.type_stmts.proofs.forks.fork_breach.Goals as goal

pub returns : goal.returns
returns c = λ w s.
    let n = c.args.name.now in
    let es = exprs c.args.given.now in
    let is = forked_as c.forked-is.result in
    let fs = (forked_signature is).formals in
    let here = forks w c.args.at in
    let member = wants_if_any w 25 is_integer (option_map expr c.args.on.now) in
    let inside = arguments w fs es in
    let again = roots_differ fs es in
    subst (λ (d : Forked). FirstOf c.lesser-3.result
    (here ++ (fork_rules n es d ++ (arguments w (forked_signature d).formals es ++ (roots_differ (forked_signature d).formals es ++ member)))))
    (c.forked-is.ensures w s)
    (first_of_three c.forks.result c.fork_rules-own.result c.lesser-behind.result c.lesser-2.result c.lesser-3.result here (fork_rules n es is)
    (inside ++ (again ++ member)) c.lesser-2.ensures c.lesser-3.ensures (c.forks.ensures w s) c.fork_rules-own.ensures
    (first_of_three c.in_ok-inside.inside c.in_ok-again.again c.in_ok-member.member c.lesser.result c.lesser-behind.result inside again member c.lesser.ensures
    c.lesser-behind.ensures
    ((c.in_ok-inside.ensures {u = tt}) w s ∙ ap (λ (l : List Formal). least (arguments w l es)) c.forked_formals.ensures)
    (c.in_ok-again.ensures {u = tt} ∙ ap (λ (l : List Formal). least (roots_differ l es)) c.forked_formals-2.ensures)
    ((c.in_ok-member.ensures {u = tt}) w s)))
