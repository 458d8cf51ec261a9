use Rattle.std.proofs.Common.{List, true, false, subst, sym, ap, ◌∙◌}
use Rattle.orca_tree.specs.declared.tree.Statement.{Statement}
use Rattle.orca_syntax.specs.Shown.{expr, stmts}
use Rattle.type_rules.specs.Types.{is_boolean}
use Rattle.type_rules.specs.Order.{least}
use Rattle.type_rules.specs.Statements.{stmts_breaches, wants}
use Rattle.type_exprs.proofs.Firsts.{first_of_two}
use Rattle.type_stmts.specs.declared.bodies.BodyScope.{BodyScope}
use Rattle.type_stmts.specs.Bodies.{IsBody}
use Rattle.type_stmts.proofs.guards.guard_breach.Goals as goal

pub returns : goal.returns
returns c = λ w s.
    let g = c.args.guard.now in
    let test : IsBody c.guarded-test.result (w true) = subst (λ (b : BodyScope). IsBody b (w true)) (sym c.guarded-test.ensures) (s true) in
    let behind : IsBody c.guarded.result (w false) = subst (λ (b : BodyScope). IsBody b (w false)) (sym c.guarded.ensures) (s false) in
    first_of_two c.in_ok-own.own c.in_ok-behind.behind c.lesser.result (wants (w true) 17 is_boolean (expr g.test)) (stmts_breaches (w false) (stmts g.body.items))
    c.lesser.ensures
    ((c.in_ok-own.ensures {u = tt}) (w true) test.scope)
    ((c.in_ok-behind.ensures {u = tt}) (w false) behind ∙ ap (λ (l : List Statement). least (stmts_breaches (w false) (stmts l))) c.deref.ensures.value)
