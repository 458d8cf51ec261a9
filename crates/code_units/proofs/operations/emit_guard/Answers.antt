use Rattle.std.proofs.Common.{List, subst}
use Rattle.orca_tree.specs.declared.tree.Statement.{Statement}
use Rattle.orca_syntax.specs.Shown.{expr, stmts}
use Rattle.code_rules.specs.Instructions.{Instr, Guard}
use Rattle.code_rules.specs.Layouts.{layout_of}
use Rattle.code_rules.specs.Phrases.{expr_code}
use Rattle.code_rules.specs.Bodies.{body_piece, last_instr}
use Rattle.emitted_code.specs.Appends.{Appends}
use Rattle.emitted_code.specs.Views.{code_of}
use Rattle.code_units.specs.Endings.{last_of}
use Rattle.code_units.proofs.Made.{guard_made}
use Rattle.code_units.proofs.operations.emit_guard.Goals as goal

pub returns : goal.returns
returns c = λ g v s.
    let x = c.args.guard.now in
    let l = layout_of g c.args.spare in
    let put = code_of c.put.new.self in
    let now = code_of c.emit_body.new.out in
    let body = body_piece v c.args.spare (stmts x.body.items) (last_instr c.args.has_result) in
    guard_made (expr_code g l (expr x.test)) body (Guard 0) (code_of c.args.out.now) (code_of c.emit_expression.new.out) put now (code_of c.fix.new.self)
    c.len-at.result c.len-to.result
    (subst (λ (o : List Instr). Appends (expr_code g l (expr x.test)) o (code_of c.emit_expression.new.out)) c.in_ok-comes_from.ensures.code
    ((c.in_ok-emit_expression.ensures {u = tt}) g l ((c.in_ok-here.ensures {u = tt}) g s.guard_code s.guard_body s.guards))) c.len-at.ensures c.in_ok-put.ensures.code
    (subst (λ (i : Instr). Appends (body_piece v c.args.spare (stmts x.body.items) i) put now) c.end_of-end.ensures
    (subst (λ (ss : List Statement). Appends (body_piece v c.args.spare (stmts ss) (last_of c.end_of-end.result)) put now) c.deref.ensures.value
    ((c.in_ok-emit_body.ensures {u = tt}) v s.code s.body s.outside)))
    c.len-to.ensures c.fix.ensures.code
