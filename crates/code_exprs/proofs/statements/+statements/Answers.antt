use Rattle.std.proofs.Common.{◌≡◌, ℕ, ◌+◌, List, ◌∷◌, drop, length, set, sym, ap, ◌∙◌, subst}
use Rattle.std.proofs.lemmas.List.{length-set}
use Rattle.orca_tree.specs.declared.tree.Arm.{Arm as ArmTree}
use Rattle.std.specs.Prelude.{option_map}
use Rattle.orca_tree.specs.declared.tree.Expression.{Expression}
use Rattle.orca_tree.specs.declared.tree.Statement.{Statement}
use Rattle.orca_syntax.specs.Shown.{arm, arms, expr, exprs, stmt, stmts}
use Rattle.orca_syntax.specs.Syntax as syn
use Rattle.orca_syntax.specs.Syntax.{Arm, Stmt}
use Rattle.orca_syntax.proofs.ShownLaws.{for_is, if_is, otherwise_is, repeat_is, when_is, while_is}
use Rattle.type_forms.proofs.Loops.{rest_is}
use Rattle.type_rules.specs.Statements.{with_loop}
use Rattle.program_bodies.specs.Sites.{lent_texts}
use Rattle.code_rules.specs.Instructions.{Instr, Count, Jump, Unless}
use Rattle.code_rules.specs.Layouts.{free, inside}
use Rattle.code_rules.specs.Pieces.{Piece, choice, loop_piece, one, repeat_piece, seq}
use Rattle.code_rules.specs.Phrases.{arms_code, expr_code, stmt_code, stmts_code}
use Rattle.emitted_code.specs.Appends.{Appends}
use Rattle.code_exprs.specs.Jumps.{aimed}
use Rattle.emitted_code.specs.Views.{code_of}
use Rattle.code_exprs.proofs.Pieces.{arm_made, loop_made, on_ok, one_hole, repeat_made, same, then, while_made}
use Rattle.code_exprs.proofs.statements.+statements.Goals as goal

-- ---- kinds of statements

pub emit_statement-returns-in-If : goal.emit_statement-returns-in-If
emit_statement-returns-in-If t c = λ w l d.
    same c.emit_arms.result _ (stmt_code w l (stmt c.args.statement.now)) _ _
    (ap (λ (as_ : List ArmTree). stmt_code w l (syn.If c.in-If.at (arms as_))) c.deref.ensures.value
    ∙ sym (ap (λ (x : Stmt). stmt_code w l x) (ap stmt c.in-If.is ∙ if_is c.in-If.at c.in-If.arms)))
    (c.emit_arms.ensures w l d)

pub emit_statement-returns-in-While : goal.emit_statement-returns-in-While
emit_statement-returns-in-While t c = λ w l d.
    let a = c.in-While in
    same c.emit_while.result _ (stmt_code w l (stmt c.args.statement.now)) _ _
    (ap (λ (ss : List Statement). stmt_code w l (syn.While a.at (expr a.test) (stmts ss))) c.deref-in-While.ensures.value
    ∙ sym (ap (λ (x : Stmt). stmt_code w l x) (ap stmt a.is ∙ while_is a.at a.test a.body)))
    (c.emit_while.ensures w l d)

pub emit_statement-returns-in-Repeat : goal.emit_statement-returns-in-Repeat
emit_statement-returns-in-Repeat t c = λ w l d.
    let a = c.in-Repeat in
    same c.emit_repeat.result _ (stmt_code w l (stmt c.args.statement.now)) _ _
    (ap (λ (ss : List Statement). stmt_code w l (syn.Repeat a.at (stmts ss) (expr a.test))) c.deref-in-Repeat.ensures.value
    ∙ sym (ap (λ (x : Stmt). stmt_code w l x) (ap stmt a.is ∙ repeat_is a.at a.body a.test)))
    (c.emit_repeat.ensures w l d)

pub emit_statement-returns-in-For : goal.emit_statement-returns-in-For
emit_statement-returns-in-For t c = λ w l d.
    let a = c.in-For in
    same c.emit_for.result _ (stmt_code w l (stmt c.args.statement.now)) _ _
    (ap (λ (ss : List Statement). stmt_code w l (syn.For a.at a.name (expr a.range.low) (expr a.range.high) (stmts ss))) c.deref-in-For.ensures.value
    ∙ sym (ap (λ (x : Stmt). stmt_code w l x) (ap stmt a.is ∙ for_is a.at a.name a.range a.body)))
    (c.emit_for.ensures w l d)

pub emit_statement-returns-in-Assign : goal.emit_statement-returns-in-Assign
emit_statement-returns-in-Assign t c = λ w l d.
    same c.assign.result _ (stmt_code w l (stmt c.args.statement.now)) _ _
    (ap (λ (s : Statement). stmt_code w l (stmt s)) (sym c.in-Assign.is)) (c.assign.ensures w l d)

pub emit_statement-returns-in-Return : goal.emit_statement-returns-in-Return
emit_statement-returns-in-Return t c = λ w l d.
    same c.give_back.result _ (stmt_code w l (stmt c.args.statement.now)) _ _
    (ap (λ (s : Statement). stmt_code w l (stmt s)) (sym c.in-Return.is)) (c.give_back.ensures w l d)

pub emit_statement-returns-in-Insert : goal.emit_statement-returns-in-Insert
emit_statement-returns-in-Insert t c = λ w l d.
    same c.insert.result _ (stmt_code w l (stmt c.args.statement.now)) _ _
    (ap (λ (s : Statement). stmt_code w l (stmt s)) (sym c.in-Insert.is)) (c.insert.ensures w l d)

pub emit_statement-returns-in-Delete : goal.emit_statement-returns-in-Delete
emit_statement-returns-in-Delete t c = λ w l d.
    same c.delete.result _ (stmt_code w l (stmt c.args.statement.now)) _ _
    (ap (λ (s : Statement). stmt_code w l (stmt s)) (sym c.in-Delete.is)) (c.delete.ensures w l d)

pub emit_statement-returns-in-Fork : goal.emit_statement-returns-in-Fork
emit_statement-returns-in-Fork t c = λ w l d.
    let a = c.in-Fork in
    same c.fork.result _ (stmt_code w l (stmt c.args.statement.now)) _ _
    (ap (λ (es : List Expression). stmt_code w l (syn.Fork a.at a.process (exprs es) (option_map expr a.on))) c.deref-in-Fork.ensures.value
    ∙ ap (λ (s : Statement). stmt_code w l (stmt s)) (sym a.is))
    (c.fork.ensures w l d)

pub emit_statement-returns-in-WriteLine : goal.emit_statement-returns-in-WriteLine
emit_statement-returns-in-WriteLine t c = λ w l d.
    let a = c.in-WriteLine in
    same c.write_line.result _ (stmt_code w l (stmt c.args.statement.now)) _ _
    (ap (λ (es : List Expression). stmt_code w l (syn.WriteLine a.at (exprs es))) c.deref-in-WriteLine.ensures.value
    ∙ ap (λ (s : Statement). stmt_code w l (stmt s)) (sym a.is))
    (c.write_line.ensures w l d)

pub emit_statement-returns-in-Call : goal.emit_statement-returns-in-Call
emit_statement-returns-in-Call t c = λ w l d.
    let a = c.in-Call in
    same c.call_function.result _ (stmt_code w l (stmt c.args.statement.now)) _ _
    (ap (λ (es : List Expression). stmt_code w l (Stmt.Call a.function (exprs es))) c.deref-in-Call.ensures.value
    ∙ ap (λ (s : Statement). stmt_code w l (stmt s)) (sym a.is))
    (c.call_function.ensures w l d)

pub emit_statement-returns-in-Invoke : goal.emit_statement-returns-in-Invoke
emit_statement-returns-in-Invoke t c = λ w l d.
    let a = c.in-Invoke in
    same c.call_operation.result _ (stmt_code w l (stmt c.args.statement.now)) _ _
    (ap (λ (es : List Expression). stmt_code w l (Stmt.Invoke a.object a.operation (exprs es))) c.deref-in-Invoke.ensures.value
    ∙ ap (λ (s : Statement). stmt_code w l (stmt s)) (sym a.is))
    (c.call_operation.ensures w l d)

-- ---- statements in a row

pub emit_statements-statements-preserved : goal.emit_statements-statements-preserved
emit_statements-statements-preserved t c = λ w l d new h.
    let i = c.statements.one-index in
    let x = c.one-item.result in
    let last = code_of c.emit_statement.new.out in
    let one : Appends (stmt_code w l (stmt x)) (code_of c.statements.out) last =
    subst (λ (o : List Instr). Appends (stmt_code w l (stmt x)) o last) c.in_ok-comes_from.ensures.code ((c.in_ok-emit_statement.ensures {u = tt}) w l d) in
    c.statements.invariant w l d new
    (subst (λ (ss : List Statement). Appends (stmts_code w l (stmts ss)) (code_of c.statements.out) new) (sym (rest_is c.args.statements.now i x c.statements-test.true c.one-item.is))
    (then (stmt_code w l (stmt x)) (stmts_code w l (stmts (drop (i + 1) c.args.statements.now)))
    (code_of c.statements.out) last new one h))

-- ---- jumps

pub emit_while-returns : goal.emit_while-returns
emit_while-returns t c = λ w l d.
    let body = stmts_code w l (stmts c.args.body.now) in
    let begun = code_of c.put-2.new.self in
    while_made (expr_code w l (expr c.args.test.now)) body (Jump 0)
    (code_of c.args.out.now) (code_of c.put.new.self) begun (code_of c.comes_from.new.self) (code_of c.emit_expression.new.out)
    (code_of c.close.new.out) (code_of c.fix.new.self) c.len-at.result c.len-back.result c.len-ask.result
    c.len-at.ensures c.in_ok-put.ensures.code c.len-back.ensures c.in_ok-put-2.ensures.code
    (subst (λ (o : List Instr). Appends body begun o) (sym c.in_ok-comes_from.ensures.code) ((c.in_ok-emit_statements.ensures {u = tt}) w l d))
    c.len-ask.ensures ((c.in_ok-emit_expression.ensures {u = tt}) w l d) c.in_ok-close.ensures c.fix.ensures.code

pub emit_repeat-returns : goal.emit_repeat-returns
emit_repeat-returns t c = λ w l d.
    let body = stmts_code w l (stmts c.args.body.now) in
    let test = expr_code w l (expr c.args.test.now) in
    let old = code_of c.args.out.now in
    let last = code_of c.emit_expression.new.out in
    let new = code_of c.put-2.new.self in
    on_ok c.put-2.result (Appends (one (Unless c.len-at.result)) last new) (Appends (repeat_piece body test) old new)
    (λ h. repeat_made body test old (code_of c.put.new.self) (code_of c.comes_from.new.self) last new c.len-at.result c.len-at.ensures c.in_ok-put.ensures.code
    (subst (λ (o : List Instr). Appends body (code_of c.put.new.self) o) (sym c.in_ok-comes_from.ensures.code) ((c.in_ok-emit_statements.ensures {u = tt}) w l d))
    ((c.in_ok-emit_expression.ensures {u = tt}) w l d) h) c.put-2.ensures.code

pub emit_for-returns : goal.emit_for-returns
emit_for-returns t c = λ w l d.
    let name = c.args.name.now in
    let range = c.args.range.now in
    let slot = c.free-slot.result in
    let body = stmts_code (with_loop w name) (inside l) (stmts c.args.body.now) in
    let low = expr_code w l (expr range.low) in
    let high = expr_code w l (expr range.high) in
    let begins = code_of c.args.out.now in
    let first = code_of c.emit_expression.new.out in
    let both = code_of c.emit_expression-2.new.out in
    let new = code_of c.fix.new.self in
    let texts : lent_texts c.deref.result.now ≡ name.text ∷ lent_texts c.args.here.site.loops.now =
    ap lent_texts c.deref.ensures.value ∙ c.in_ok-loops.ensures ∙ ap (λ (k : List ℕ). k ∷ lent_texts c.args.here.site.loops.now) c.as_str.ensures in
    let loop : Appends (loop_piece slot body) both new =
    loop_made slot body (Count slot 0) both (code_of c.put.new.self) (code_of c.put-2.new.self) (code_of c.comes_from.new.self) (code_of c.put-3.new.self) new
    c.len-at.result c.len-back.result c.len-to.result c.len-at.ensures c.in_ok-put.ensures.code c.len-back.ensures c.in_ok-put-2.ensures.code
    (subst (λ (o : List Instr). Appends body (code_of c.put-2.new.self) o) (sym c.in_ok-comes_from.ensures.code)
    ((c.in_ok-emit_statements.ensures {u = tt}) (with_loop w name) (inside l) (c.in_loops.ensures w l d name texts)))
    c.in_ok-put-3.ensures.code c.len-to.ensures c.fix.ensures.code in
    let rounds : Appends (loop_piece (free l) body) both new = subst (λ (k : ℕ). Appends (loop_piece k body) both new) (c.free-slot.ensures w l d) loop in
    then low (seq high (loop_piece (free l) body)) begins first new ((c.in_ok-emit_expression.ensures {u = tt}) w l d)
    (then high (loop_piece (free l) body) first both new ((c.in_ok-emit_expression-2.ensures {u = tt}) w l d) rounds)

pub emit_when-returns : goal.emit_when-returns
emit_when-returns t c = λ w l d.
    let test = expr_code w l (expr c.args.test.now) in
    arm_made test (stmts_code w l (stmts c.args.body.now)) (Unless 0) (Jump 0)
    (code_of c.args.out.now) (code_of c.emit_expression.new.out) (code_of c.put.new.self) (code_of c.emit_statements.new.out) (code_of c.put-2.new.self)
    (code_of c.fix.new.self) c.len-at.result c.len-hole.result c.len-to.result
    (subst (λ (o : List Instr). Appends test o (code_of c.emit_expression.new.out)) c.in_ok-comes_from.ensures.code ((c.in_ok-emit_expression.ensures {u = tt}) w l d))
    c.len-at.ensures c.in_ok-put.ensures.code ((c.in_ok-emit_statements.ensures {u = tt}) w l d)
    c.len-hole.ensures c.in_ok-put-2.ensures.code c.len-to.ensures c.fix.ensures.code

pub emit_arms-arms-preserved : goal.emit_arms-arms-preserved
emit_arms-arms-preserved t c = λ w l d new h.
    let i = c.arms.one-index in
    let a = c.in-When in
    let hole = c.in_ok-hole-in-When.hole in
    let holes = c.arms.holes.items in
    let rest = arms (drop (i + 1) c.args.arms.now) in
    let test = expr_code w l (expr a.test) in
    let more = set new hole (Jump (length new)) in
    let old = code_of c.args.out.now in
    let is : arms_code w l (arms (drop i c.args.arms.now)) ≡ choice test (stmts_code w l (stmts c.deref.result.now)) (arms_code w l rest) =
    ap (λ (as_ : List ArmTree). arms_code w l (arms as_)) (rest_is c.args.arms.now i c.one-item.result c.arms-test.true c.one-item.is)
    ∙ ap (λ (x : Arm). arms_code w l (syn.arm x rest)) (ap arm a.is ∙ when_is a.test a.body)
    ∙ ap (λ (ss : List Statement). choice test (stmts_code w l (stmts ss)) (arms_code w l rest)) (sym c.deref.ensures.value) in
    let made = (c.in_ok-hole-in-When.ensures {u = tt}) w l d (arms_code w l rest) new h in
    let all = c.arms.invariant w l d more (subst (λ (p : Piece). Appends p (code_of c.arms.out) more) (sym is) made) in
    let end : aimed holes (length more) more ≡ aimed c.push.new.self.items (length new) new =
    ap (λ (n : ℕ). aimed holes n more) (length-set new hole (Jump (length new)))
    ∙ sym (one_hole holes hole (length new) new)
    ∙ ap (λ (hs : List ℕ). aimed hs (length new) new) (sym c.in_ok-push-in-When.ensures.items) in
    subst (λ (o : List Instr). Appends (arms_code w l (arms c.args.arms.now)) old o) end all

pub emit_arms-returns-in-Otherwise : goal.emit_arms-returns-in-Otherwise
emit_arms-returns-in-Otherwise t c = λ w l d.
    let i = c.arms.one-index in
    let a = c.in-Otherwise in
    let rest = arms (drop (i + 1) c.args.arms.now) in
    let now = code_of c.emit_statements.new.out in
    let is : arms_code w l (arms (drop i c.args.arms.now)) ≡ stmts_code w l (stmts c.deref-in-Otherwise.result.now) =
    ap (λ (as_ : List ArmTree). arms_code w l (arms as_)) (rest_is c.args.arms.now i c.one-item.result c.arms-test.true c.one-item.is)
    ∙ ap (λ (x : Arm). arms_code w l (syn.arm x rest)) (ap arm a.is ∙ otherwise_is a.body)
    ∙ ap (λ (ss : List Statement). stmts_code w l (stmts ss)) (sym c.deref-in-Otherwise.ensures.value) in
    let all = c.arms.invariant w l d now (subst (λ (p : Piece). Appends p (code_of c.arms.out) now) (sym is) ((c.in_ok-emit_statements-in-Otherwise.ensures {u = tt}) w l d)) in
    subst (λ (o : List Instr). Appends (arms_code w l (arms c.args.arms.now)) (code_of c.args.out.now) o) (sym c.fill.ensures) all
