use Rattle.std.proofs.Common.{◌+◌, List, drop, map, sym, subst}
use Rattle.std.proofs.Math.ListN.{drop_of_length-le}
use Rattle.orca_tree.specs.declared.tree.Guard.{Guard}
use Rattle.orca_syntax.specs.Shown.{expr, guard, stmts}
use Rattle.type_forms.proofs.Loops.{rest_is}
use Rattle.code_rules.specs.Instructions.{Blocked}
use Rattle.code_rules.specs.Layouts.{layout_of}
use Rattle.code_rules.specs.Pieces.{one}
use Rattle.code_rules.specs.Phrases.{expr_code}
use Rattle.code_rules.specs.Bodies.{body_piece, guards_piece, last_instr}
use Rattle.emitted_code.specs.Appends.{Appends}
use Rattle.emitted_code.specs.Views.{code_of}
use Rattle.code_exprs.proofs.Pieces.{on_ok}
use Rattle.code_units.proofs.Made.{guard_then}
use Rattle.code_units.proofs.operations.emit_guards.Goals as goal

pub guards-preserved : goal.guards-preserved
guards-preserved c = λ g v s new h.
    let i = c.guards.one-index in
    let x = c.one-item.result in
    let spare = c.args.spare in
    let has = c.args.has_result in
    let all = c.args.guards.now in
    c.guards.invariant g v s new
    (subst (λ (gs : List Guard). Appends (guards_piece g v spare has (map guard gs)) (code_of c.guards.out) new) (sym (rest_is all i x c.guards-test.true c.one-item.is))
    (guard_then (expr_code g (layout_of g spare) (expr x.test)) (body_piece v spare (stmts x.body.items) (last_instr has))
    (guards_piece g v spare has (map guard (drop (i + 1) all))) (code_of c.guards.out) (code_of c.emit_guard.new.out) new
    ((c.in_ok-emit_guard.ensures {u = tt}) g v s) h))

pub returns : goal.returns
returns c = λ g v s.
    let spare = c.args.spare in
    let has = c.args.has_result in
    let all = c.args.guards.now in
    let out = code_of c.guards.out in
    let new = code_of c.put.new.self in
    on_ok c.put.result (Appends (one Blocked) out new) (Appends (guards_piece g v spare has (map guard all)) (code_of c.args.out.now) new)
    (λ y. c.guards.invariant g v s new
    (subst (λ (gs : List Guard). Appends (guards_piece g v spare has (map guard gs)) out new) (sym (drop_of_length-le all c.guards-test.false)) y))
    c.put.ensures.code
