use Rattle.std.proofs.Common.{◌∷◌, map}
use Rattle.orca_syntax.specs.Shown.{expr, guard, stmts}
use Rattle.code_rules.specs.Layouts.{layout_of}
use Rattle.code_rules.specs.Phrases.{expr_code}
use Rattle.code_rules.specs.Bodies.{body_piece, guards_piece, last_instr}
use Rattle.emitted_code.specs.Appends.{Appends}
use Rattle.emitted_code.specs.Views.{code_of}
use Rattle.code_exprs.proofs.Pieces.{on_ok}
use Rattle.code_units.proofs.Made.{guard_then}
use Rattle.code_units.proofs.operations.emit_guarded.Goals as goal

pub returns : goal.returns
returns c = λ g v s.
    let x = c.args.first.now in
    let spare = c.args.spare in
    let has = c.args.has_result in
    let rest = guards_piece g v spare has (map guard c.args.others.now) in
    let old = code_of c.args.out.now in
    let now = code_of c.emit_guard.new.out in
    let new = code_of c.emit_guards.new.out in
    on_ok c.emit_guards.result (Appends rest now new) (Appends (guards_piece g v spare has (guard x ∷ map guard c.args.others.now)) old new)
    (λ y. guard_then (expr_code g (layout_of g spare) (expr x.test)) (body_piece v spare (stmts x.body.items) (last_instr has)) rest old now new
    ((c.in_ok-emit_guard.ensures {u = tt}) g v s) y)
    (c.emit_guards.ensures g v s)
