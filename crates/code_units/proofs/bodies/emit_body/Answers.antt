use Rattle.std.proofs.Common.{List, refl, subst, sym}
use Rattle.orca_syntax.specs.Shown.{stmts}
use Rattle.code_rules.specs.Instructions.{Instr}
use Rattle.code_rules.specs.Layouts.{layout_of}
use Rattle.code_rules.specs.Pieces.{one}
use Rattle.code_rules.specs.Phrases.{stmts_code}
use Rattle.emitted_code.specs.Appends.{Appends}
use Rattle.emitted_code.specs.Views.{code_of}
use Rattle.code_exprs.proofs.Pieces.{then_ok}
use Rattle.code_units.specs.Endings.{last_of}
use Rattle.code_units.proofs.bodies.emit_body.Goals as goal

pub returns : goal.returns
returns c = λ w code body guard.
    let l = layout_of w c.args.spare in
    let all = stmts_code w l (stmts c.args.statements.now) in
    then_ok c.emit_end.result all (one (last_of c.args.end)) _
    (code_of c.args.out.now) (code_of c.end_comes_from.new.out) (code_of c.emit_end.new.out) refl
    (subst (λ (o : List Instr). Appends all (code_of c.args.out.now) o) (sym c.in_ok-end_comes_from.ensures)
    ((c.in_ok-emit_statements.ensures {u = tt}) w l ((c.in_ok-here.ensures {u = tt}) w code body guard))) c.emit_end.ensures
