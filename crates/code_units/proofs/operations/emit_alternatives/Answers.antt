use Rattle.std.proofs.Common.{◌∷◌, List, map, sym, ap, ◌∙◌}
use Rattle.orca_tree.specs.declared.tree.Guard.{Guard}
use Rattle.orca_tree.specs.declared.tree.OperationBody.{OperationBody}
use Rattle.orca_tree.specs.declared.tree.Statement.{Statement}
use Rattle.orca_syntax.specs.Shown.{body, guard, stmts}
use Rattle.code_rules.specs.Instructions.{Instr}
use Rattle.code_rules.specs.Bodies.{alternatives_piece, body_piece, guards_piece}
use Rattle.code_exprs.proofs.Pieces.{same}
use Rattle.code_units.specs.Endings.{last_of}
use Rattle.code_units.proofs.operations.emit_alternatives.Goals as goal

pub returns-in-Guarded : goal.returns-in-Guarded
returns-in-Guarded c = λ g v s.
    let spare = c.args.spare in
    let has = c.args.has_result in
    let a = c.in-Guarded in
    same c.emit_guarded.result _ (alternatives_piece g v spare has (body c.args.form.now)) _ _
    (ap (λ (gs : List Guard). guards_piece g v spare has (guard a.first ∷ map guard gs)) c.deref.ensures.value
    ∙ sym (ap (λ (f : OperationBody). alternatives_piece g v spare has (body f)) a.is))
    (c.emit_guarded.ensures g v s)

pub returns-in-Plain : goal.returns-in-Plain
returns-in-Plain c = λ g v s.
    let spare = c.args.spare in
    let has = c.args.has_result in
    let a = c.in-Plain in
    same c.emit_body.result _ (alternatives_piece g v spare has (body c.args.form.now)) _ _
    (ap (λ (ss : List Statement). body_piece v spare (stmts ss) (last_of c.end_of-end.result)) c.deref-in-Plain.ensures.value
    ∙ ap (λ (i : Instr). body_piece v spare (stmts a.statements.items) i) c.end_of-end.ensures
    ∙ sym (ap (λ (f : OperationBody). alternatives_piece g v spare has (body f)) a.is))
    (c.emit_body.ensures v s.code s.body s.outside)
