use Rattle.std.proofs.Common.{ℕ, List, Option, map, ap, ◌∙◌}
use Rattle.orca_syntax.specs.Shown.{stmts}
use Rattle.type_rules.specs.declared.types.DataType.{DataType}
use Rattle.meaning_rules.specs.Functions.{opened}
use Rattle.meaning_rules.specs.Openings.{opening}
use Rattle.code_rules.specs.Phrases.{depth_all}
use Rattle.code_rules.specs.Bodies.{body_piece}
use Rattle.emitted_code.specs.Views.{code_of}
use Rattle.code_units.specs.Endings.{last_of}
use Rattle.emitted_code.specs.declared.bodies.EmittedBody.{EmittedBody}
use Rattle.code_units.proofs.Made.{alone, body_is, opened_is}
use Rattle.code_units.proofs.bodies.compile_statements.Goals as goal

pub returns : goal.returns
returns c = λ w code body guard.
    let ss = stmts c.args.statements.now in
    let last = last_of c.args.end in
    let spare = c.in_ok-spare.ensures {u = tt} in
    let b : EmittedBody = record { code = c.emit_body.new.out; opens = c.in_ok-opens.opens; spare = c.in_ok-spare.spare } in
    body_is b (body_piece w (depth_all ss) ss last 0) (opened w.program w.locals) (depth_all ss)
    (alone (body_piece w c.in_ok-spare.spare ss last) (code_of c.new-out.result) (code_of c.emit_body.new.out) c.new-out.ensures.code
    ((c.in_ok-emit_body.ensures {u = tt}) w code body guard)
    ∙ ap (λ (k : ℕ). body_piece w k ss last 0) spare)
    ((c.in_ok-opens.ensures {u = tt}) w.program code
    ∙ ap (λ (ts : List (Option DataType)). map (opening w.program) ts) (c.deref.ensures.value ∙ body.names.types)
    ∙ opened_is w.program w.locals)
    spare
