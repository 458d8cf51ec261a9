use Rattle.std.proofs.Common.{◌≡◌, ℕ, List, Option, drop, map, ap, ◌∙◌}
use Rattle.orca_syntax.specs.Shown.{stmts}
use Rattle.orca_syntax.specs.Syntax.{Stmts}
use Rattle.type_rules.specs.declared.types.DataType.{DataType}
use Rattle.meaning_rules.specs.Functions.{opened}
use Rattle.meaning_rules.specs.Openings.{opening}
use Rattle.code_rules.specs.Instructions.{End}
use Rattle.code_rules.specs.Pieces.{seq}
use Rattle.code_rules.specs.Phrases.{depth_all}
use Rattle.code_rules.specs.Bodies.{block_piece, body_piece, variables_code}
use Rattle.emitted_code.specs.Appends.{Appends}
use Rattle.emitted_code.specs.Views.{code_of}
use Rattle.code_exprs.proofs.Pieces.{then}
use Rattle.emitted_code.specs.declared.bodies.EmittedBody.{EmittedBody}
use Rattle.code_units.proofs.Made.{alone, body_is, opened_is}
use Rattle.code_units.proofs.processes.compile_block.Goals as goal

pub returns : goal.returns
returns c = λ r code block guard.
    let v = r.scope in
    let us = v.program in
    let p = c.args.parameters in
    let own = c.args.block.now in
    let ss = stmts own.statements.now in
    let makes = variables_code us (drop p v.locals) p 1 in
    let spare = c.in_ok-spare.ensures {u = tt} in
    let depth : c.in_ok-spare.spare ≡ depth_all r.statements = spare ∙ ap depth_all block.statements in
    let types : own.body.names.types.items ≡ map (λ l. l.type) v.locals = block.body.names.types in
    let made : Appends makes (code_of c.new-out.result) (code_of c.emit_variables.new.out) =
    (c.in_ok-emit_variables.ensures {u = tt}) v code (c.deref.ensures.value ∙ types) in
    let b : EmittedBody = record { code = c.emit_body.new.out; opens = c.in_ok-opens.opens; spare = c.in_ok-spare.spare } in
    body_is b (block_piece us p v r.statements 0) (opened us v.locals) (depth_all r.statements)
    (alone (seq makes (body_piece v c.in_ok-spare.spare ss End)) (code_of c.new-out.result) (code_of c.emit_body.new.out) c.new-out.ensures.code
    (then makes (body_piece v c.in_ok-spare.spare ss End) (code_of c.new-out.result) (code_of c.emit_variables.new.out) (code_of c.emit_body.new.out) made
    ((c.in_ok-emit_body.ensures {u = tt}) v code block.body guard))
    ∙ ap (λ (x : Stmts). seq makes (body_piece v c.in_ok-spare.spare x End) 0) block.statements
    ∙ ap (λ (k : ℕ). seq makes (body_piece v k r.statements End) 0) depth)
    ((c.in_ok-opens.ensures {u = tt}) us code
    ∙ ap (λ (ts : List (Option DataType)). map (opening us) ts) (c.deref-3.ensures.value ∙ types)
    ∙ opened_is us v.locals)
    depth
