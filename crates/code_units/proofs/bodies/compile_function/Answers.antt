use Rattle.std.proofs.Common.{◌≡◌, ap, ◌∙◌}
use Rattle.orca_syntax.specs.Shown.{stmts}
use Rattle.orca_syntax.specs.Syntax.{Stmts}
use Rattle.code_rules.specs.Instructions.{Instr}
use Rattle.code_rules.specs.Bodies.{function_body, last_instr}
use Rattle.code_units.specs.Endings.{last_of}
use Rattle.code_units.specs.Plain.{plain_body}
use Rattle.emitted_code.specs.Views.{body_seen}
use Rattle.emitted_code.specs.declared.bodies.EmittedBody.{EmittedBody}
use Rattle.code_units.proofs.Rows.{on_if}
use Rattle.code_units.proofs.bodies.compile_function.Goals as goal

pub returns : goal.returns
returns c = λ r code block guard.
    let w = r.scope in
    let ss = stmts c.args.block.now.statements.now in
    let last = last_of c.end_of-end.result in
    let same : plain_body w ss last ≡ function_body w.program w r.statements r.has_result =
    ap (λ (i : Instr). plain_body w ss i) (c.end_of-end.ensures ∙ ap last_instr block.has_result)
    ∙ ap (λ (x : Stmts). plain_body w x (last_instr r.has_result)) block.statements in
    on_if c.compile_statements.result (λ (b : EmittedBody). body_seen b ≡ plain_body w ss last)
    (λ (b : EmittedBody). body_seen b ≡ function_body w.program w r.statements r.has_result) (λ b e. e ∙ same)
    (c.compile_statements.ensures w code block.body guard)
