use Rattle.std.proofs.Common.{◌≡◌, refl, ap, ◌∙◌}
use Rattle.orca_syntax.specs.Syntax.{Stmts}
use Rattle.meaning_rules.specs.Programs.{begin_scope}
use Rattle.code_rules.specs.Instructions.{End}
use Rattle.code_rules.specs.Bodies.{begin_stmts, making_code}
use Rattle.orca_syntax.specs.Shown.{stmts}
use Rattle.code_units.specs.Plain.{plain_body}
use Rattle.emitted_code.specs.Views.{body_seen}
use Rattle.emitted_code.specs.declared.bodies.EmittedBody.{EmittedBody}
use Rattle.code_units.proofs.Rows.{on_if}
use Rattle.code_units.proofs.objects.compile_making.Goals as goal

pub returns : goal.returns
returns c = λ us t code is.
    let w = begin_scope us t in
    let ss = stmts c.opening_of-statements.result.now in
    let same : plain_body w ss End ≡ making_code us t =
    ap (λ (x : Stmts). plain_body w x End) (c.opening_of-statements.ensures ∙ ap begin_stmts is.begins) in
    on_if c.compile_statements.result (λ (b : EmittedBody). body_seen b ≡ plain_body w ss End) (λ (b : EmittedBody). body_seen b ≡ making_code us t) (λ b e. e ∙ same)
    (c.compile_statements.ensures w code is.fields refl)
