use Rattle.std.proofs.Common.{◌≡◌, ℕ, Bool, true, false, List, Option, map, refl, ap, ◌∙◌}
use Rattle.std.specs.Prelude.{is_some}
use Rattle.orca_syntax.specs.Shown.{body}
use Rattle.orca_syntax.specs.Syntax as syn
use Rattle.type_rules.specs.declared.types.DataType.{DataType}
use Rattle.meaning_rules.specs.Functions.{opened}
use Rattle.meaning_rules.specs.Openings.{opening}
use Rattle.meaning_rules.specs.Programs.{operation_scope, operation_variables}
use Rattle.code_rules.specs.Machine as machine
use Rattle.code_rules.specs.Bodies.{alternatives_piece, body_depth, first_guard}
use Rattle.emitted_code.specs.Views.{code_of}
use Rattle.code_units.specs.Guarded.{SeesGuards}
use Rattle.emitted_code.specs.declared.bodies.EmittedBody.{EmittedBody}
use Rattle.code_units.proofs.Made.{alone, body_is, opened_is}
use Rattle.code_units.proofs.operations.compile_operation.Goals as goal

abbrev an_operation : machine.Body → ℕ → machine.OperationCode
an_operation b first = record { body = b; first = first }

pub returns : goal.returns
returns c = λ us t o code is.
    let own = c.args.own.now in
    let f = body own.form.now in
    let g = operation_scope us t o true in
    let v = operation_scope us t o false in
    let sees : SeesGuards c.args.code.now own.body g v =
    record { guard_code = code; guard_body = is.body true; guards = refl; code = code; body = is.body false; outside = refl } in
    let spare = c.in_ok-spare.ensures {u = tt} in
    let depth : c.in_ok-spare.spare ≡ body_depth o.body = spare ∙ ap body_depth is.form in
    let has = is_some o.head.result in
    let b : EmittedBody = record { code = c.emit_alternatives.new.out; opens = c.in_ok-opens.opens; spare = c.in_ok-spare.spare } in
    let done : machine.Body = record {
      code = alternatives_piece g v (body_depth o.body) has o.body 0;
      opens = opened us (operation_variables us t o);
      spare = body_depth o.body;
    } in
    ap (λ (k : machine.Body). an_operation k c.first_guard.result)
    (body_is b (alternatives_piece g v (body_depth o.body) has o.body 0) (opened us (operation_variables us t o)) (body_depth o.body)
    (alone (alternatives_piece g v c.in_ok-spare.spare own.has_result f) (code_of c.new-out.result) (code_of c.emit_alternatives.new.out) c.new-out.ensures.code
    ((c.in_ok-emit_alternatives.ensures {u = tt}) g v sees)
    ∙ ap (λ (k : ℕ). alternatives_piece g v k own.has_result f 0) depth
    ∙ ap (λ (h : Bool). alternatives_piece g v (body_depth o.body) h f 0) is.has_result
    ∙ ap (λ (b : syn.Body). alternatives_piece g v (body_depth o.body) has b 0) is.form)
    ((c.in_ok-opens.ensures {u = tt}) us code
    ∙ ap (λ (ts : List (Option DataType)). map (opening us) ts) (c.deref.ensures.value ∙ is.variables)
    ∙ opened_is us (operation_variables us t o))
    depth)
    ∙ ap (λ (k : ℕ). an_operation done k) (c.first_guard.ensures ∙ ap first_guard is.form)
