use Rattle.std.proofs.Common.{List, [], true, pos, sym, subst, ◌∙◌}
use Rattle.std.proofs.lemmas.Result.{IfOk-weaker}
use Rattle.value_core.specs.Datum as datum
use Rattle.code_rules.specs.Machine.{read}
use Rattle.emitted_code.specs.Views.{marks_of}
use Rattle.frame_variables.specs.declared.steps.Step.{Step}
use Rattle.frame_variables.specs.Gives.{path_of}
use Rattle.code_steps.specs.Pops.{PopsPath}
use Rattle.code_steps.proofs.Popping.{has_path, no_path}
use Rattle.code_steps.proofs.Arriving.{found}
use Rattle.code_steps.proofs.Taken.{gets, gets_not}
use Rattle.code_steps.proofs.variables.get_part.Goals as goal

pub returns-in_default : goal.returns-in_default
returns-in_default c = λ code home.
    let old = c.args.stack.now in
    let marks = marks_of c.args.marks.now in
    let st = c.pop_path.new.stack in
    gets_not code home c.args.slot marks old old st c.args.run.now.frame [] (datum.int (pos 0))
    (no_path c.in_ok-path.field-0 marks old st (c.in_ok-path.ensures {u = tt}) c.in_default.is)

pub returns : goal.returns
returns c =
    let old = c.args.stack.now in
    let marks = marks_of c.args.marks.now in
    let locals = c.args.run.now.frame in
    let st = c.pop_path.new.stack in
    let new = c.push_found.new.stack in
    let path = path_of c.deref.result.now in
    let taken = subst (λ (s : List Step). PopsPath marks old true st (path_of s)) (sym c.deref.ensures.value) (has_path c.in_ok-path.field-0 marks old st (c.in_ok-path.ensures {u = tt}) c.in-Some.path c.in-Some.is) in
    IfOk-weaker c.push_found.result _ _
    (λ a p code home. gets code home c.args.slot marks old old st locals path (datum.int (pos 0)) taken
    ∙ found home old st new locals a c.find.result (read c.args.slot path locals) p c.find.ensures)
    c.push_found.ensures
