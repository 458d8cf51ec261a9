use Rattle.std.proofs.Common.{List, [], true, sym, subst, ◌∙◌}
use Rattle.std.proofs.lemmas.Result.{IfOk-weaker}
use Rattle.value_core.specs.View.{datum_of}
use Rattle.value_paths.specs.Paths.{part_at}
use Rattle.emitted_code.specs.Views.{marks_of}
use Rattle.frame_variables.specs.declared.steps.Step.{Step}
use Rattle.frame_variables.specs.Gives.{path_of}
use Rattle.code_steps.specs.Pops.{PopsPath}
use Rattle.code_steps.proofs.Popping.{has_path, no_path}
use Rattle.code_steps.proofs.Arriving.{found}
use Rattle.code_steps.proofs.Taken.{parts, parts_not}
use Rattle.code_steps.proofs.constants.push_part.Goals as goal

pub returns-in_default : goal.returns-in_default
returns-in_default c = λ locals code home.
    let old = c.args.stack.now in
    let marks = marks_of c.args.marks.now in
    let st = c.pop_path.new.stack in
    parts_not code home 0 marks old old st locals [] (datum_of c.args.value.now)
    (no_path c.in_ok-path.field-0 marks old st (c.in_ok-path.ensures {u = tt}) c.in_default.is)

pub returns : goal.returns
returns c =
    let old = c.args.stack.now in
    let marks = marks_of c.args.marks.now in
    let st = c.pop_path.new.stack in
    let new = c.push_found.new.stack in
    let path = path_of c.deref.result.now in
    let x = datum_of c.args.value.now in
    let taken = subst (λ (s : List Step). PopsPath marks old true st (path_of s)) (sym c.deref.ensures.value) (has_path c.in_ok-path.field-0 marks old st (c.in_ok-path.ensures {u = tt}) c.in-Some.path c.in-Some.is) in
    IfOk-weaker c.push_found.result _ _
    (λ a p locals code home. parts code home 0 marks old old st locals path x taken ∙ found home old st new locals a c.part.result (part_at path x) p c.part.ensures)
    c.push_found.ensures
