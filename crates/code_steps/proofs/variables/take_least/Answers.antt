use Rattle.std.proofs.Common.{[], pos, ◌∙◌}
use Rattle.std.proofs.lemmas.Result.{IfOk-weaker}
use Rattle.value_core.specs.Datum as datum
use Rattle.meaning_rules.specs.Variables.{take}
use Rattle.code_rules.specs.Machine.{to}
use Rattle.emitted_code.specs.Views.{marks_of}
use Rattle.frame_variables.specs.Gives.{path_of, state_of}
use Rattle.code_steps.proofs.Popping.{has_path, no_path}
use Rattle.code_steps.proofs.Arriving.{taken}
use Rattle.code_steps.proofs.Taken.{takes, takes_not}
use Rattle.code_steps.proofs.variables.take_least.Goals as goal

pub returns-in_default : goal.returns-in_default
returns-in_default c = λ code home.
    let old = c.args.stack.now in
    let marks = marks_of c.args.marks.now in
    let st = c.pop_path.new.stack in
    takes_not code home c.args.slot marks old old st c.args.run.now.frame [] (datum.int (pos 0))
    (no_path c.in_ok-path.field-0 marks old st (c.in_ok-path.ensures {u = tt}) c.in_default.is)

pub returns : goal.returns
returns c =
    let old = c.args.stack.now in
    let marks = marks_of c.args.marks.now in
    let locals = c.args.run.now.frame in
    let st = c.pop_path.new.stack in
    let path = path_of c.in-Some.path.items in
    let s1 = state_of c.clear_run.new.run in
    let s2 = state_of c.take.new.run in
    IfOk-weaker c.push_made.result _ _
    (λ a p code home. takes code home c.args.slot marks old old st locals path (datum.int (pos 0)) (has_path c.in_ok-path.field-0 marks old st (c.in_ok-path.ensures {u = tt}) c.in-Some.path c.in-Some.is)
    ∙ taken home old st c.push_made.new.stack locals a s1 s2 c.clear_run.ensures c.take.result (take (to c.args.slot path)) c.take.ensures.gives p)
    c.push_made.ensures
