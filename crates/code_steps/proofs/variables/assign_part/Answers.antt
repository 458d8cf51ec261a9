use Rattle.std.proofs.Common.{[], pos, ◌∙◌}
use Rattle.std.proofs.lemmas.Result.{IfOk-weaker}
use Rattle.value_core.specs.Datum as datum
use Rattle.value_core.specs.View.{datum_of}
use Rattle.meaning_rules.specs.Variables.{store}
use Rattle.code_rules.specs.Machine.{to}
use Rattle.emitted_code.specs.Views.{marks_of}
use Rattle.frame_variables.specs.Gives.{path_of, state_of}
use Rattle.code_steps.proofs.Popping.{has_path, no_path}
use Rattle.code_steps.proofs.Arriving.{changed}
use Rattle.code_steps.proofs.Taken.{assigns, assigns_none, assigns_not}
use Rattle.code_steps.proofs.variables.assign_part.Goals as goal

pub returns-in_default : goal.returns-in_default
returns-in_default c = λ code home.
    let old = c.args.stack.now in
    assigns_none code home c.args.slot (marks_of c.args.marks.now) old old old c.args.run.now.frame [] (datum.int (pos 0))
    (c.in_default.ensures {u = tt})

pub returns-in_default-2 : goal.returns-in_default-2
returns-in_default-2 c = λ code home.
    let old = c.args.stack.now in
    let marks = marks_of c.args.marks.now in
    let mid = c.pop.new.self in
    let st = c.pop_path.new.stack in
    assigns_not code home c.args.slot marks old mid st c.args.run.now.frame [] (datum_of c.in-Some.value) (c.in-Some.ensures {u = tt})
    (no_path c.in_ok-path.field-0 marks mid st (c.in_ok-path.ensures {u = tt}) c.in_default-2.is)

pub returns : goal.returns
returns c =
    let old = c.args.stack.now in
    let marks = marks_of c.args.marks.now in
    let locals = c.args.run.now.frame in
    let mid = c.pop.new.self in
    let st = c.pop_path.new.stack in
    let path = path_of c.in-Some-2.path.items in
    let x = datum_of c.in-Some.value in
    let s1 = state_of c.clear_run.new.run in
    let s2 = state_of c.store.new.run in
    IfOk-weaker c.changed.result _ _
    (λ a h code home. assigns code home c.args.slot marks old mid st locals path x (c.in-Some.ensures {u = tt}) (has_path c.in_ok-path.field-0 marks mid st (c.in_ok-path.ensures {u = tt}) c.in-Some-2.path c.in-Some-2.is)
    ∙ changed home old st st locals a s1 s2 c.clear_run.ensures c.store.result (store (to c.args.slot path) x) c.store.ensures.gives h)
    c.changed.ensures
