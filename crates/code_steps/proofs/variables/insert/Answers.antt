use Rattle.std.proofs.Common.{[], pos, ◌∙◌}
use Rattle.std.proofs.lemmas.Result.{IfOk-weaker}
use Rattle.value_core.specs.Datum as datum
use Rattle.value_core.specs.View.{datum_of}
use Rattle.meaning_rules.specs.Variables.{put}
use Rattle.code_rules.specs.Machine.{to}
use Rattle.emitted_code.specs.Views.{marks_of}
use Rattle.frame_variables.specs.Gives.{path_of, state_of}
use Rattle.code_steps.proofs.Popping.{has_path, no_path}
use Rattle.code_steps.proofs.Arriving.{changed}
use Rattle.code_steps.proofs.Taken.{inserts, inserts_none, inserts_not}
use Rattle.code_steps.proofs.variables.insert.Goals as goal

pub returns-in_default : goal.returns-in_default
returns-in_default c = λ code home.
    let old = c.args.stack.now in
    let marks = marks_of c.args.marks.now in
    let mid = c.pop_path.new.stack in
    inserts_not code home c.args.slot marks old mid mid c.args.run.now.frame [] (datum.int (pos 0))
    (no_path c.in_ok-path.field-0 marks old mid (c.in_ok-path.ensures {u = tt}) c.in_default.is)

pub returns-in_default-pop : goal.returns-in_default-pop
returns-in_default-pop c = λ code home.
    let old = c.args.stack.now in
    let marks = marks_of c.args.marks.now in
    let mid = c.pop_path.new.stack in
    inserts_none code home c.args.slot marks old mid mid c.args.run.now.frame (path_of c.in-Some.path.items) (datum.int (pos 0)) (has_path c.in_ok-path.field-0 marks old mid (c.in_ok-path.ensures {u = tt}) c.in-Some.path c.in-Some.is)
    (c.in_default-pop.ensures {u = tt})

pub returns : goal.returns
returns c =
    let old = c.args.stack.now in
    let marks = marks_of c.args.marks.now in
    let locals = c.args.run.now.frame in
    let mid = c.pop_path.new.stack in
    let st = c.pop.new.self in
    let path = path_of c.in-Some.path.items in
    let x = datum_of c.in-Some-pop.element in
    let s1 = state_of c.clear_run.new.run in
    let s2 = state_of c.put.new.run in
    IfOk-weaker c.changed.result _ _
    (λ a h code home. inserts code home c.args.slot marks old mid st locals path x (has_path c.in_ok-path.field-0 marks old mid (c.in_ok-path.ensures {u = tt}) c.in-Some.path c.in-Some.is) (c.in-Some-pop.ensures {u = tt})
    ∙ changed home old st st locals a s1 s2 c.clear_run.ensures c.put.result (put (to c.args.slot path) x) c.put.ensures.gives h)
    c.changed.ensures
