use Rattle.std.proofs.Common.{List, [], true, map, pos, sym, subst, ◌∙◌}
use Rattle.std.proofs.lemmas.Result.{IfOk-weaker}
use Rattle.value_core.specs.Datum as datum
use Rattle.meaning_rules.specs.Calls.{Deletes, invoked}
use Rattle.code_rules.specs.Machine.{no_calls}
use Rattle.emitted_code.specs.Views.{shape_of}
use Rattle.frame_variables.specs.declared.steps.Passed.{Passed}
use Rattle.frame_variables.specs.Gives.{passed_of, state_of}
use Rattle.code_steps.specs.Passing.{Takes}
use Rattle.code_steps.proofs.Graphs.{changes, changes_not, has_args, no_args}
use Rattle.code_steps.proofs.Arriving.{given}
use Rattle.code_steps.proofs.nodes.delete.Goals as goal

pub returns-in_default : goal.returns-in_default
returns-in_default c = λ code home.
    let old = c.args.stack.now in
    let shapes = map shape_of c.args.shapes.now in
    let st = c.take_args.new.stack in
    changes_not home Deletes (datum.int (pos 0)) shapes old st c.args.run.now.frame []
    (no_args c.in_ok-args.field-0 shapes old st (c.in_ok-args.ensures {u = tt}) c.in_default.is)

pub returns : goal.returns
returns c =
    let old = c.args.stack.now in
    let shapes = map shape_of c.args.shapes.now in
    let locals = c.args.run.now.frame in
    let st = c.take_args.new.stack in
    let args = map passed_of c.deref.result.now in
    let none = datum.int (pos 0) in
    let s1 = state_of c.clear_run.new.run in
    let s2 = state_of c.delete_from.new.run in
    let taken = subst (λ (ps : List Passed). Takes shapes old true st (map passed_of ps)) (sym c.deref.ensures.value) (has_args c.in_ok-args.field-0 shapes old st (c.in_ok-args.ensures {u = tt}) c.in-Some.args c.in-Some.is) in
    IfOk-weaker c.push_given.result _ _
    (λ a p code home. changes home Deletes none shapes old st locals args taken
    ∙ given home old st c.push_given.new.stack locals a s1 s2 c.clear_run.ensures c.delete_from.result (invoked no_calls Deletes none args) c.delete_from.ensures p)
    c.push_given.ensures
