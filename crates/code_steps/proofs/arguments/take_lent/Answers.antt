use Rattle.std.proofs.Common.{[], refl}
use Rattle.emitted_code.specs.Views.{marks_of}
use Rattle.frame_variables.specs.Gives.{path_of}
use Rattle.code_steps.proofs.Popping.{has_path, no_path}
use Rattle.code_steps.proofs.Taking.{lends_none, lends_one}
use Rattle.code_steps.proofs.arguments.take_lent.Goals as goal

pub returns-in_default : goal.returns-in_default
returns-in_default c =
    let marks = marks_of c.args.marks.now in
    lends_none c.args.slot marks c.args.stack.now c.pop_path.new.stack [] (no_path c.in_ok-path.field-0 marks c.args.stack.now c.pop_path.new.stack (c.in_ok-path.ensures {u = tt}) c.in_default.is)

pub returns : goal.returns
returns c =
    let marks = marks_of c.args.marks.now in
    let path = c.in-Some.path in
    lends_one c.args.slot marks c.args.stack.now c.pop_path.new.stack (record { slot = c.args.slot; path = path }) (path_of path.items)
    (has_path c.in_ok-path.field-0 marks c.args.stack.now c.pop_path.new.stack (c.in_ok-path.ensures {u = tt}) path c.in-Some.is) refl
