use Rattle.std.proofs.Common.{ap, pos, refl, ◌∙◌}
use Rattle.std.specs.Prelude.{◌+ℤ◌, slice_set}
use Rattle.value_core.specs.Datum as datum
use Rattle.value_core.specs.Size.{size_of}
use Rattle.value_core.specs.View.{datum_of}
use Rattle.meaning_rules.specs.Operators.{integer_in}
use Rattle.code_steps.proofs.Arms.{counts_off, counts_on, no_two, none_of_two}
use Rattle.code_steps.proofs.Setting.{pushed_two, same_integer}
use Rattle.code_steps.proofs.loops.count_up.Goals as goal

pub returns-in_default : goal.returns-in_default
returns-in_default c = λ code home. none_of_two c.args.stack.now _ (c.in_default.ensures {u = tt})

pub returns-in_default-pop : goal.returns-in_default-pop
returns-in_default-pop c = λ code home.
    no_two c.args.stack.now c.pop.new.self (datum_of c.in-Some.high) _ (c.in-Some.ensures {u = tt})
    (c.in_default-pop.ensures {u = tt})

pub returns-in_default-next_up : goal.returns-in_default-next_up
returns-in_default-next_up c = λ code home.
    counts_off code home c.args.slot c.args.address c.args.stack.now c.pop.new.self c.pop-2.new.self c.args.run.now.frame (datum_of c.in-Some-pop.number) (datum_of c.in-Some.high)
    (c.in-Some.ensures {u = tt}) (c.in-Some-pop.ensures {u = tt}) (c.in_default-next_up.ensures {u = tt})

pub set_slot-requires : goal.set_slot-requires
set_slot-requires c = ap size_of (c.in-Some-next_up.ensures {u = tt}).1

pub returns : goal.returns
returns c = λ code home.
    let number = datum_of c.in-Some-pop.number in
    let high = datum_of c.in-Some.high in
    let st = c.pop-2.new.self in
    let more = c.in-Some-next_up.ensures {u = tt} in
    let up = datum.int (integer_in number +ℤ pos 1) in
    counts_on code home c.args.slot c.args.address c.args.stack.now c.pop.new.self st c.args.run.now.frame number high
    (c.in-Some.ensures {u = tt}) (c.in-Some-pop.ensures {u = tt}) c.push-2.new.self c.set_slot.new.run.frame more.0
    (pushed_two c.push-2.new.self c.push.new.self st (datum_of c.int_of-kept.result) high up high
    (c.in_ok-push.ensures {u = tt}) (c.in_ok-push-2.ensures {u = tt}) (same_integer (datum_of c.in-Some-next_up.next) (datum_of c.int_of-kept.result) (integer_in number +ℤ pos 1) c.int_of-kept.ensures more.1) refl)
    (c.in_ok-set_slot.ensures {u = tt} ∙ ap (slice_set c.args.run.now.frame c.args.slot) more.1)
