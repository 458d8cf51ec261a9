use Rattle.std.proofs.Common.{ap, sym, ◌∙◌}
use Rattle.std.specs.Prelude.{slice_set}
use Rattle.value_core.specs.Datum as datum
use Rattle.value_core.specs.Size.{size_of}
use Rattle.value_core.specs.View.{datum_of}
use Rattle.meaning_rules.specs.Operators.{integer_in}
use Rattle.code_steps.proofs.Arms.{counts, counts_none, no_two, none_of_two}
use Rattle.code_steps.proofs.Setting.{pushed_two}
use Rattle.code_steps.proofs.loops.count.Goals as goal

pub returns-in_default : goal.returns-in_default
returns-in_default c = λ code home. none_of_two c.args.stack.now _ (c.in_default.ensures {u = tt})

pub returns-in_default-pop : goal.returns-in_default-pop
returns-in_default-pop c = λ code home.
    no_two c.args.stack.now c.pop.new.self (datum_of c.in-Some.high) _ (c.in-Some.ensures {u = tt})
    (c.in_default-pop.ensures {u = tt})

pub returns-then-not-is_at_most : goal.returns-then-not-is_at_most
returns-then-not-is_at_most c = λ code home.
    counts_none code home c.args.slot c.args.address c.args.stack.now c.pop.new.self c.pop-2.new.self c.args.run.now.frame (datum_of c.in-Some-pop.low) (datum_of c.in-Some.high)
    (c.in-Some.ensures {u = tt}) (c.in-Some-pop.ensures {u = tt}) (sym c.if-not-is_at_most.true ∙ c.is_at_most.ensures)

pub set_slot-requires : goal.set_slot-requires
set_slot-requires c = ap size_of c.int_of-number.ensures

pub returns : goal.returns
returns c = λ code home.
    let low = datum_of c.in-Some-pop.low in
    let high = datum_of c.in-Some.high in
    let st = c.pop-2.new.self in
    counts code home c.args.slot c.args.address c.args.stack.now c.pop.new.self st c.args.run.now.frame low high
    (c.in-Some.ensures {u = tt}) (c.in-Some-pop.ensures {u = tt}) c.push-2.new.self c.set_slot.new.run.frame (sym c.if-not-is_at_most.false ∙ c.is_at_most.ensures)
    (pushed_two c.push-2.new.self c.push.new.self st (datum_of c.int_of-first.result) (datum_of c.int_of-last.result) (datum.int (integer_in low)) (datum.int (integer_in high))
    (c.in_ok-push.ensures {u = tt}) (c.in_ok-push-2.ensures {u = tt}) c.int_of-first.ensures c.int_of-last.ensures)
    (c.in_ok-set_slot.ensures {u = tt} ∙ ap (slice_set c.args.run.now.frame c.args.slot) c.int_of-number.ensures)
