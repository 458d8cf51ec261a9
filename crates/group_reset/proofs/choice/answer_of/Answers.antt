use Rattle.std.proofs.Common.{Some, ap, sym, ◌∙◌}
use Rattle.group_reset.proofs.Choosing.{joined_at, joined_nowhere}
use Rattle.group_reset.proofs.choice.answer_of.Goals as goal

pub returns-then-answer-from : goal.returns-then-answer-from
returns-then-answer-from g c = ap Some c.in_ok-copy.ensures ∙ sym (joined_at c.args.from c.args.answers.now c.answers.answer-index c.answer-item.result c.answers-test.true c.answers.invariant c.answer-item.is c.if-answer-from.true)

pub returns : goal.returns
returns g c = sym (joined_nowhere c.args.from c.args.answers.now c.answers.answer-index c.answers-test.false c.answers.invariant)
