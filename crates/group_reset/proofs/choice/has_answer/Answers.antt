use Rattle.std.proofs.Common.{ap, sym}
use Rattle.std.specs.Option.{is_some}
use Rattle.group_reset.proofs.Choosing.{joined_at, joined_nowhere}
use Rattle.group_reset.proofs.choice.has_answer.Goals as goal

pub returns-then-answer-from : goal.returns-then-answer-from
returns-then-answer-from g c = sym (ap is_some (joined_at c.args.from c.args.answers.now c.answers.answer-index c.answer-item.result c.answers-test.true c.answers.invariant c.answer-item.is c.if-answer-from.true))

pub returns : goal.returns
returns g c = sym (ap is_some (joined_nowhere c.args.from c.args.answers.now c.answers.answer-index c.answers-test.false c.answers.invariant))
