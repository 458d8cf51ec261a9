use Rattle.std.proofs.Common.{arith}
use Rattle.member_rows.proofs.conditions.are_first.Goals as goal

pub returns : goal.returns
returns c = λ t k d l. c.answers.invariant k d (let e = c.answers-test.false in omega arith)
