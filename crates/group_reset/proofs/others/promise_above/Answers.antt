use Rattle.std.proofs.Common.{arith}
use Rattle.group_reset.proofs.Answering.{promises_more, promises_not}
use Rattle.group_reset.proofs.others.promise_above.Goals as goal

pub returns-then-incarnation-promised-clause-row : goal.returns-then-incarnation-promised-clause-row
returns-then-incarnation-promised-clause-row g c = promises_not g.B.Body.id_of g.B.Body.length_of c.args.member.now c.args.incarnation (let p = c.promised-promised.ensures in let t = c.if-incarnation-promised.true in omega arith)

pub returns-clause-row : goal.returns-clause-row
returns-clause-row g c = promises_more g.B.Body.id_of g.B.Body.length_of c.args.member.now c.promise.new.self c.args.incarnation (let p = c.promised-promised.ensures in let t = c.if-incarnation-promised.false in omega arith) c.promise.ensures.row
