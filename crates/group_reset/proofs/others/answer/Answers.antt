use Rattle.std.proofs.Common.{ap, ◌%◌, arith}
use Rattle.group_member.specs.declared.member.Config.{Config}
use Rattle.group_reset.proofs.Answering.{answers_all, answers_not}
use Rattle.group_reset.proofs.others.answer.Goals as goal

pub returns-then-incarnation-installed : goal.returns-then-incarnation-installed
returns-then-incarnation-installed g c = answers_not g.B.Body.id_of g.B.Body.length_of c.args.member.now c.args.incarnation c.new-sends.result.items c.new-sends.ensures.items (let p = c.installed-installed.ensures in let t = c.if-incarnation-installed.true in omega arith)

pub returns : goal.returns
returns g c =
    answers_all g.B.Body.id_of g.B.Body.length_of c.args.member.now c.args.incarnation _ c.in_ok-join.join c.new-sends.result.items _ c.new-sends.ensures.items (let p = c.installed-installed.ensures in let t = c.if-incarnation-installed.false in omega arith) (ap (λ (k : Config). c.args.incarnation % k.nodes) c.config.ensures) c.in_ok-join.ensures.row
    c.in_ok-push.ensures.items
