use Rattle.std.proofs.Common.{ap, map, ◌∙◌, arith}
use Rattle.group_reset.specs.Choice.{applied_with}
use Rattle.group_reset.proofs.Concluding.{can_install, here_still, installs_outcome, installs_row, leaves_outcome, leaves_row, most_reached}
use Rattle.group_reset.proofs.coordinator.take.Goals as goal

pub returns-then-applied-base-clause-row : goal.returns-then-applied-base-clause-row
returns-then-applied-base-clause-row g c = leaves_row g.B.Body.id_of g.B.Body.length_of c.args.member.now c.leave.new.self c.new.result.items c.args.kept c.new.ensures.items c.requires.many c.requires.kept (let a = c.applied-applied.ensures in let b = c.if-applied-base.true in omega arith) c.leave.ensures.row

pub returns-then-applied-base-clause-outcome : goal.returns-then-applied-base-clause-outcome
returns-then-applied-base-clause-outcome g c = leaves_outcome g.B.Body.id_of g.B.Body.length_of c.args.member.now c.args.kept c.applied-applied.result c.applied-applied.ensures c.requires.many c.requires.kept c.if-applied-base.true

pub install-requires-clause-can : goal.install-requires-clause-can
install-requires-clause-can g c = can_install c.args.member.now c.args.kept c.args.most c.in_ok-news.news c.in_ok-news.ensures c.requires.most c.requires.can c.requires.many c.requires.kept (let a = c.applied-applied.ensures in let b = c.if-applied-base.false in omega arith)

pub install-requires-clause-most : goal.install-requires-clause-most
install-requires-clause-most g c = λ is. most_reached c.args.member.now c.args.kept c.args.most c.in_ok-news.news c.in_ok-news.ensures c.requires.most

pub returns-clause-row : goal.returns-clause-row
returns-clause-row g c =
    installs_row g.B.Body.id_of g.B.Body.length_of c.args.member.now c.install.new.self c.args.kept c.args.most c.in_ok-news.news c.as_slice.result.now c.in_ok-sends.sends.items c.in_ok-news.ensures c.requires.most (c.as_slice.ensures.value ∙ (c.in_ok-heard.ensures ∙ ap (map applied_with) c.answers.ensures))
    c.requires.many c.requires.kept (let a = c.applied-applied.ensures in let b = c.if-applied-base.false in omega arith)
    (c.in_ok-sends.ensures.coordinator (here_still c.args.member.now c.args.kept c.args.most c.in_ok-news.news c.in_ok-news.ensures c.requires.can))

pub returns-clause-outcome : goal.returns-clause-outcome
returns-clause-outcome g c = installs_outcome g.B.Body.id_of g.B.Body.length_of c.args.member.now c.args.kept c.requires.many c.requires.kept (let a = c.applied-applied.ensures in let b = c.if-applied-base.false in omega arith)
