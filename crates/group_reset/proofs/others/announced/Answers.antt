use Rattle.std.proofs.Common.{sym, ◌∙◌, arith}
use Rattle.group_reset.proofs.Answering.{can_hear, heard_behind, heard_later, heard_now, left_behind, not_heard, other_than}
use Rattle.group_reset.proofs.others.announced.Goals as goal

pub install-requires-clause-can : goal.install-requires-clause-can
install-requires-clause-can g c =
    can_hear g.B.Body.id_of g.B.Body.length_of c.args.news c.args.member.now (let p = c.installed-installed.ensures in let t = c.if-incarnation-installed.false in omega arith) (let p = c.applied-applied.ensures in let t = c.if-applied-base.false in omega arith) c.requires

pub install-requires-clause-most : goal.install-requires-clause-most
install-requires-clause-most g c = λ is. absurd (other_than g.B.Body.id_of g.B.Body.length_of c.args.news c.args.member.now c.requires is)

pub returns-then-not-heeds-clause-row : goal.returns-then-not-heeds-clause-row
returns-then-not-heeds-clause-row g c = not_heard g.B.Body.id_of g.B.Body.length_of c.args.from c.args.news c.args.member.now c.new.result.items c.new.ensures.items (sym c.heeds.ensures ∙ c.if-not-heeds.true)

pub returns-then-base-length-clause-row : goal.returns-then-base-length-clause-row
returns-then-base-length-clause-row g c = heard_now g.B.Body.id_of g.B.Body.length_of c.args.from c.args.news c.args.member.now c.listen.new.self c.new-then-base-length.result.items c.new-then-base-length.ensures.items (sym c.heeds.ensures ∙ c.if-not-heeds.false) (let p = c.installed-installed.ensures in let t = c.if-incarnation-installed.true in omega arith) (let e = c.length-length.ensures in let t = c.if-base-length.true in omega arith) c.listen.ensures.row

pub returns-then-incarnation-installed-clause-row : goal.returns-then-incarnation-installed-clause-row
returns-then-incarnation-installed-clause-row g c =
    heard_behind g.B.Body.id_of g.B.Body.length_of c.args.from c.args.news c.args.member.now c.listen.new.self c.leave.new.self c.new-then-incarnation-installed.result.items c.new-then-incarnation-installed.ensures.items (sym c.heeds.ensures ∙ c.if-not-heeds.false) (let p = c.installed-installed.ensures in let t = c.if-incarnation-installed.true in omega arith) (let e = c.length-length.ensures in let t = c.if-base-length.false in omega arith) c.listen.ensures.row c.leave.ensures.row

pub returns-then-incarnation-installed-clause-member : goal.returns-then-incarnation-installed-clause-member
returns-then-incarnation-installed-clause-member g c = c.leave.ensures.member c.listen.ensures.member

pub returns-then-applied-base-clause-row : goal.returns-then-applied-base-clause-row
returns-then-applied-base-clause-row g c =
    left_behind g.B.Body.id_of g.B.Body.length_of c.args.from c.args.news c.args.member.now c.promise_above.new.member c.leave-then-applied-base.new.self c.new-then-applied-base.result.items c.new-then-applied-base.ensures.items (sym c.heeds.ensures ∙ c.if-not-heeds.false) (let p = c.installed-installed.ensures in let t = c.if-incarnation-installed.false in omega arith) (let e = c.applied-applied.ensures in let t = c.if-applied-base.true in omega arith) c.promise_above.ensures.row c.leave-then-applied-base.ensures.row

pub returns-then-applied-base-clause-member : goal.returns-then-applied-base-clause-member
returns-then-applied-base-clause-member g c = c.leave-then-applied-base.ensures.member c.promise_above.ensures.member

pub returns-clause-row : goal.returns-clause-row
returns-clause-row g c =
    heard_later g.B.Body.id_of g.B.Body.length_of c.args.from c.args.news c.args.member.now c.install.new.self c.in_ok-sends.sends.items (sym c.heeds.ensures ∙ c.if-not-heeds.false) (let p = c.installed-installed.ensures in let t = c.if-incarnation-installed.false in omega arith) (let e = c.applied-applied.ensures in let t = c.if-applied-base.false in omega arith)
    (c.in_ok-sends.ensures.elsewhere (other_than g.B.Body.id_of g.B.Body.length_of c.args.news c.args.member.now c.requires))
