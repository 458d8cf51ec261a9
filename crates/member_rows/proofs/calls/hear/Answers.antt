use Rattle.member_rows.proofs.Testing.{after_heard, may_hear}
use Rattle.member_rows.proofs.calls.hear.Goals as goal

pub announced-requires : goal.announced-requires
announced-requires c = may_hear c.args.news c.args.member.now c.requires (c.can_hear.ensures c.if-not-can_hear.false)

pub returns : goal.returns
returns c = after_heard c.args.from c.args.news c.args.member.now c.announced.new.member _ (may_hear c.args.news c.args.member.now c.requires (c.can_hear.ensures c.if-not-can_hear.false)) c.in_ok-announced.ensures.row
