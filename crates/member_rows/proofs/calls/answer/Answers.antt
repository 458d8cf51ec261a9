use Rattle.std.proofs.Common.{ap, arith}
use Rattle.group_member.specs.declared.member.Config.{Config}
use Rattle.member_rows.proofs.Testing.{after_joined, may_join}
use Rattle.member_rows.proofs.calls.answer.Goals as goal

pub joined-requires-clause-can : goal.joined-requires-clause-can
joined-requires-clause-can c = may_join c.args.from c.args.join c.args.member.now (let e = ap (λ (k : Config). k.nodes) c.config.ensures in let l = c.if-from-config.false in omega arith) c.requires (c.can_join.ensures c.if-not-can_join.false)

pub returns : goal.returns
returns c = after_joined c.args.from c.args.join c.args.member.now c.joined.new.member _ (may_join c.args.from c.args.join c.args.member.now (let e = ap (λ (k : Config). k.nodes) c.config.ensures in let l = c.if-from-config.false in omega arith) c.requires (c.can_join.ensures c.if-not-can_join.false)) c.in_ok-joined.ensures.row
