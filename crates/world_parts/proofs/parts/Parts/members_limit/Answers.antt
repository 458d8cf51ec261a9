use Rattle.std.proofs.Common.{◌+◌, refl, arith}
use Rattle.world_parts.proofs.Ruling.{limits_found, limits_next, limits_none}
use Rattle.world_parts.proofs.parts.Parts.members_limit.Goals as goal

pub members-init : goal.members-init
members-init g c w is = refl

pub limit_of_member-requires-clause-within : goal.limit_of_member-requires-clause-within
limit_of_member-requires-clause-within g c = omega (arith, c.members-test.true, c.requires.numbers.nodes)

pub returns-in-Some : goal.returns-in-Some
returns-in-Some g c w is =
    limits_found g.P.OneRun.run.frame w c.members.member g.P.OneRun.run.frame.settings.nodes _ (omega (arith, c.members-test.true, c.requires.numbers.nodes)) (c.members.invariant w is) (c.in-Some.ensures {u = tt} w is)

pub members-preserved : goal.members-preserved
members-preserved g c w is = limits_next g.P.OneRun.run.frame w c.members.member (c.members.member + 1) (omega arith) (c.members.invariant w is) (c.in_default.ensures {u = tt} w is)

pub returns : goal.returns
returns g c w is = limits_none g.P.OneRun.run.frame w c.members.member g.P.OneRun.run.frame.settings.nodes (omega (arith, c.members.auto.member-end, c.members-test.false, c.requires.numbers.nodes)) (c.members.invariant w is)
