use Rattle.std.proofs.Common.{◌≡◌, ◌<◌, ◌+◌, ◌∙◌, [], rules, arith}
use Rattle.world_parts.proofs.Ruling.{lives_within}
use Rattle.run_ends.proofs.Books.{ended_first, ended_next}
use Rattle.run_ends.proofs.telling.node_ends.Goals as goal

pub members-init : goal.members-init
members-init g c =
    let none : c.new-ends.result.items ≡ [] = search rules in
    ended_first g.P.OneRun.stood g.P.OneRun.left g.P.OneRun.run.frame c.args.parts.now c.new-ends.result.items none

pub member_of-node-requires-clause-within : goal.member_of-node-requires-clause-within
member_of-node-requires-clause-within g c = omega (arith, c.members-test.true, c.requires.numbers.nodes)

pub members-preserved : goal.members-preserved
members-preserved g c =
    let lt : c.members.member < g.P.OneRun.run.frame.settings.nodes = omega (arith, c.members-test.true, c.requires.numbers.nodes) in
    ended_next g.P.OneRun.stood g.P.OneRun.left g.P.OneRun.run.frame c.args.parts.now c.members.member (c.members.member + 1) c.member_of-node.result.now c.lives.result c.in_ok-end.end c.members.ends.items _ (omega arith) c.member_of-node.ensures
    (λ w is. c.lives.ensures w is ∙ lives_within g.P.OneRun.run.frame w c.members.member lt) (c.in_ok-end.ensures {u = tt}) (c.in_ok-push.ensures {u = tt}).items c.members.invariant

pub returns : goal.returns
returns g c w is = record { count = omega (arith, c.members.invariant.0, c.members.auto.member-end, c.members-test.false, c.requires.numbers.nodes); each = c.members.invariant.1 w is }
