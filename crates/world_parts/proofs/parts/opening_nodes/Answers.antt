use Rattle.std.proofs.Common.{◌≡◌, ◌+◌, ◌∙◌, sym, subst, arith, rules, []}
use Rattle.world_parts.proofs.Opening.{opening_begins, opening_more}
use Rattle.world_parts.specs.Opening.{AreOpening}
use Rattle.world_parts.proofs.parts.opening_nodes.Goals as goal

pub members-init : goal.members-init
members-init g c =
    let none : c.new-nodes.result.items ≡ [] = search rules in
    subst (AreOpening g.P.OneRun.stood g.P.OneRun.left g.P.OneRun.run.frame 0) (sym none) (opening_begins g.P.OneRun.stood g.P.OneRun.left g.P.OneRun.run.frame)

pub members-preserved : goal.members-preserved
members-preserved g c =
    opening_more g.P.OneRun.stood g.P.OneRun.left g.P.OneRun.run.frame c.members.me (c.members.me + 1) c.members.nodes.items c.push.new.self.items c.in_ok-node.node (omega arith) c.members.invariant
    (c.in_ok-push.ensures {u = tt}).items
    ((c.in_ok-node.ensures {u = tt}).opens c.requires.numbers.nodes c.requires.numbers.resilience ((c.in_ok-copy.ensures {u = tt}) ∙ (c.in_ok-choices.ensures {u = tt}) ∙ c.requires.choices))
    (c.in_ok-node.ensures {u = tt}).out

pub returns : goal.returns
returns g c =
    subst (λ n. AreOpening g.P.OneRun.stood g.P.OneRun.left g.P.OneRun.run.frame n c.members.nodes.items) (omega (arith, c.members.auto.me-end, c.members-test.false, c.requires.numbers.nodes)) c.members.invariant
