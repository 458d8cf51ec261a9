use Rattle.std.proofs.Common.{◌≡◌, ◌<◌, ◌∙◌, ℕ, ap, subst, length, arith}
use Rattle.value_core.specs.declared.action.Reply.{Reply}
use Rattle.value_core.specs.declared.message.Message.{Message}
use Rattle.group_member.specs.declared.member.Member.{Member}
use Rattle.world_parts.proofs.Leading.{IsLeader, leader_on, leader_stays, leads_all}
use Rattle.world_parts.proofs.Worlds.{one_list}
use Rattle.world_parts.proofs.parts.Parts.leader.Goals as goal
use Rattle.world_parts.proofs.parts.Parts.leader.Goals.{then-applied-most, else-applied-most}

pub members-preserved : goal.members-preserved
members-preserved g c =
    let s = c.args.self.now in
    let lt : c.members.member < length s.nodes.items = omega (arith, c.members-test.true, c.len-member-end.ensures, s.nodes.ok.0) in
    let is = c.applied-applied.ensures ∙ ap (λ (m : Member Message Reply). m.applied) c.member.ensures in
    elim c.if-applied-most.branch [
      | then-applied-most x ↦
          leader_on g.P.OneRun.stood g.P.OneRun.left g.P.OneRun.run.frame s c.members.member c.members.leader c.members.most c.if-applied-most.leader c.if-applied-most.most
          c.applied-applied.result c.index.result.now lt c.index.ensures is c.members.invariant (omega (arith, x.if-applied-most)) x.leader-is x.most-is
      | else-applied-most x ↦
          leader_stays g.P.OneRun.stood g.P.OneRun.left g.P.OneRun.run.frame s c.members.member c.members.leader c.members.most c.if-applied-most.leader c.if-applied-most.most
          c.applied-applied.result c.index.result.now lt c.index.ensures is c.members.invariant (omega (arith, x.if-applied-most)) x.leader-is x.most-is
    ]

pub returns-clause-leads : goal.returns-clause-leads
returns-clause-leads g c w is =
    let s = c.args.self.now in
    let f = g.P.OneRun.run.frame in
    let all : c.members.member ≡ f.settings.nodes = omega (arith, c.members-test.false, c.members.auto.member-end, c.len-member-end.ensures, s.nodes.ok.0, is.members) in
    let low = c.members.invariant.1 (omega (arith, all, c.requires.settings.some)) in
    leads_all f w c.members.leader c.members.most (one_list g.P.OneRun.stood g.P.OneRun.left f s w c.requires is) (omega (arith, all, low))
    (subst (λ (n : ℕ). IsLeader w n c.members.leader c.members.most) all (c.members.invariant.2 w is))
