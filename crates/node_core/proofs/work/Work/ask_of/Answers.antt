use Rattle.std.proofs.Common.{◌∙◌, ℕ, ap, sym}
use Rattle.value_core.specs.declared.message.Message.{Message}
use Rattle.group_packets.specs.declared.packet.Packet.TheVariants as packet
use Rattle.node_core.proofs.Sending.{ask_sent}
use Rattle.node_core.proofs.Working.{ok_map, ok_so}
use Rattle.node_core.proofs.Keeping.{keeps_none, keeps_same}
use Rattle.node_core.proofs.work.Work.ask_of.Goals as goal

pub returns-clause-does : goal.returns-clause-does
returns-clause-does g c =
    ok_map c.send.result _ _
    (λ posts.
    ask_sent g.P.OneRun.stood g.P.OneRun.left c.args.process.0 c.home_of-owner.result c.me.result c.in-Some.place c.in-Some.object c.in-Some.message
    (packet.Ask c.installed-incarnation.result c.in-Some.place c.in_ok-message.message) c.args.self.now c.send.new.self
    (sym c.in-Some.is ∙ c.in_ok-place.ensures {u = tt}) c.home_of-owner.ensures c.me.ensures c.if-owner-me.false
    (ap (λ (k : ℕ). packet.Ask k c.in-Some.place c.in_ok-message.message) c.installed-incarnation.ensures
    ∙ ap (λ (x : Message). packet.Ask c.args.self.now.node.member.installed c.in-Some.place x) (c.in_ok-message.ensures {u = tt}))
    c.send.ensures.node posts c.send.ensures.others)
    c.send.ensures.sends

pub returns-in_default-clause-tasks : goal.returns-in_default-clause-tasks
returns-in_default-clause-tasks g c = keeps_none _ _

pub returns-then-owner-me-clause-tasks : goal.returns-then-owner-me-clause-tasks
returns-then-owner-me-clause-tasks g c = keeps_none _ _

pub returns-clause-tasks : goal.returns-clause-tasks
returns-clause-tasks g c = ok_so c.send.result _ (keeps_same _ _ _ c.send.ensures.node)
