use Rattle.std.proofs.Common.{refl}
use Rattle.node_parts.specs.declared.errand.Given.{Given}
use Rattle.node_core.proofs.Calling.{hands_away, hands_here}
use Rattle.node_core.proofs.Working.{ok_map}
use Rattle.node_core.proofs.Keeping.{keeps_given, keeps_on, keeps_same}
use Rattle.node_core.proofs.work.Work.hand.Goals as goal

pub returns-then-home-me-clause-does : goal.returns-then-home-me-clause-does
returns-then-home-me-clause-does g c =
    ok_map c.receive.result _ _
    (λ becomes f m v work.
    hands_here g.P.OneRun.stood g.P.OneRun.left f m c.home_of-home.result c.me.result c.applied-place.result c.args.line c.in_ok-reply.reply c.args.self.now c.perform.new.self
    c.receive.new.self v c.perform.ensures.node ((c.in_ok-perform.ensures {u = tt}).aside) c.perform.ensures.others c.applied-place.ensures (c.in_ok-reply.ensures {u = tt})
    c.home_of-home.ensures c.me.ensures c.if-home-me.true becomes work)
    c.receive.ensures.does

pub returns-clause-does : goal.returns-clause-does
returns-clause-does g c =
    let given : Given = record { place = c.applied-place.result; call = c.args.line.call; reply = c.in_ok-reply.reply } in
    ok_map c.give_again.result _ _
    (λ becomes f m v work.
    hands_away g.P.OneRun.stood g.P.OneRun.left f m c.home_of-home.result c.me.result c.args.line given c.args.self.now c.perform.new.self c.keep_given.new.self c.give_again.new.self v
    c.perform.ensures.node ((c.in_ok-perform.ensures {u = tt}).aside) c.perform.ensures.others c.applied-place.ensures refl (c.in_ok-reply.ensures {u = tt})
    c.home_of-home.ensures c.me.ensures c.if-home-me.false (c.in_ok-keep_given.ensures {u = tt}) becomes work)
    c.give_again.ensures.does

pub returns-then-home-me-clause-tasks : goal.returns-then-home-me-clause-tasks
returns-then-home-me-clause-tasks g c =
    ok_map c.receive.result _ _ (λ keeps. keeps_on c.args.self.now.node c.perform.new.self.node c.receive.new.self.node (keeps_same _ _ _ c.perform.ensures.node) keeps) c.receive.ensures.tasks

pub returns-clause-tasks : goal.returns-clause-tasks
returns-clause-tasks g c =
    ok_map c.give_again.result _ _
    (λ keeps.
    keeps_on c.args.self.now.node c.perform.new.self.node c.give_again.new.self.node (keeps_same _ _ _ c.perform.ensures.node)
    (keeps_on c.perform.new.self.node c.keep_given.new.self.node c.give_again.new.self.node (keeps_given _ _ _ _ (c.in_ok-keep_given.ensures {u = tt})) keeps))
    c.give_again.ensures.tasks
