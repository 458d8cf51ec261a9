use Rattle.std.proofs.Common.{◌∙◌, ap, sym, subst, refl}
use Rattle.value_core.specs.declared.message.Message.{Message}
use Rattle.group_rules.specs.Steps.{submit}
use Rattle.group_member.specs.AtWork.{Does}
use Rattle.world_rules.specs.Frame.{bytes_of, name_of}
use Rattle.node_core.specs.declared.node.Node.{Node}
use Rattle.node_core.proofs.Starting.{still_member, submitted_so}
use Rattle.node_core.proofs.Working.{ok_map, ok_so}
use Rattle.node_core.proofs.Keeping.{acting_waits, keeps_member, keeps_moved, keeps_on}
use Rattle.node_core.proofs.work.Work.submit.Goals as goal

pub submit-requires : goal.submit-requires
submit-requires g c = still_member c.args.process.0 _ _ c.args.self.now.node c.move_to.new.self (c.in_ok-move_to.ensures {u = tt}) c.requires.member

pub returns-clause-does : goal.returns-clause-does
returns-clause-does g c =
    let node = c.post.ensures.node in
    let member = ap (λ (n : Node g.row.P.Denot g.row.P-State.Denot). n.member) node in
    ok_map c.post.result _ _
    (λ posted.
    submitted_so g.P.OneRun.stood g.P.OneRun.left g.P.OneRun.run.frame c.args.process.0 c.args.message c.in_ok-action.action c.args.self.now (record c.args.self.now { node = c.move_to.new.self }) c.post.new.self c.in_ok-sends.sends.items (c.in_ok-action.ensures {u = tt})
    (c.in_ok-move_to.ensures {u = tt}) refl (rw member
    (subst (λ (x : Message). Does name_of bytes_of c.move_to.new.self.member c.submit.new.self c.in_ok-sends.sends.items (λ h which. submit h which x))
    (c.in_ok-message.ensures {u = tt}) ((c.in_ok-sends.ensures {u = tt}).row)))
    (node ∙ ap (λ x. record c.move_to.new.self { member = x }) (sym member)) c.post.ensures.others posted)
    c.post.ensures.sends

pub returns-clause-tasks : goal.returns-clause-tasks
returns-clause-tasks g c =
    ok_so c.post.result _
    (keeps_on c.args.self.now.node c.move_to.new.self c.post.new.self.node
    (keeps_moved c.args.process.0 _ _ c.args.self.now.node c.move_to.new.self (c.in_ok-move_to.ensures {u = tt}) refl (λ s is. acting_waits c.args.process.0 _ s c.args.message c.requires.acting is))
    (keeps_member _ _ _ c.post.ensures.node))
