use Rattle.std.proofs.Common.{ap, sym, ◌∙◌, arith}
use Rattle.node_core.specs.declared.node.Node.{Node}
use Rattle.node_core.proofs.Working.{ok_map, ok_so}
use Rattle.node_core.proofs.Noting.{can_note, note_goes}
use Rattle.node_core.proofs.Keeping.{keeps_member, keeps_none}
use Rattle.node_core.proofs.work.Work.note.Goals as goal

pub note_applied-requires-clause-member : goal.note_applied-requires-clause-member
note_applied-requires-clause-member g c = (can_note _ _ _ _ c.requires.0 c.args.self.now c.requires.1 c.requires.2 c.requires.3).member

pub note_applied-requires-clause-from : goal.note_applied-requires-clause-from
note_applied-requires-clause-from g c =
    let can = (can_note _ _ _ _ c.requires.0 c.args.self.now c.requires.1 c.requires.2 c.requires.3).from in
    let e = c.applied-applied.ensures in
    omega (arith, can, e)

pub note_applied-requires-clause-to : goal.note_applied-requires-clause-to
note_applied-requires-clause-to g c =
    let can = (can_note _ _ _ _ c.requires.0 c.args.self.now c.requires.1 c.requires.2 c.requires.3).to in
    let e = c.applied-applied.ensures in
    omega (arith, can, e)

pub note_applied-requires-clause-small : goal.note_applied-requires-clause-small
note_applied-requires-clause-small g c =
    let can = (can_note _ _ _ _ c.requires.0 c.args.self.now c.requires.1 c.requires.2 c.requires.3).small in
    let e = c.applied-applied.ensures in
    omega (arith, can, e)

pub returns-clause-goes : goal.returns-clause-goes
returns-clause-goes g c =
    let f = g.P.OneRun.run.frame in
    let node = c.post.ensures.node in
    let member = ap (λ (n : Node g.row.P.Denot g.row.P-State.Denot). n.member) node in
    let below = c.if-applied.false in
    let was = c.applied.ensures in
    ok_map c.post.result _ _
    (λ posted m hand u at.
    note_goes g.P.OneRun.stood g.P.OneRun.left f _ m c.args.self.now c.post.new.self hand u c.in_ok-sends.sends.items c.applied-applied.result
    c.applied-applied.ensures (omega (arith, below, was))
    (λ stands. rw member ((c.in_ok-sends.ensures {u = tt}).row f.settings.nodes f.settings.resilience m u.work.node.member stands))
    (node ∙ ap (λ x. record c.args.self.now.node { member = x }) (sym member))
    c.post.ensures.others posted at)
    c.post.ensures.sends

pub returns-clause-noted : goal.returns-clause-noted
returns-clause-noted g c =
    let kept = ap (λ (n : Node g.row.P.Denot g.row.P-State.Denot). n.member.applied) c.post.ensures.node in
    let noted = (c.in_ok-sends.ensures {u = tt}).applied in
    let here = c.applied-applied.ensures in
    ok_so c.post.result _ (omega (arith, kept, noted, here))

pub returns-then-applied-clause-tasks : goal.returns-then-applied-clause-tasks
returns-then-applied-clause-tasks g c = keeps_none _ _

pub returns-clause-tasks : goal.returns-clause-tasks
returns-clause-tasks g c = ok_so c.post.result _ (keeps_member _ _ _ c.post.ensures.node)
