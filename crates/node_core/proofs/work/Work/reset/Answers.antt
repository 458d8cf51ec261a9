use Rattle.std.proofs.Common.{◌∙◌, ap, sym}
use Rattle.node_rules.specs.Starts.Start.{Suspects}
use Rattle.node_core.specs.Stands.{fitness_of}
use Rattle.node_core.specs.declared.node.Node.{Node}
use Rattle.node_core.proofs.Starting.{few_promised, some_member, coordinated_so}
use Rattle.node_core.proofs.Working.{ok_map, ok_so}
use Rattle.node_core.proofs.Keeping.{keeps_member}
use Rattle.node_core.proofs.work.Work.reset.Goals as goal

pub coordinate-requires-clause-stands : goal.coordinate-requires-clause-stands
coordinate-requires-clause-stands g c = (let m = c.args.machine.now in some_member g.P.OneRun.stood g.P.OneRun.left g.P.OneRun.run.frame (fitness_of (g.P.Performer.fits_state m) (g.P.Performer.fits_args m) (g.P.Performer.fits_text m) (g.P.Performer.fits_reply m)) Suspects c.args.self.now c.requires)

pub coordinate-requires-clause-small : goal.coordinate-requires-clause-small
coordinate-requires-clause-small g c = (let m = c.args.machine.now in few_promised g.P.OneRun.stood g.P.OneRun.left g.P.OneRun.run.frame (fitness_of (g.P.Performer.fits_state m) (g.P.Performer.fits_args m) (g.P.Performer.fits_text m) (g.P.Performer.fits_reply m)) Suspects c.args.self.now c.requires)

pub returns-clause-does : goal.returns-clause-does
returns-clause-does g c =
    let m = c.args.machine.now in
    let node = c.post.ensures.node in
    let member = ap (λ (n : Node g.row.P.Denot g.row.P-State.Denot). n.member) node in
    ok_map c.post.result _ _
    (λ posted. coordinated_so g.P.OneRun.stood g.P.OneRun.left g.P.OneRun.run.frame (fitness_of (g.P.Performer.fits_state m) (g.P.Performer.fits_args m) (g.P.Performer.fits_text m) (g.P.Performer.fits_reply m)) c.args.self.now c.post.new.self c.in_ok-sends.sends.items
    (rw member (c.in_ok-sends.ensures {u = tt}).row) (node ∙ ap (λ x. record c.args.self.now.node { member = x }) (sym member)) c.post.ensures.others posted)
    c.post.ensures.sends

pub returns-clause-tasks : goal.returns-clause-tasks
returns-clause-tasks g c = ok_so c.post.result _ (keeps_member _ _ _ c.post.ensures.node)
