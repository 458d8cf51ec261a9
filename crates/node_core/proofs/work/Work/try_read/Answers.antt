use Rattle.std.proofs.Common.{◌∙◌, sym}
use Rattle.node_core.specs.Stands.{fitness_of}
use Rattle.node_core.proofs.Working.{ok_map}
use Rattle.node_core.proofs.Trying.{line_handed, may_try, tried_some}
use Rattle.node_core.proofs.Keeping.{keeps_none, keeps_on, keeps_same}
use Rattle.node_core.proofs.work.Work.try_read.Goals as goal

pub read_of-requires : goal.read_of-requires
read_of-requires g c =
    let m = c.args.machine.now in
    may_try g.P.OneRun.stood g.P.OneRun.left g.P.OneRun.run.frame
    (fitness_of (g.P.Performer.fits_state m) (g.P.Performer.fits_args m) (g.P.Performer.fits_text m) (g.P.Performer.fits_reply m))
    c.args.process c.args.self.now c.requires

pub receive-requires : goal.receive-requires
receive-requires g c =
    let m = c.args.machine.now in
    line_handed g.P.OneRun.stood g.P.OneRun.left g.P.OneRun.run.frame
    (fitness_of (g.P.Performer.fits_state m) (g.P.Performer.fits_args m) (g.P.Performer.fits_text m) (g.P.Performer.fits_reply m))
    c.args.process c.args.self.now c.perform.new.self (g.P.Performer.performs m) c.in-Some.line c.in_ok-reply.reply (g.met.P.Performer.replies_fit m) c.requires
    (sym (c.in_ok-line.ensures {u = tt}) ∙ c.in-Some.is) c.perform.ensures.node (c.in_ok-reply.ensures {u = tt})

pub returns-clause-does : goal.returns-clause-does
returns-clause-does g c =
    let m = c.args.machine.now in
    ok_map c.receive.result _ _
    (λ becomes k v work.
    tried_some g.P.OneRun.stood g.P.OneRun.left g.P.OneRun.run.frame k c.args.process c.args.self.now c.perform.new.self c.receive.new.self v
    (g.P.Performer.performs m) c.in-Some.line c.applied-place.result c.in_ok-reply.reply (g.met.P.OneRun.performs_run m)
    (sym (c.in_ok-line.ensures {u = tt}) ∙ c.in-Some.is) c.perform.ensures.node ((c.in_ok-perform.ensures {u = tt}).aside) c.perform.ensures.others
    c.applied-place.ensures (c.in_ok-reply.ensures {u = tt}) becomes work)
    c.receive.ensures.does

pub returns-in_default-clause-tasks : goal.returns-in_default-clause-tasks
returns-in_default-clause-tasks g c = keeps_none _ _

pub returns-clause-tasks : goal.returns-clause-tasks
returns-clause-tasks g c =
    ok_map c.receive.result _ _ (λ keeps. keeps_on c.args.self.now.node c.perform.new.self.node c.receive.new.self.node (keeps_same _ _ _ c.perform.ensures.node) keeps) c.receive.ensures.tasks
