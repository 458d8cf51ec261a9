use Rattle.std.proofs.Common.{subst}
use Rattle.node_core.specs.Stands.{fitness_of}
use Rattle.node_core.specs.Keeping.{KeepsTasks}
use Rattle.node_core.proofs.Starting.{may_come, packet_done}
use Rattle.node_core.proofs.node.Node.deliver.Goals as goal

pub deliver-requires : goal.deliver-requires
deliver-requires g c =
    let m = c.args.machine.now in
    may_come g.P.OneRun.stood g.P.OneRun.left g.P.OneRun.run.frame (fitness_of (g.P.Performer.fits_state m) (g.P.Performer.fits_args m) (g.P.Performer.fits_text m) (g.P.Performer.fits_reply m))
    c.args.from c.args.packet c.args.self c.of-work.result c.of-work.ensures.idle c.requires

pub returns-clause-does : goal.returns-clause-does
returns-clause-does g c =
    let m = c.args.machine.now in
    packet_done g.P.OneRun.stood g.P.OneRun.left g.P.OneRun.run.frame (fitness_of (g.P.Performer.fits_state m) (g.P.Performer.fits_args m) (g.P.Performer.fits_text m) (g.P.Performer.fits_reply m))
    c.args.from c.args.packet c.args.self c.of-work.result c.deliver.new.self c.of-work.ensures.idle c.in_ok-deliver.ensures.does

pub returns-clause-tasks : goal.returns-clause-tasks
returns-clause-tasks g c = subst (λ n. KeepsTasks n c.deliver.new.self.node) c.of-work.ensures.same c.in_ok-deliver.ensures.tasks
