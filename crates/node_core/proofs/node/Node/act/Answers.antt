use Rattle.std.proofs.Common.{subst}
use Rattle.node_core.specs.Stands.{fitness_of}
use Rattle.node_core.specs.Keeping.{KeepsTasks}
use Rattle.node_rules.specs.Starts.Start.{Acts}
use Rattle.node_core.proofs.Starting.{event_done, may_start}
use Rattle.node_core.proofs.node.Node.act.Goals as goal

pub act-requires : goal.act-requires
act-requires g c =
    let m = c.args.machine.now in
    may_start g.P.OneRun.stood g.P.OneRun.left g.P.OneRun.run.frame (fitness_of (g.P.Performer.fits_state m) (g.P.Performer.fits_args m) (g.P.Performer.fits_text m) (g.P.Performer.fits_reply m))
    (Acts c.args.process.0) c.args.self c.of-work.result c.of-work.ensures.idle c.requires

pub returns-clause-does : goal.returns-clause-does
returns-clause-does g c =
    let m = c.args.machine.now in
    event_done g.P.OneRun.stood g.P.OneRun.left g.P.OneRun.run.frame (fitness_of (g.P.Performer.fits_state m) (g.P.Performer.fits_args m) (g.P.Performer.fits_text m) (g.P.Performer.fits_reply m))
    (Acts c.args.process.0) c.args.self c.of-work.result c.act.new.self c.of-work.ensures.idle c.in_ok-act.ensures.does

pub returns-clause-tasks : goal.returns-clause-tasks
returns-clause-tasks g c = subst (λ n. KeepsTasks n c.act.new.self.node) c.of-work.ensures.same c.in_ok-act.ensures.tasks
