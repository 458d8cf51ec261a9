use Rattle.std.proofs.Common.{subst}
use Rattle.node_core.specs.Stands.{fitness_of}
use Rattle.node_core.specs.Keeping.{KeepsTasks}
use Rattle.node_rules.specs.Starts.Start.{Suspects}
use Rattle.node_core.proofs.Starting.{event_done, may_start}
use Rattle.node_core.proofs.node.Node.suspect.Goals as goal

pub suspect-requires : goal.suspect-requires
suspect-requires g c =
    let m = c.args.machine.now in
    may_start g.P.OneRun.stood g.P.OneRun.left g.P.OneRun.run.frame (fitness_of (g.P.Performer.fits_state m) (g.P.Performer.fits_args m) (g.P.Performer.fits_text m) (g.P.Performer.fits_reply m))
    Suspects c.args.self c.of-work.result c.of-work.ensures.idle c.requires

pub returns-clause-does : goal.returns-clause-does
returns-clause-does g c =
    let m = c.args.machine.now in
    event_done g.P.OneRun.stood g.P.OneRun.left g.P.OneRun.run.frame (fitness_of (g.P.Performer.fits_state m) (g.P.Performer.fits_args m) (g.P.Performer.fits_text m) (g.P.Performer.fits_reply m))
    Suspects c.args.self c.of-work.result c.suspect.new.self c.of-work.ensures.idle c.in_ok-suspect.ensures.does

pub returns-clause-tasks : goal.returns-clause-tasks
returns-clause-tasks g c = subst (λ n. KeepsTasks n c.suspect.new.self.node) c.of-work.ensures.same c.in_ok-suspect.ensures.tasks
