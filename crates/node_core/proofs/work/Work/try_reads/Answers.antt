use Rattle.std.proofs.Common.{◌+◌, arith}
use Rattle.node_core.specs.Stands.{fitness_of}
use Rattle.node_core.proofs.Trying.{reads_all, reads_more, try_after}
use Rattle.node_core.proofs.Keeping.{keeps_none, keeps_on}
use Rattle.node_core.proofs.work.Work.try_reads.Goals as goal

pub processes-init : goal.processes-init
processes-init g c = ((λ m hand u at. at), keeps_none _ _)

pub try_read-requires : goal.try_read-requires
try_read-requires g c =
    let m = c.args.machine.now in
    try_after g.P.OneRun.stood g.P.OneRun.left g.P.OneRun.run.frame
    (fitness_of (g.P.Performer.fits_state m) (g.P.Performer.fits_args m) (g.P.Performer.fits_text m) (g.P.Performer.fits_reply m))
    c.processes.process c.args.self.now c.processes.self c.requires c.processes.invariant.0

pub processes-preserved : goal.processes-preserved
processes-preserved g c =
    let m = c.args.machine.now in (
      reads_more g.P.OneRun.stood g.P.OneRun.left g.P.OneRun.run.frame
          (fitness_of (g.P.Performer.fits_state m) (g.P.Performer.fits_args m) (g.P.Performer.fits_text m) (g.P.Performer.fits_reply m))
          c.processes.process (c.processes.process + 1) c.args.self.now c.processes.self c.try_read.new.self (omega arith) c.processes.invariant.0 (c.in_ok-try_read.ensures {u = tt}).does,
      keeps_on _ _ _ c.processes.invariant.1 (c.in_ok-try_read.ensures {u = tt}).tasks,
    )

pub returns-clause-does : goal.returns-clause-does
returns-clause-does g c =
    let m = c.args.machine.now in
    let counted = c.processes-process-end.ensures.processes in
    let over = c.processes-test.false in
    let within = c.processes.auto.process-end in
    reads_all g.P.OneRun.stood g.P.OneRun.left g.P.OneRun.run.frame
    (fitness_of (g.P.Performer.fits_state m) (g.P.Performer.fits_args m) (g.P.Performer.fits_text m) (g.P.Performer.fits_reply m))
    c.processes.process c.args.self.now c.processes.self (omega (arith, counted, over, within)) c.processes.invariant.0

pub returns-clause-tasks : goal.returns-clause-tasks
returns-clause-tasks g c = c.processes.invariant.1
