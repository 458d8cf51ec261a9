use Rattle.std.proofs.Common.{refl}
use Rattle.node_core.specs.Stands.{fitness_of}
use Rattle.node_core.proofs.Sending.{read_first, read_may}
use Rattle.node_core.proofs.Working.{ok_map}
use Rattle.node_core.proofs.Keeping.{keeps_moved, keeps_on, reading_waits}
use Rattle.node_core.proofs.work.Work.read.Goals as goal

pub try_read-requires : goal.try_read-requires
try_read-requires g c =
    let m = c.args.machine.now in
    read_may g.P.OneRun.stood g.P.OneRun.left g.P.OneRun.run.frame
    (fitness_of (g.P.Performer.fits_state m) (g.P.Performer.fits_args m) (g.P.Performer.fits_text m) (g.P.Performer.fits_reply m))
    c.args.process.0 c.args.action c.args.self.now _ (c.in_ok-move_to.ensures {u = tt}) refl c.requires

pub returns-clause-does : goal.returns-clause-does
returns-clause-does g c =
    ok_map c.try_read.result _ _
    (λ becomes.
    read_first g.P.OneRun.stood g.P.OneRun.left g.P.OneRun.run.frame c.args.process.0 c.args.action c.args.self.now _ c.try_read.new.self (c.in_ok-move_to.ensures {u = tt}) refl becomes)
    c.try_read.ensures.does

pub returns-clause-tasks : goal.returns-clause-tasks
returns-clause-tasks g c =
    let m = c.args.machine.now in
    ok_map c.try_read.result _ _
    (λ keeps.
    keeps_on c.args.self.now.node c.move_to.new.self c.try_read.new.self.node
    (keeps_moved c.args.process.0 _ _ c.args.self.now.node c.move_to.new.self (c.in_ok-move_to.ensures {u = tt}) refl
    (λ s is. reading_waits g.P.OneRun.stood g.P.OneRun.left g.P.OneRun.run.frame
    (fitness_of (g.P.Performer.fits_state m) (g.P.Performer.fits_args m) (g.P.Performer.fits_text m) (g.P.Performer.fits_reply m))
    c.args.process.0 c.args.action c.args.self.now s c.requires is)) keeps)
    c.try_read.ensures.tasks
