use Rattle.std.proofs.Common.{refl}
use Rattle.node_core.specs.Stands.{fitness_of}
use Rattle.node_core.proofs.Sending.{ask_here, ask_may, ask_there}
use Rattle.node_core.proofs.Working.{ok_map}
use Rattle.node_core.proofs.Keeping.{asking_waits, keeps_moved, keeps_on}
use Rattle.node_core.proofs.work.Work.ask.Goals as goal

pub perform_call-requires : goal.perform_call-requires
perform_call-requires g c =
    let m = c.args.machine.now in
    ask_may g.P.OneRun.stood g.P.OneRun.left g.P.OneRun.run.frame
    (fitness_of (g.P.Performer.fits_state m) (g.P.Performer.fits_args m) (g.P.Performer.fits_text m) (g.P.Performer.fits_reply m))
    c.args.process.0 c.home_of-owner.result c.me.result c.args.object c.args.message c.in_ok-action.action c.args.self.now _ (c.in_ok-action.ensures {u = tt})
    (c.in_ok-move_to.ensures {u = tt}) refl c.home_of-owner.ensures c.me.ensures c.if-owner-me.true c.requires

pub returns-then-owner-me-clause-does : goal.returns-then-owner-me-clause-does
returns-then-owner-me-clause-does g c =
    ok_map c.perform_call.result _ _
    (λ becomes.
    ask_here g.P.OneRun.stood g.P.OneRun.left g.P.OneRun.run.frame c.args.process.0 c.home_of-owner.result c.me.result c.args.object c.args.message c.in_ok-action.action c.args.self.now _
    c.perform_call.new.self (c.in_ok-action.ensures {u = tt}) (c.in_ok-move_to.ensures {u = tt}) refl c.home_of-owner.ensures c.me.ensures c.if-owner-me.true becomes)
    c.perform_call.ensures.does

pub returns-clause-does : goal.returns-clause-does
returns-clause-does g c =
    ok_map c.ask_of.result _ _
    (λ becomes.
    ask_there g.P.OneRun.stood g.P.OneRun.left g.P.OneRun.run.frame c.args.process.0 c.home_of-owner.result c.me.result c.args.object c.args.message c.in_ok-action.action c.args.self.now _
    c.ask_of.new.self (c.in_ok-action.ensures {u = tt}) (c.in_ok-move_to.ensures {u = tt}) refl c.home_of-owner.ensures c.me.ensures c.if-owner-me.false becomes)
    c.ask_of.ensures.does

pub returns-then-owner-me-clause-tasks : goal.returns-then-owner-me-clause-tasks
returns-then-owner-me-clause-tasks g c =
    let m = c.args.machine.now in
    ok_map c.perform_call.result _ _
    (λ keeps.
    keeps_on c.args.self.now.node c.move_to.new.self c.perform_call.new.self.node
    (keeps_moved c.args.process.0 _ _ c.args.self.now.node c.move_to.new.self (c.in_ok-move_to.ensures {u = tt}) refl
    (λ s is. asking_waits g.P.OneRun.stood g.P.OneRun.left g.P.OneRun.run.frame
    (fitness_of (g.P.Performer.fits_state m) (g.P.Performer.fits_args m) (g.P.Performer.fits_text m) (g.P.Performer.fits_reply m))
    c.args.process.0 c.args.object c.args.message c.args.self.now s c.requires is)) keeps)
    c.perform_call.ensures.tasks

pub returns-clause-tasks : goal.returns-clause-tasks
returns-clause-tasks g c =
    let m = c.args.machine.now in
    ok_map c.ask_of.result _ _
    (λ keeps.
    keeps_on c.args.self.now.node c.move_to.new.self c.ask_of.new.self.node
    (keeps_moved c.args.process.0 _ _ c.args.self.now.node c.move_to.new.self (c.in_ok-move_to.ensures {u = tt}) refl
    (λ s is. asking_waits g.P.OneRun.stood g.P.OneRun.left g.P.OneRun.run.frame
    (fitness_of (g.P.Performer.fits_state m) (g.P.Performer.fits_args m) (g.P.Performer.fits_text m) (g.P.Performer.fits_reply m))
    c.args.process.0 c.args.object c.args.message c.args.self.now s c.requires is)) keeps)
    c.ask_of.ensures.tasks
