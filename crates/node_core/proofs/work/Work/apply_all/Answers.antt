use Rattle.std.proofs.Common.{arith}
use Rattle.world_rules.specs.Applying.{notes}
use Rattle.node_core.specs.Stands.{fitness_of}
use Rattle.node_core.proofs.CatchingUp.{first_applied, rounds_more, rounds_over, rounds_smaller, somewhere_goes, somewhere_rounds, told_over}
use Rattle.node_core.proofs.Keeping.{keeps_on}
use Rattle.node_core.proofs.work.Work.apply_all.Goals as goal

pub rounds-init : goal.rounds-init
rounds-init g c =
    let m = c.args.machine.now in (
      first_applied g.P.OneRun.stood g.P.OneRun.left g.P.OneRun.run.frame (fitness_of (g.P.Performer.fits_state m) (g.P.Performer.fits_args m) (g.P.Performer.fits_text m) (g.P.Performer.fits_reply m)) c.args.self.now _ c.args.messages.now.items c.apply_due.new.messages.items (c.in_ok-apply_due.ensures {u = tt}).does (c.in_ok-apply_due.ensures {u = tt}).gathers,
      (c.in_ok-apply_due.ensures {u = tt}).tasks,
    )

pub apply_due-requires : goal.apply_due-requires
apply_due-requires g c = c.requires

pub note-requires : goal.note-requires
note-requires g c = (let m = c.args.machine.now in somewhere_rounds g.P.OneRun.stood g.P.OneRun.left g.P.OneRun.run.frame (fitness_of (g.P.Performer.fits_state m) (g.P.Performer.fits_args m) (g.P.Performer.fits_text m) (g.P.Performer.fits_reply m)) c.args.self.now c.rounds.self c.args.messages.now.items c.rounds.messages.items c.requires c.rounds.invariant.0)

pub apply_due-requires-in-rounds : goal.apply_due-requires-in-rounds
apply_due-requires-in-rounds g c =
    let m = c.args.machine.now in
    somewhere_goes g.P.OneRun.stood g.P.OneRun.left g.P.OneRun.run.frame (fitness_of (g.P.Performer.fits_state m) (g.P.Performer.fits_args m) (g.P.Performer.fits_text m) (g.P.Performer.fits_reply m)) c.rounds.self c.note.new.self (notes g.P.OneRun.run.frame)
    (somewhere_rounds g.P.OneRun.stood g.P.OneRun.left g.P.OneRun.run.frame (fitness_of (g.P.Performer.fits_state m) (g.P.Performer.fits_args m) (g.P.Performer.fits_text m) (g.P.Performer.fits_reply m)) c.args.self.now c.rounds.self c.args.messages.now.items c.rounds.messages.items c.requires c.rounds.invariant.0) (c.in_ok-note.ensures {u = tt}).goes

pub rounds-preserved : goal.rounds-preserved
rounds-preserved g c =
    let m = c.args.machine.now in (
      rounds_more g.P.OneRun.stood g.P.OneRun.left g.P.OneRun.run.frame (fitness_of (g.P.Performer.fits_state m) (g.P.Performer.fits_args m) (g.P.Performer.fits_text m) (g.P.Performer.fits_reply m)) c.args.self.now c.rounds.self c.note.new.self c.apply_due-in-rounds.new.self c.args.messages.now.items c.rounds.messages.items c.apply_due-in-rounds.new.messages.items
          c.rounds.invariant.0 (c.in_ok-note.ensures {u = tt}).goes (c.in_ok-apply_due-2.ensures {u = tt}).does (c.in_ok-apply_due-2.ensures {u = tt}).gathers,
      keeps_on _ _ _ c.rounds.invariant.1 (keeps_on _ _ _ (c.in_ok-note.ensures {u = tt}).tasks (c.in_ok-apply_due-2.ensures {u = tt}).tasks),
    )

pub rounds-smaller : goal.rounds-smaller
rounds-smaller g c =
    let m = c.args.machine.now in
    rounds_smaller g.P.OneRun.stood g.P.OneRun.left g.P.OneRun.run.frame (fitness_of (g.P.Performer.fits_state m) (g.P.Performer.fits_args m) (g.P.Performer.fits_text m) (g.P.Performer.fits_reply m)) c.args.self.now c.rounds.self c.note.new.self c.apply_due-in-rounds.new.self c.args.messages.now.items c.rounds.messages.items c.requires c.rounds.invariant.0 (c.in_ok-note.ensures {u = tt}).goes (c.in_ok-apply_due-2.ensures {u = tt}).does
    (omega arith) (c.in_ok-note.ensures {u = tt}).noted

pub returns-clause-does : goal.returns-clause-does
returns-clause-does g c = (let m = c.args.machine.now in rounds_over g.P.OneRun.stood g.P.OneRun.left g.P.OneRun.run.frame (fitness_of (g.P.Performer.fits_state m) (g.P.Performer.fits_args m) (g.P.Performer.fits_text m) (g.P.Performer.fits_reply m)) c.args.self.now c.rounds.self c.args.messages.now.items c.rounds.messages.items c.rounds.invariant.0 (omega arith))

pub returns-clause-gathers : goal.returns-clause-gathers
returns-clause-gathers g c = (let m = c.args.machine.now in told_over g.P.OneRun.stood g.P.OneRun.left g.P.OneRun.run.frame (fitness_of (g.P.Performer.fits_state m) (g.P.Performer.fits_args m) (g.P.Performer.fits_text m) (g.P.Performer.fits_reply m)) c.args.self.now c.rounds.self c.args.messages.now.items c.rounds.messages.items c.rounds.invariant.0 (omega arith))

pub returns-clause-tasks : goal.returns-clause-tasks
returns-clause-tasks g c = c.rounds.invariant.1
