use Rattle.std.proofs.Common.{refl}
use Rattle.world_rules.specs.Applying.{applies_all}
use Rattle.world_rules.specs.Parts.{catches_up}
use Rattle.node_core.specs.Stands.{fitness_of}
use Rattle.node_core.proofs.Starting.{caught_up, free_on, free_somewhere, gathered_up}
use Rattle.node_core.proofs.TakingEntry.{free_kept}
use Rattle.node_core.proofs.Keeping.{keeps_on}
use Rattle.node_core.proofs.work.Work.catch_up.Goals as goal

pub apply_all-requires : goal.apply_all-requires
apply_all-requires g c = (let m = c.args.machine.now in free_somewhere g.P.OneRun.stood g.P.OneRun.left g.P.OneRun.run.frame (fitness_of (g.P.Performer.fits_state m) (g.P.Performer.fits_args m) (g.P.Performer.fits_text m) (g.P.Performer.fits_reply m)) c.args.self.now c.requires)

pub take_reached-requires : goal.take_reached-requires
take_reached-requires g c =
    (let m = c.args.machine.now in free_on g.P.OneRun.stood g.P.OneRun.left g.P.OneRun.run.frame (fitness_of (g.P.Performer.fits_state m) (g.P.Performer.fits_args m) (g.P.Performer.fits_text m) (g.P.Performer.fits_reply m)) c.args.self.now c.apply_all.new.self (applies_all g.P.OneRun.run.frame) c.requires (c.in_ok-apply_all.ensures {u = tt}).does)

pub returns-clause-does : goal.returns-clause-does
returns-clause-does g c =
    let m = c.args.machine.now in
    free_kept g.P.OneRun.stood g.P.OneRun.left g.P.OneRun.run.frame (fitness_of (g.P.Performer.fits_state m) (g.P.Performer.fits_args m) (g.P.Performer.fits_text m) (g.P.Performer.fits_reply m)) c.args.self.now c.take_reached.new.self _ (catches_up g.P.OneRun.run.frame) refl refl
    (caught_up g.P.OneRun.stood g.P.OneRun.left g.P.OneRun.run.frame (fitness_of (g.P.Performer.fits_state m) (g.P.Performer.fits_args m) (g.P.Performer.fits_text m) (g.P.Performer.fits_reply m)) c.args.self.now c.apply_all.new.self c.take_reached.new.self (c.in_ok-apply_all.ensures {u = tt}).does (c.in_ok-take_reached.ensures {u = tt}).does)

pub returns-clause-gathered : goal.returns-clause-gathered
returns-clause-gathered g c =
    let m = c.args.machine.now in
    gathered_up g.P.OneRun.stood g.P.OneRun.left g.P.OneRun.run.frame (fitness_of (g.P.Performer.fits_state m) (g.P.Performer.fits_args m) (g.P.Performer.fits_text m) (g.P.Performer.fits_reply m)) c.args.self.now _ c.apply_all.new.messages.items c.new-messages.ensures.items (c.in_ok-apply_all.ensures {u = tt}).gathers

pub returns-clause-tasks : goal.returns-clause-tasks
returns-clause-tasks g c = keeps_on _ _ _ (c.in_ok-apply_all.ensures {u = tt}).tasks (c.in_ok-take_reached.ensures {u = tt}).tasks
