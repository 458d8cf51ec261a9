use Rattle.node_rules.specs.Starts.Start.{Suspects}
use Rattle.node_core.specs.Stands.{fitness_of}
use Rattle.node_core.proofs.Keeping.{keeps_on}
use Rattle.node_core.proofs.Starting.{started_free, suspects_done}
use Rattle.node_core.proofs.Working.{ok_map, ok_two}
use Rattle.node_core.proofs.work.Work.suspect.Goals as goal

pub reset-requires : goal.reset-requires
reset-requires g c = c.requires

pub catch_up-requires : goal.catch_up-requires
catch_up-requires g c =
    let m = c.args.machine.now in
    started_free g.P.OneRun.stood g.P.OneRun.left g.P.OneRun.run.frame (fitness_of (g.P.Performer.fits_state m) (g.P.Performer.fits_args m) (g.P.Performer.fits_text m) (g.P.Performer.fits_reply m))
    Suspects c.args.self.now c.reset.new.self c.requires (c.in_ok-reset.ensures {u = tt}).does

pub returns-clause-does : goal.returns-clause-does
returns-clause-does g c =
    let m = c.args.machine.now in
    ok_two c.catch_up.result _ _ _
    (λ goes gathered.
    suspects_done g.P.OneRun.stood g.P.OneRun.left g.P.OneRun.run.frame (fitness_of (g.P.Performer.fits_state m) (g.P.Performer.fits_args m) (g.P.Performer.fits_text m) (g.P.Performer.fits_reply m))
    c.args.self.now c.reset.new.self c.catch_up.new.self (c.in_ok-reset.ensures {u = tt}).does goes gathered)
    c.catch_up.ensures.does c.catch_up.ensures.gathered

pub returns-clause-tasks : goal.returns-clause-tasks
returns-clause-tasks g c = ok_map c.catch_up.result _ _ (λ keeps. keeps_on _ _ _ (c.in_ok-reset.ensures {u = tt}).tasks keeps) c.catch_up.ensures.tasks
