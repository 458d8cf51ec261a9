use Rattle.node_rules.specs.Starts.Start.{Acts}
use Rattle.node_core.specs.Stands.{fitness_of}
use Rattle.node_core.proofs.Keeping.{keeps_on}
use Rattle.node_core.proofs.Starting.{acts_done, started_free}
use Rattle.node_core.proofs.Working.{ok_map, ok_two}
use Rattle.node_core.proofs.work.Work.act.Goals as goal

pub carry_out-requires : goal.carry_out-requires
carry_out-requires g c = c.requires

pub catch_up-requires : goal.catch_up-requires
catch_up-requires g c =
    let m = c.args.machine.now in
    started_free g.P.OneRun.stood g.P.OneRun.left g.P.OneRun.run.frame (fitness_of (g.P.Performer.fits_state m) (g.P.Performer.fits_args m) (g.P.Performer.fits_text m) (g.P.Performer.fits_reply m))
    (Acts c.args.process.0) c.args.self.now c.carry_out.new.self c.requires (c.in_ok-carry_out.ensures {u = tt}).does

pub returns-clause-does : goal.returns-clause-does
returns-clause-does g c =
    let m = c.args.machine.now in
    ok_two c.catch_up.result _ _ _
    (λ goes gathered.
    acts_done g.P.OneRun.stood g.P.OneRun.left g.P.OneRun.run.frame (fitness_of (g.P.Performer.fits_state m) (g.P.Performer.fits_args m) (g.P.Performer.fits_text m) (g.P.Performer.fits_reply m))
    c.args.process.0 c.args.self.now c.carry_out.new.self c.catch_up.new.self (c.in_ok-carry_out.ensures {u = tt}).does goes gathered)
    c.catch_up.ensures.does c.catch_up.ensures.gathered

pub returns-clause-tasks : goal.returns-clause-tasks
returns-clause-tasks g c = ok_map c.catch_up.result _ _ (λ keeps. keeps_on _ _ _ (c.in_ok-carry_out.ensures {u = tt}).tasks keeps) c.catch_up.ensures.tasks
