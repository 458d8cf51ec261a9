use Rattle.node_core.specs.Stands.{fitness_of}
use Rattle.world_core.proofs.Running.{hand_copy, ran_on}
use Rattle.world_core.proofs.burst.run_on.Goals as goal

pub burst_on-requires : goal.burst_on-requires
burst_on-requires g c =
    let m = c.args.machine.now in
    hand_copy g.P.OneRun.stood g.P.OneRun.left g.P.OneRun.run.frame (fitness_of (g.P.Performer.fits_state m) (g.P.Performer.fits_args m) (g.P.Performer.fits_text m) (g.P.Performer.fits_reply m)) c.args.process c.args.view c.args.budget c.args.before.now c.in_ok-node.node c.requires (c.in_ok-node.ensures {u = tt}).alike

pub returns : goal.returns
returns g c =
    ran_on g.P.OneRun.stood g.P.OneRun.left g.P.OneRun.run.frame c.args.process c.args.view c.args.before.now c.in_ok-node.node c.burst_on.new.self c.in_ok-burst.burst c.in_ok-burst.turns
    (c.in_ok-node.ensures {u = tt}).alike (c.in_ok-node.ensures {u = tt}).same (c.in_ok-burst.ensures {u = tt}).does
