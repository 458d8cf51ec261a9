use Rattle.std.proofs.Common.{sym, subst}
use Rattle.std.specs.Prelude.{IfOk}
use Rattle.object_manager.specs.Viewed.{Viewed}
use Rattle.node_core.specs.AtOnce.{HasBurst}
use Rattle.node_core.specs.CheckingIn.{MayHandOut}
use Rattle.node_core.specs.Stands.{fitness_of}
use Rattle.node_core.proofs.node.Node.burst.Goals as goal

pub burst_on-requires : goal.burst_on-requires
burst_on-requires g c =
    let m = c.args.machine.now in
    subst (λ (v : Viewed). MayHandOut g.P.OneRun.stood g.P.OneRun.left g.P.OneRun.run.frame
    (fitness_of (g.P.Performer.fits_state m) (g.P.Performer.fits_args m) (g.P.Performer.fits_text m) (g.P.Performer.fits_reply m))
    c.args.process v c.args.budget c.args.self.now) (sym (c.in_ok-view.ensures {u = tt})) c.requires

pub returns-clause-does : goal.returns-clause-does
returns-clause-does g c =
    subst (λ (v : Viewed). IfOk c.burst_on.result (λ burst. HasBurst g.P.OneRun.stood g.P.OneRun.left g.P.OneRun.run.frame c.args.process v burst.0 burst.1 c.args.self.now c.burst_on.new.self)) (c.in_ok-view.ensures {u = tt}) c.burst_on.ensures.does
