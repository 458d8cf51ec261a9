use Rattle.std.proofs.Common.{[], length}
use Rattle.guard_queue.specs.Settles.{settled}
use Rattle.guard_queue.proofs.Apart.{calls_apart, settles_apart}
use Rattle.guard_queue.proofs.Blocked.{settled_blocked}
use Rattle.guard_queue.proofs.Ends.{one_end, settles}
use Rattle.guard_queue.proofs.Stays.{settled_extends, settled_rises}
use Rattle.guard_queue.proofs.Steps.{settled_fits}
use Rattle.guard_queue.proofs.laws.settling_law.Goals as goal

pub returns : goal.returns
returns g c =
    let m = c.args.performer.now in
    let p = g.P.Performer.performs m in
    record {
      blocked = λ objects queue. settled_blocked p (record { objects = objects; queue = queue; lines = [] });
      fits = λ kinds objects queue fit. settled_fits (g.P.Performer.fits_state m) (g.P.Performer.fits_args m) kinds p (g.met.P.Performer.keeps_fit m kinds) (length queue) (record { objects = objects; queue = queue; lines = [] }) fit;
      types = λ objects queue. settled_extends p (length queue) (record { objects = objects; queue = queue; lines = [] });
      ids = λ objects queue rises. settled_rises p (length queue) (record { objects = objects; queue = queue; lines = [] }) rises;
      once = λ objects queue. (settles p objects queue, λ end ends. one_end p end (settled p objects queue) (record { objects = objects; queue = queue; lines = [] }) ends (settles p objects queue));
      apart = settles_apart p;
      calls = calls_apart p;
    }
