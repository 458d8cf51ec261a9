use Rattle.std.proofs.Common.{inr, refl}
use Rattle.world_enough.specs.Bound.{bound}
use Rattle.world_enough.proofs.Faulty.{enough}
use Rattle.world_enough.proofs.events_are_enough.Goals as goal

pub returns : goal.returns
returns g c = λ f same_p same_q settings none steps w run.
    enough f w steps (bound f w) (λ v. c.standings_mean.ensures f v) run
    (λ well. c.faultless_runs_go_well.ensures f same_p same_q settings steps w well 0 (inr (none, refl)))
