use Rattle.std.proofs.Common.{inl, refl}
use Rattle.world_enough.specs.Bound.{bound_with_singles}
use Rattle.world_enough.proofs.Faulty.{enough}
use Rattle.world_enough.proofs.events_are_enough_with_singles.Goals as goal

pub returns : goal.returns
returns g c = λ f same_p same_q settings steps w run.
    enough f w steps (bound_with_singles f w) (λ v. c.standings_mean.ensures f v) run
    (λ well. c.faultless_runs_go_well.ensures f same_p same_q settings steps w well 2 (inl refl))
