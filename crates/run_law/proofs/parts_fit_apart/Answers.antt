use Rattle.run_law.proofs.Ticking.{fits_apart}
use Rattle.run_law.proofs.parts_fit_apart.Goals as goal

pub returns : goal.returns
returns g c = λ f same_p same_q settings steps w replays going event given possible.
    fits_apart f _ w event (c.calls_fit.ensures.parts f same_p same_q settings steps w replays going event given possible)
