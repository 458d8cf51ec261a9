use Rattle.std.specs.Prelude.{length}
use Rattle.world_rules.specs.Worlds.{opening_world}
use Rattle.world_enough.specs.Bound.{most_packets, most_work}
use Rattle.world_enough.specs.Faultless.{delivered, worked}
use Rattle.world_enough.proofs.Total.{all_are, no_more}
use Rattle.world_enough.proofs.faultless_runs_need_no_more.Goals as goal

pub returns : goal.returns
returns g c = λ f same_p same_q settings steps w run each cost.
    no_more f w (length steps) (worked steps) (delivered steps) (most_work f w) (most_packets each f w)
    (all_are f (opening_world f) w steps run (c.faultless_runs_need_no_tick.ensures f same_p same_q settings steps w run).0)
    (c.faultless_runs_deliver.ensures f same_p same_q settings steps w run each cost)
    (c.faultless_runs_work.ensures f same_p same_q settings steps w run)
