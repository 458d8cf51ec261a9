use Rattle.group_idle.proofs.Whole.{idle}
use Rattle.group_idle.proofs.Worst.{worst}
use Rattle.group_idle.proofs.idle_stretches_are_short.Goals as goal

pub returns : goal.returns
returns g c = record { idle = idle _; attained = worst }
