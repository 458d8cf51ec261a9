use Rattle.world_idle.proofs.Worked.{growing_logs, held_packets, six_ticks}
use Rattle.world_idle.proofs.worked_stretches.Goals as goal

pub returns : goal.returns
returns c = record { six = six_ticks; held = held_packets; grown = growing_logs }
