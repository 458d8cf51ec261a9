-- The flights so far are nearer.
use Rattle.std.proofs.Common.{◌≡◌, ◌++◌, map, take, drop}
use Rattle.net_rules.specs.Flights.{nearer}
use Rattle.lossy_net.proofs.places.tick.Given as goal

abbrev pub invariant-loop-flight : goal.invariant-loop-flight
invariant-loop-flight l = l.row ≡ map nearer (take l.flight-index l.initial.row) ++ drop l.flight-index l.initial.row
