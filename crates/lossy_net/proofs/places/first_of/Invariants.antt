-- None before is ready.
use Rattle.std.proofs.Common.{◌≡◌, drop}
use Rattle.std.specs.List.{find}
use Rattle.net_rules.specs.Flights.{is_ready}
use Rattle.lossy_net.proofs.places.first_of.Given as goal

abbrev pub invariant-loop-at : goal.invariant-loop-at
invariant-loop-at l = find is_ready (drop l.at l.flights.items) ≡ find is_ready l.flights.items
