-- None from here on has a lower number.
use Rattle.std.proofs.Common.{drop}
use Rattle.lossy_net.proofs.Orders.{NoneLower}
use Rattle.lossy_net.proofs.places.place_for.Given as goal

abbrev pub invariant-loop-at : goal.invariant-loop-at
invariant-loop-at l = NoneLower l.number (drop l.at l.flights.items)
