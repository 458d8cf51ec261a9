-- None before is that copy.
use Rattle.std.proofs.Common.{◌≡◌, ◌++◌, take, drop}
use Rattle.std.specs.List.{find}
use Rattle.net_rules.specs.Flights.{is_ready_copy}
use Rattle.net_rules.specs.Script.{without_first}
use Rattle.lossy_net.proofs.places.place_of.Given as goal

abbrev pub invariant-loop-at : goal.invariant-loop-at
invariant-loop-at l =
    (find (is_ready_copy l.number l.copy) (drop l.at l.flights.items) ≡ find (is_ready_copy l.number l.copy) l.flights.items) ×
    (take l.at l.flights.items ++ without_first (is_ready_copy l.number l.copy) (drop l.at l.flights.items) ≡ without_first (is_ready_copy l.number l.copy) l.flights.items)
