use Rattle.std.proofs.Common.{rules, ◌≡◌, ◌<◌, true, length}
use Rattle.net_rules.specs.Flights.{is_ready}
use Rattle.lossy_net.proofs.Orders.{lowest, ready_there}
use Rattle.lossy_net.proofs.Steps.{found_there}
use Rattle.lossy_net.proofs.places.first_of.Goals as goal

pub returns-then-flight-eq0-clause-lowest : goal.returns-then-flight-eq0-clause-lowest
returns-then-flight-eq0-clause-lowest c = λ k d within ready before.
    let xs = c.args.flights.now.items in
    let x = c.index-flight.result.now in
    let there : c.loop-at.at < length xs = search rules in
    let passes : is_ready x ≡ true = search rules in
    lowest xs x c.requires (found_there is_ready xs c.loop-at.at x there c.index-flight.ensures passes c.loop-at.invariant) k d within ready before

pub returns-then-flight-eq0-clause-ready : goal.returns-then-flight-eq0-clause-ready
returns-then-flight-eq0-clause-ready c =
    let xs = c.args.flights.now.items in
    let x = c.index-flight.result.now in
    let there : c.loop-at.at < length xs = search rules in
    let passes : is_ready x ≡ true = search rules in
    ready_there xs x (found_there is_ready xs c.loop-at.at x there c.index-flight.ensures passes c.loop-at.invariant)
