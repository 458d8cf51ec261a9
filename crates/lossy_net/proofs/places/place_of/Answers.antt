use Rattle.std.proofs.Common.{rules, ◌≡◌, ◌<◌, true, length, ap, ◌∙◌, Some}
use Rattle.std.proofs.lemmas.List.{get_or_default}
use Rattle.net_rules.specs.Flights.{is_ready_copy}
use Rattle.lossy_net.proofs.Steps.{found_there, left_there}
use Rattle.lossy_net.proofs.places.place_of.Goals as goal

pub returns-then-flight-eq0 : goal.returns-then-flight-eq0
returns-then-flight-eq0 c =
    let xs = c.args.flights.now.items in
    let x = c.index-flight.result.now in
    let p = is_ready_copy c.args.number c.args.copy in
    let within : c.loop-at.at < length xs = search rules in
    let passes : p x ≡ true = search rules in (
      search rules,
      λ d. found_there p xs c.loop-at.at x within c.index-flight.ensures passes c.loop-at.invariant.0 ∙ ap Some (c.index-flight.ensures ∙ get_or_default xs c.loop-at.at x d within),
      left_there p xs c.loop-at.at x within c.index-flight.ensures passes c.loop-at.invariant.1,
    )
