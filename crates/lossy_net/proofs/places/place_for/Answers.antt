use Rattle.std.proofs.Common.{rules, ◌≡◌, ◌+◌, ◌-◌, ◌<◌, suc, drop, get_or, length, arith, subst}
use Rattle.lossy_net.proofs.Orders.{NoneLower, joined_behind, joined_first}
use Rattle.lossy_net.proofs.places.place_for.Goals as goal

pub returns-then-index-number-clause-place : goal.returns-then-index-number-clause-place
returns-then-index-number-clause-place c = λ new.
    let xs = c.args.flights.now.items in
    let k = c.loop-at.at - 1 in
    let within : k < length xs = search rules in
    let low : (get_or xs k c.index.result.now).number < c.args.number = search rules in
    let more : k + 1 ≡ suc k = omega arith in
    let none : NoneLower c.args.number (drop (suc k) xs) =
    let here : c.loop-at.at ≡ suc k = search rules in
    subst (λ j. NoneLower c.args.number (drop j xs)) here c.loop-at.invariant in
    rw more (joined_behind c.args.number new xs k c.index.result.now c.requires within low none)

pub returns-clause-place : goal.returns-clause-place
returns-clause-place c = λ new. joined_first c.args.number new c.args.flights.now.items (search rules)
