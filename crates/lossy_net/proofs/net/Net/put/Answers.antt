use Rattle.std.proofs.Common.{rules, ◌≡◌, ◌≤◌, ◌++◌, false, take, drop, length, subst, sym, ap, ◌∙◌}
use Rattle.std.specs.Option.{option_to_list}
use Rattle.net_rules.specs.Flights.{InOrder, copies, joined, travels}
use Rattle.lossy_net.proofs.Orders.{joined_in_order, copies_are_of, copies_in_order}
use Rattle.lossy_net.proofs.Steps.{both_added}
use Rattle.lossy_net.proofs.net.Net.put.Goals as goal

pub invariant_of-self : goal.invariant_of-self
invariant_of-self c =
    let xs = c.self.inside.flights.items in
    let new = copies take c.args.number c.args.from c.args.to c.args.packet c.args.fate in
    let within : c.place_for-at.result ≤ length xs = search rules in
    let there = both_added c.place_for-at.result xs (option_to_list c.copies_of-first.result.0) (option_to_list c.copies_of-first.result.1) c.add.new.flights.items c.add-2.new.flights.items within c.add.ensures.items c.add-2.ensures.items in
    let are : c.add-2.new.flights.items ≡ joined c.args.number new xs =
    there ∙ (ap (λ l. take c.place_for-at.result xs ++ (l ++ drop c.place_for-at.result xs)) c.copies_of-first.ensures ∙ sym (c.place_for-at.ensures.place new)) in
    let apart : travels c.args.number xs ≡ false = ap (λ v. travels c.args.number v.flights) c.self.view_is ∙ c.requires.other in (
      subst InOrder (sym are) (joined_in_order c.args.number new xs
          (copies_are_of take c.args.number c.args.from c.args.to c.args.packet c.args.fate)
          (copies_in_order take c.args.number c.args.from c.args.to c.args.packet c.args.fate) apart c.self.invariant.0),
      search rules,
    )
