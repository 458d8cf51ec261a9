use Rattle.std.proofs.Common.{rules, subst, sym, ◌∙◌}
use Rattle.net_rules.specs.Flights.{InOrder, is_ready_copy}
use Rattle.lossy_net.proofs.Orders.{without_in_order}
use Rattle.lossy_net.proofs.net.Net.take.Goals as goal

pub invariant_of-self : goal.invariant_of-self
invariant_of-self c = (
  subst InOrder (sym (c.in-Some-taken.ensures.items ∙ c.in-Some.ensures.2))
      (without_in_order (is_ready_copy c.args.number c.args.copy) c.self.inside.flights.items c.self.invariant.0),
  search rules,
)
