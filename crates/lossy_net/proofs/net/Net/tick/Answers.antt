use Rattle.std.proofs.Common.{rules, subst, sym}
use Rattle.net_rules.specs.Flights.{InOrder}
use Rattle.lossy_net.proofs.Orders.{ticked_in_order}
use Rattle.lossy_net.proofs.net.Net.tick.Goals as goal

pub invariant_of-self : goal.invariant_of-self
invariant_of-self c = (subst InOrder (sym c.tick.ensures.items) (ticked_in_order c.self.inside.flights.items c.self.invariant.0), search rules)
