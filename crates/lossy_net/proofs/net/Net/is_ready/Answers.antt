use Rattle.std.proofs.Common.{is_some, ap, ◌∙◌}
use Rattle.net_rules.specs.Flights.{is_ready_copy, ready_copy}
use Rattle.lossy_net.proofs.Steps.{is_there}
use Rattle.lossy_net.proofs.net.Net.is_ready.Goals as goal

pub returns : goal.returns
returns c =
    c.is_some.ensures ∙
    (is_there _ (is_ready_copy c.args.number c.args.copy) c.self.inside.flights.items _ c.self.inside.flights.ok.0 c.place_of.result c.place_of.ensures ∙
    ap (λ v. is_some (ready_copy c.args.number c.args.copy v.flights)) c.self.view_is)
