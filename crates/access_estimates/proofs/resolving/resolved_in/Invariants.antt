use Rattle.std.proofs.Common.{◌≡◌, ◌++◌, List, drop}
use Rattle.link_rules.specs.Units.{Source}
use Rattle.access_estimates.specs.Seen.{all_seen}
use Rattle.access_estimates.specs.Resolved.{all_resolved}
use Rattle.access_estimates.specs.Locals.{locals_seen}
use Rattle.access_estimates.specs.Lookups.{AreLookups}
use Rattle.access_estimates.proofs.resolving.resolved_in.Given as goal

abbrev pub invariant-uses : goal.invariant-uses
invariant-uses l = (us : List Source) → AreLookups us l.lookups →
    l.all.items ++ all_resolved us l.home (locals_seen l.names) (all_seen (drop l.u-index l.uses)) ≡ all_resolved us l.home (locals_seen l.names) (all_seen l.uses)
