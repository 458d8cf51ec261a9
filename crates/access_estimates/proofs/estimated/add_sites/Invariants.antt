use Rattle.std.proofs.Common.{◌≡◌, ◌++◌, drop}
use Rattle.access_estimates.specs.Locals.{locals_seen}
use Rattle.access_estimates.specs.Summaries.{sites_seen}
use Rattle.access_estimates.proofs.estimated.add_sites.Given as goal

abbrev pub invariant-names : goal.invariant-names
invariant-names l =
    l.all.items ++ sites_seen l.process l.parameters l.summary l.position (locals_seen (drop l.position l.names))
    ≡ l.initial.all.items ++ sites_seen l.process l.parameters l.summary 0 (locals_seen l.names)
