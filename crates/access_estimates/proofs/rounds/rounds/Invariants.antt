use Rattle.std.proofs.Common.{◌≡◌, List, map}
use Rattle.link_rules.specs.Units.{Source}
use Rattle.estimate_rules.specs.Estimates as estimates
use Rattle.access_estimates.specs.Summaries.{AreRoutines, by_table}
use Rattle.access_estimates.proofs.rounds.rounds.Given as goal

abbrev pub invariant-rounds : goal.invariant-rounds
invariant-rounds l = (us : List Source) → AreRoutines us l.routines → by_table (map (λ v. v.items) l.table.items) ≡ estimates.rounds us l.done
