use Rattle.std.proofs.Common.{◌≡◌, ℕ, List, map, take}
use Rattle.std.specs.Prelude.{bytes_eq, position}
use Rattle.type_tables.specs.Entries.{entry}
use Rattle.access_estimates.specs.Locals.{local_seen}
use Rattle.access_estimates.proofs.locals.positions_of.Given as goal

abbrev pub invariant-names : goal.invariant-names
invariant-names l = (n : List ℕ) → entry l.positions n ≡ position (λ o. bytes_eq o.name n) (map local_seen (take l.position l.names))
