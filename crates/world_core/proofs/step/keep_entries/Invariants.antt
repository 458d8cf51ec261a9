use Rattle.std.specs.Vec.Iter.{into_iter_items}
use Rattle.world_core.proofs.Storing.{KeptTo}
use Rattle.world_core.proofs.step.keep_entries.Given as goal

abbrev pub invariant-entries : goal.invariant-entries
invariant-entries l = KeptTo l.fn.entries.items (into_iter_items l.entry-iterator) l.fn.ledger l.ledger
