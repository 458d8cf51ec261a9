use Rattle.std.proofs.Common.{◌≡◌, map, replicate}
use Rattle.value_core.specs.View.{datum_of}
use Rattle.program_tables.proofs.openings.copies.Given as goal

abbrev pub invariant-copies : goal.invariant-copies
invariant-copies l = (map datum_of l.all.items ≡ replicate l._copy (datum_of l.fn.value)) × (l.value ≡ l.fn.value)
