use Rattle.std.proofs.Common.{◌≡◌, ◌++◌, pos, replicate}
use Rattle.value_core.specs.Datum as datum
use Rattle.value_core.specs.Datum.{list_of}
use Rattle.code_steps.proofs.slots.add_spare.Given as goal

abbrev pub invariant-spare : goal.invariant-spare
invariant-spare l = list_of l.all ≡ list_of l.initial.all ++ replicate l._slot (datum.int (pos 0))
