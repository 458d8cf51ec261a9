use Rattle.std.proofs.Common.{◌≡◌, take}
use Rattle.value_core.specs.Datum.{list_of}
use Rattle.code_machine.proofs.copies.copy_frame.Given as goal

-- the values in front were copied
abbrev pub invariant-slots : goal.invariant-slots
invariant-slots l = list_of l.values ≡ take l.slot l.frame
