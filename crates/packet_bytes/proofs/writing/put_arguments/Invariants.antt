-- The values so far are written.
use Rattle.std.proofs.Common.{◌≡◌, ◌++◌, ◌∷◌, length, map, take}
use Rattle.std.specs.List.{flat_map}
use Rattle.value_core.specs.Datum.{list_of}
use Rattle.value_core.specs.View.{datum_of}
use Rattle.value_bytes.specs.Spelling.{spelling}
use Rattle.packet_bytes.proofs.writing.put_arguments.Given as goal

abbrev pub invariant-loop-value : goal.invariant-loop-value
invariant-loop-value l = l.out.items ≡ l.fn.out.items ++ length (list_of l.args) ∷ flat_map spelling (map datum_of (take l.value-index l.value-items))
