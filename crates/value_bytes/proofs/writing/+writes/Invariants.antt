-- Each value inside has one level less; the parts so far are written.
use Rattle.std.proofs.Common.{◌≡◌, ◌+◌, ◌*◌, ◌++◌, ◌∷◌, length, map, take}
use Rattle.std.specs.List.{flat_map}
use Rattle.value_core.specs.Datum.{list_of}
use Rattle.value_core.specs.View.{datum_of}
use Rattle.value_bytes.specs.Spelling.{counted, spelling}
use Rattle.value_bytes.proofs.writing.+writes.Given as goal

abbrev pub invariant-put_parts-loop-part : goal.invariant-put_parts-loop-part
invariant-put_parts-loop-part l =
    l.out.items ≡ l.fn.out.items ++ l.tag ∷ counted (length (list_of l.parts)) (flat_map spelling (map datum_of (take l.part-index l.part-items)))

abbrev pub decreases-put_value : goal.decreases-put_value
decreases-put_value l = 2 * l.levels

abbrev pub decreases-put_parts : goal.decreases-put_parts
decreases-put_parts l = 2 * l.levels + 1
