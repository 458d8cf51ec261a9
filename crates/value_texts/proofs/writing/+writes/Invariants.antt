-- Each value inside has one level less; what is put and what is left make the whole.
use Rattle.std.proofs.Common.{◌≡◌, ◌+◌, ◌*◌, ◌++◌, ◌∷◌, drop}
use Rattle.value_texts.specs.Spelling.{parts_text}
use Rattle.value_texts.proofs.Printing.{left_text}
use Rattle.value_texts.proofs.writing.+writes.Given as goal

abbrev pub invariant-put_parts-loop-index : goal.invariant-put_parts-loop-index
invariant-put_parts-loop-index l =
    l.out.items ++ left_text l.index (drop l.index l.part-items) ≡ l.fn.out.items ++ l.opens ∷ parts_text l.parts

abbrev pub decreases-put_value : goal.decreases-put_value
decreases-put_value l = 2 * l.levels

abbrev pub decreases-put_parts : goal.decreases-put_parts
decreases-put_parts l = 2 * l.levels + 1
