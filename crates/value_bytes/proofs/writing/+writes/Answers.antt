use Rattle.std.proofs.Common.{◌≡◌, ◌≤◌, ◌∙◌, ap, length, map, take, arith, List}
use Rattle.std.proofs.lemmas.List.{take_all}
use Rattle.std.specs.List.{flat_map}
use Rattle.value_core.specs.View.{datum_of}
use Rattle.value_core.specs.declared.value.Value.{Value}
use Rattle.value_bytes.specs.Spelling.{spelling, spellings}
use Rattle.value_bytes.proofs.Facts.{all_written, parts_are}
use Rattle.value_bytes.proofs.writing.+writes.Goals as goal

pub put_parts-put_value-requires : goal.put_parts-put_value-requires
put_parts-put_value-requires t c =
    let one = parts_are c.args.levels c.as_slice-part-items.result.now c.args.parts.now c.as_slice-part-items.ensures c.requires.well_formed.0 c.requires.shallow c.loop-part.part-index _ c.loop-part-test.true in
    rw c.part-item.is (omega arith, one)

pub put_parts-returns : goal.put_parts-returns
put_parts-returns t c =
    let items = c.as_slice-part-items.result.now in
    let i = c.loop-part.part-index in
    let past : length items ≤ i = omega (arith, c.loop-part-test.false) in
    let e : flat_map spelling (map datum_of (take i items)) ≡ spellings c.args.parts.now =
    ap (λ (vs : List Value). flat_map spelling (map datum_of vs)) (take_all i items past) ∙ all_written items c.args.parts.now c.as_slice-part-items.ensures in
    rw (← e) c.loop-part.invariant
