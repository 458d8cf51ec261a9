use Rattle.std.proofs.Common.{◌≡◌, ◌≤◌, ◌∙◌, ap, length, map, take, arith, List}
use Rattle.std.proofs.lemmas.List.{take_all}
use Rattle.std.specs.List.{flat_map}
use Rattle.orca_base.specs.declared.limits.TheConstants.{VALUE_NESTING}
use Rattle.value_core.specs.View.{datum_of}
use Rattle.value_core.specs.declared.value.Value.{Value}
use Rattle.value_bytes.specs.Spelling.{spelling, spellings}
use Rattle.value_bytes.proofs.Facts.{all_written, parts_are}
use Rattle.packet_bytes.specs.Spelling.{arguments_spelling}
use Rattle.packet_bytes.proofs.writing.put_arguments.Goals as goal

pub push_value-requires : goal.push_value-requires
push_value-requires c =
    let values = c.requires.values in
    let one = parts_are VALUE_NESTING c.as_slice-value-items.result.now c.args.args.now c.as_slice-value-items.ensures values.well_formed values.shallow c.loop-value.value-index _ c.loop-value-test.true in
    rw c.value-item.is (record { well_formed = one.0; shallow = one.1 })

pub returns : goal.returns
unfolding arguments_spelling
returns c =
    let items = c.as_slice-value-items.result.now in
    let i = c.loop-value.value-index in
    let past : length items ≤ i = omega (arith, c.loop-value-test.false) in
    let e : flat_map spelling (map datum_of (take i items)) ≡ spellings c.args.args.now =
    ap (λ (vs : List Value). flat_map spelling (map datum_of vs)) (take_all i items past) ∙ all_written items c.args.args.now c.as_slice-value-items.ensures in
    rw (← e) c.loop-value.invariant
