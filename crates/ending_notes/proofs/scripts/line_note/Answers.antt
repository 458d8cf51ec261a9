use Rattle.std.proofs.Common.{refl}
use Rattle.ending_notes.proofs.Lines.{line_told}
use Rattle.ending_notes.proofs.scripts.line_note.Goals as goal

pub returns : goal.returns
returns c =
    line_told (λ v. v.items) c.note.result _ _ c.args.line c.args.rule (record { file = c.as_str.result; text = c.as_slice.result; at = record { line = c.args.line; column = 1 } })
    (record { file_is = c.as_str.ensures.value; text_is = c.as_slice.ensures.value; at_is = refl }) c.note.ensures
