use Rattle.std.proofs.Common.{refl}
use Rattle.program_notes.proofs.Notes.{type_told}
use Rattle.program_notes.proofs.faults.type_note.Goals as goal

pub returns : goal.returns
returns c =
    type_told (λ v. v.items) c.note.result c.args.error.now c.args.text.now c.word_at-word.result.now (record { file = c.as_str.result; text = c.args.text; at = c.args.error.now.at }) (record { file_is = c.as_str.ensures; text_is = refl; at_is = refl }) c.word_at-word.ensures c.note.ensures
