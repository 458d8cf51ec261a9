use Rattle.std.proofs.Common.{refl}
use Rattle.program_notes.proofs.Notes.{text_told}
use Rattle.program_notes.proofs.faults.text_note.Goals as goal

pub returns : goal.returns
returns c =
    text_told (λ v. v.items) c.note.result c.args.file.now c.args.text.now c.args.at c.args.said.now c.word_at-word.result.now c.in_ok-cause.cause (record { file = c.args.file; text = c.args.text; at = c.args.at }) (record { file_is = refl; text_is = refl; at_is = refl }) c.in_ok-cause.ensures
    c.word_at-word.ensures c.note.ensures
