use Rattle.std.proofs.Common.{refl}
use Rattle.program_notes.proofs.Notes.{link_told}
use Rattle.program_notes.proofs.faults.link_note.Goals as goal

pub returns : goal.returns
returns c =
    link_told (λ v. v.items) c.note-2.result c.args.error.now c.args.text.now c.word_at.result.now c.as_bytes.result.now c.link_cause-cause.result (record { file = c.as_str.result; text = c.args.text; at = c.args.error.now.at }) c.if-error-eq-NO_MAIN.false (record { file_is = c.as_str.ensures; text_is = refl; at_is = refl })
    c.link_cause-cause.ensures c.word_at.ensures c.as_bytes.ensures c.note-2.ensures
