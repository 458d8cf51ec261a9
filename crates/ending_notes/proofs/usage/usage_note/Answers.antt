use Rattle.ending_notes.proofs.Told.{usage_told}
use Rattle.ending_notes.proofs.usage.usage_note.Goals as goal

pub returns : goal.returns
returns c = usage_told (λ v. v.items) c.note.result c.match-read_words.found.rule c.as_bytes.result.now c.note.ensures
