use Rattle.ending_notes.specs.Endings as ends
use Rattle.ending_notes.proofs.Told.{noted}
use Rattle.ending_notes.proofs.ending.ending_note.Goals as goal

pub returns-in_ok-usage_note-in-2-clause-told : goal.returns-in_ok-usage_note-in-2-clause-told
returns-in_ok-usage_note-in-2-clause-told c =
    let told = c.in_ok-usage_note-in-2.ensures in
    ends.usage c.in-2.is told.0 told.1 told.2

pub returns-in-14-clause-told : goal.returns-in-14-clause-told
returns-in-14-clause-told c = noted c.last_note.result (λ v note. ends.script c.in-14.is note.0 note.1 note.2) c.last_note.ensures.told

pub returns-in_default-clause-told : goal.returns-in_default-clause-told
returns-in_default-clause-told c = noted c.plain_note.result (λ v note. ends.plain note.0 note.1 note.2) c.plain_note.ensures.told
