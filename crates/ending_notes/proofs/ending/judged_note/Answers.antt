use Rattle.std.proofs.Common.{sym}
use Rattle.ending_notes.specs.Endings as ends
use Rattle.ending_notes.proofs.Told.{noted}
use Rattle.ending_notes.proofs.ending.judged_note.Goals as goal

pub returns-clause-told : goal.returns-clause-told
returns-clause-told c =
    noted c.refused_note.result (λ v note. ends.program c.requires c.in-Some.named.files (sym (rw c.in-Some.is at c.in_ok-named.ensures)) note) c.refused_note.ensures.told
