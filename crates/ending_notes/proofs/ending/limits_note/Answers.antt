use Rattle.std.proofs.Common.{inr, refl}
use Rattle.orca_base.specs.declared.what.What.TheVariants.{HistoryBytes}
use Rattle.ending_notes.specs.Endings as ends
use Rattle.ending_notes.proofs.ending.limits_note.Goals as goal

pub returns-in-Some-clause-told : goal.returns-in-Some-clause-told
returns-in-Some-clause-told c = ends.limit refl c.in-Some.what c.in_ok-limit_note.ensures

pub returns-in-Some-2-clause-told : goal.returns-in-Some-2-clause-told
returns-in-Some-2-clause-told c = ends.program (inr refl) c.args.named.files c.requires (rw c.in-Some-2.is at c.in_ok-note.ensures.told)

pub returns-in_ok-limit_note-in-None-clause-told : goal.returns-in_ok-limit_note-in-None-clause-told
returns-in_ok-limit_note-in-None-clause-told c = ends.limit refl HistoryBytes c.in_ok-limit_note-in-None.ensures
