use Rattle.std.proofs.Common.{map}
use Rattle.kept_files.specs.Kept.{kept_of}
use Rattle.ending_notes.proofs.Told.{kept_last, last_none, last_told}
use Rattle.ending_notes.proofs.ending.last_note.Goals as goal

pub returns-in-Some-clause-told : goal.returns-in-Some-clause-told
returns-in-Some-clause-told c =
    last_told (λ v. v.items) c.script_note.result (map kept_of c.args.files.now) (kept_of c.in-Some.file.now)
    (kept_last c.args.files.now c.in-Some.file.now c.in-Some.ensures.value) c.script_note.ensures.told

pub returns-in-Some-clause-none : goal.returns-in-Some-clause-none
returns-in-Some-clause-none c =
    last_none c.script_note.result (map kept_of c.args.files.now) (kept_of c.in-Some.file.now)
    (kept_last c.args.files.now c.in-Some.file.now c.in-Some.ensures.value) c.script_note.ensures.none
