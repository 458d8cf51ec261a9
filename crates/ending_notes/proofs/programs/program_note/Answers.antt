use Rattle.std.proofs.Common.{map}
use Rattle.orca_front.specs.Sources.{file_of}
use Rattle.ending_notes.specs.Programs as programs
use Rattle.ending_notes.proofs.Told.{link_fault_is}
use Rattle.ending_notes.proofs.programs.program_note.Goals as goal

pub returns-in_ok-fault_note-in-Err-Because-clause-told : goal.returns-in_ok-fault_note-in-Err-Because-clause-told
returns-in_ok-fault_note-in-Err-Because-clause-told c =
    programs.faulty c.in-Err-Because.cause (link_fault_is (map file_of c.args.files.now) c.in-Err-Because.cause (rw c.in-Err-Because.field-0-is at c.in-Err-Because.ensures.refused)) c.in_ok-fault_note-in-Err-Because.ensures
