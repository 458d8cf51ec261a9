use Rattle.std.proofs.Common.{map}
use Rattle.link_rules.specs.Units.{source}
use Rattle.orca_front.specs.Sources.{file_of}
use Rattle.ending_notes.specs.Programs as programs
use Rattle.ending_notes.proofs.programs.linked_note.Goals as goal

pub returns-in-Err-Because-clause-told : goal.returns-in-Err-Because-clause-told
returns-in-Err-Because-clause-told c =
    programs.faulty c.in-Err-Because.cause (rw c.in-Err-Because.field-0-is at c.in-Err-Because.ensures.refused (map file_of c.args.files.now) c.requires) c.in_ok-fault_note-in-Err-Because.ensures

pub returns-in_ok-passed_note-in-Err-Because-within_limits-clause-told : goal.returns-in_ok-passed_note-in-Err-Because-within_limits-clause-told
returns-in_ok-passed_note-in-Err-Because-within_limits-clause-told c =
    programs.limited (map source c.args.program.now.units.items) c.in-Err-Because-within_limits.cause (c.in-Ok.ensures.accepted (map file_of c.args.files.now) c.requires)
    (rw c.in-Err-Because-within_limits.field-0-is at c.in-Err-Because-within_limits.ensures.passed) c.in_ok-passed_note-in-Err-Because-within_limits.ensures
