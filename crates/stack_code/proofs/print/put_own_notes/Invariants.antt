use Rattle.std.proofs.Common.{◌≡◌, ◌++◌, drop}
use Rattle.std.specs.Prelude.{string_bytes}
use Rattle.std.specs.List.{flat_map}
use Rattle.stack_code.specs.Text.{note_text}
use Rattle.stack_code.proofs.print.put_own_notes.Given as goal

abbrev pub invariant-notes : goal.invariant-notes
invariant-notes l = string_bytes l.out ++ flat_map note_text (drop l.note-index l.notes) ≡ string_bytes l.initial.out ++ flat_map note_text l.notes
