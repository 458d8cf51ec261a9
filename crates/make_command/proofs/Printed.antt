-- A text that is put in one piece.
use Rattle.std.proofs.Common.{ℕ, List, [], take, drop, Some, None, refl, sym, ◌∙◌, take-append-drop}
use Rattle.std.specs.Prelude.{Option, Result, Ok, Err}
use Rattle.std.proofs.lemmas.List.{append-nil}
use Rattle.orca_io.specs.declared.sink.SinkFault.{SinkFault}
use Rattle.orca_io.specs.declared.sink.SinkFault.TheVariants as faults
use Rattle.orca_io.specs.Sinks.{Puts}
use Rattle.command_output.specs.Printed.{Grew, WroteOf}
use Rattle.command_output.proofs.Putting.{grew_front, grew_none}

pub put_wrote : (old new : Option (List ℕ)) (piece : List ℕ) (result : Result Unit SinkFault) → Puts old new piece result → Grew old new (WroteOf result piece)
put_wrote None new piece result h = h
put_wrote (Some old) None piece result h = h
put_wrote (Some old) (Some new) piece (Ok _) h = (piece, h, refl)
put_wrote (Some old) (Some new) piece (Err faults.Failed) h = (take h.0 piece, h.1, (drop h.0 piece, sym (take-append-drop h.0 piece)))
put_wrote (Some old) (Some new) piece (Err faults.NoMemory) h = ([], h ∙ sym (append-nil old), (piece, refl))

-- where nothing is put, nothing was
pub none_wrote : (told : Option (List ℕ)) (whole : List ℕ) (fault : SinkFault) → Grew told told (WroteOf (Err fault) whole)
none_wrote told whole fault = grew_front told told whole whole fault (grew_none told whole)
