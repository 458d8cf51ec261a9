-- A text of several pieces that was printed, where that is all that is done.
use Rattle.std.proofs.Common.{◌≡◌, ℕ, List, Option, Some, None, refl, inl, inr}
use Rattle.std.specs.Prelude.{Ok, Err}
use Rattle.orca_io.specs.declared.sink.SinkFault.{SinkFault}
use Rattle.command_output.specs.declared.statuses.TheConstants.{FINISHED}
use Rattle.command_output.specs.Printed.{Ends, Grew, HasStopped, WroteOf}

pub all_shown : (old new : Option (List ℕ)) (text : List ℕ) → Grew old new (WroteOf (Ok tt) text) → Grew old new (Ends FINISHED FINISHED text)
all_shown None new text grew = grew
all_shown (Some old) None text grew = grew
all_shown (Some old) (Some new) text grew = (grew.0, grew.1, inl (refl, grew.2))

pub front_shown : (old new : Option (List ℕ)) (text : List ℕ) (fault : SinkFault) (status : ℕ) → HasStopped status → Grew old new (WroteOf (Err fault) text) → Grew old new (Ends FINISHED status text)
front_shown None new text fault status stopped grew = grew
front_shown (Some old) None text fault status stopped grew = grew
front_shown (Some old) (Some new) text fault status stopped grew = (grew.0, grew.1, inr (stopped, grew.2))
