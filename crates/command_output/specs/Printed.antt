-- What was printed, and which status says how much of it.
use Rattle.std.specs.Prelude.{◌≡◌, ◌⊎◌, ℕ, List, ◌++◌, Option, Some, None, Result, Ok, Err}
use Rattle.orca_io.specs.declared.sink.SinkFault.{SinkFault}
use Rattle.command_output.specs.declared.statuses.TheConstants.{NO_MEMORY, WRITE_FAULT}

-- the told bytes grew by a text of this kind; nothing is said where nothing is told
abbrev pub Grew : Option (List ℕ) → Option (List ℕ) → (List ℕ → Type 0) → Type 0
Grew None new P = new ≡ None
Grew (Some old) None P = ⊥
Grew (Some old) (Some new) P = (text : List ℕ) × (new ≡ old ++ text) × P text

-- a text is the front of another
abbrev pub IsFront : List ℕ → List ℕ → Type 0
IsFront text whole = (rest : List ℕ) × (whole ≡ text ++ rest)

-- all of a text was written, or after a fault a front of it
abbrev pub WroteOf : Result Unit SinkFault → List ℕ → List ℕ → Type 0
WroteOf (Ok _) whole text = text ≡ whole
WroteOf (Err fault) whole text = IsFront text whole

-- a write failed, or memory lacked
abbrev pub HasStopped : ℕ → Type 0
HasStopped status = (status ≡ WRITE_FAULT) ⊎ (status ≡ NO_MEMORY)

-- the status is the one that is wanted, or says why the program stopped before its end
abbrev pub EndsAs : ℕ → ℕ → Type 0
EndsAs wanted status = (status ≡ wanted) ⊎ HasStopped status

-- all of a text was written, and the status is the one that is wanted; or a front of it was, and the status says why
abbrev pub Ends : ℕ → ℕ → List ℕ → List ℕ → Type 0
Ends wanted status whole text = ((status ≡ wanted) × (text ≡ whole)) ⊎ (HasStopped status × IsFront text whole)
