-- The note on a line of a script.
use Rattle.std.proofs.Common.{◌≡◌, ℕ, List, [], Some}
use Rattle.std.specs.Prelude.{IfOk, Result, Ok, Err}
use Rattle.refusal_notes.specs.declared.cause.Cause.TheVariants as causes
use Rattle.refusal_notes.specs.declared.cause.ScriptRule.{ScriptRule}
use Rattle.refusal_notes.specs.declared.spot.Spot.{Spot}
use Rattle.refusal_notes.specs.Notes.{note_of}
use Rattle.program_notes.specs.Faults.{IsSpot}

pub line_told : {V E : Type 0} (bytes : V → List ℕ) (r : Result V E) (file text : List ℕ) (line : ℕ) (rule : ScriptRule) (spot : Spot) → IsSpot spot file text (record { line = line; column = 1 }) → IfOk r (λ v. bytes v ≡ note_of (causes.Script rule) [] (Some spot))
    → IfOk r (λ v. (x : Spot) × IsSpot x file text (record { line = line; column = 1 }) × (bytes v ≡ note_of (causes.Script rule) [] (Some x)))
line_told bytes (Ok v) file text line rule spot is told = (spot, is, told)
line_told bytes (Err e) file text line rule spot is told = tt
