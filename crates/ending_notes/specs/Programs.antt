-- The note on why sources are no accepted program (docs/FORMATS.md, Notes).
use Rattle.std.specs.Prelude.{◌≡◌, ℕ, List, [], None, unwrap_or}
use Rattle.orca_base.specs.declared.what.What.TheVariants as what
use Rattle.orca_io.specs.Files.{File, content_of}
use Rattle.link_rules.specs.Units.{Source}
use Rattle.orca_front.specs.declared.fault.FrontFault.{FrontFault}
use Rattle.orca_front.specs.declared.fault.FrontFault.TheVariants as fronts
use Rattle.orca_front.specs.Sources.{IsAccepted, IsFault}
use Rattle.program_limits.specs.Passed.{Passes}
use Rattle.program_limits.specs.declared.limits.PassedLimit.{PassedLimit}
use Rattle.program_limits.specs.declared.limits.PassedLimit.TheVariants as limits
use Rattle.refusal_notes.specs.declared.cause.Cause.TheVariants as causes
use Rattle.refusal_notes.specs.Notes.{note_of}
use Rattle.program_notes.specs.Faults.{IsLinkNote, IsTextNote, IsTypeNote}

-- the text of the first of these files that has this name, or none
abbrev pub text_named : List File → List ℕ → List ℕ
text_named files name = unwrap_or (content_of files name) []

-- the note on a fault of the front end in these sources
abbrev pub IsFaultNote : List File → FrontFault → List ℕ → Type 0
IsFaultNote sources (fronts.Faulty file at said) note = IsTextNote file (text_named sources file) at said.items note
IsFaultNote sources fronts.TooNested note = note ≡ note_of (causes.Limit what.Nesting) [] None
IsFaultNote sources (fronts.Unlinked error) note = IsLinkNote error (text_named sources error.file) note
IsFaultNote sources (fronts.Mistyped error) note = IsTypeNote error (text_named sources error.file) note

-- the note on a limit that a program passes
abbrev pub passed_note : PassedLimit → List ℕ
passed_note limits.Parameters = note_of causes.Parameters [] None
passed_note limits.CodeLength = note_of (causes.Limit what.CodeLength) [] None

-- the note is on why these sources are no accepted program: on the fault that they have, or on the limit that they pass and would be one else
pub data IsProgramNote (sources : List File) (note : List ℕ) : Type 0 where
  faulty : (fault : FrontFault) → IsFault sources fault → IsFaultNote sources fault note → IsProgramNote sources note
  limited : (units : List Source) (passed : PassedLimit) → IsAccepted sources units → Passes units passed → note ≡ passed_note passed →
      IsProgramNote sources note
