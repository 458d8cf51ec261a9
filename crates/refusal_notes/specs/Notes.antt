-- A note (docs/FORMATS.md, Notes).
use Rattle.std.specs.Prelude.{ℕ, ◌==◌, List, [], ◌∷◌, ◌++◌, Option, Some, None, codes, if◌then◌else◌}
use Rattle.std.specs.List.{flat_map}
use Rattle.refusal_notes.specs.declared.cause.Cause.{Cause}
use Rattle.refusal_notes.specs.declared.spot.Spot.{Spot}
use Rattle.refusal_notes.specs.Excerpts.{excerpt}
use Rattle.refusal_notes.specs.Texts.{text_of}

-- how the sentences speak of a subject
abbrev pub spoken : List ℕ → List ℕ
spoken [] = codes "this"
spoken (byte ∷ bytes) = codes "`" ++ (byte ∷ bytes) ++ codes "`"

-- what stands for a byte of a text: this for `@`
abbrev pub fill : List ℕ → ℕ → List ℕ
fill this byte = if byte == 64 then this else byte ∷ []

-- a text with this in place of each `@`
abbrev pub filled : List ℕ → List ℕ → List ℕ
filled this text = flat_map (fill this) text

abbrev pub place_of : Option Spot → List ℕ
place_of None = []
place_of (Some spot) = excerpt spot ++ codes "  "

-- the place, and the text of the cause
abbrev pub note_of : Cause → List ℕ → Option Spot → List ℕ
note_of cause subject spot = codes "note: " ++ place_of spot ++ filled (spoken subject) (text_of cause) ++ 10 ∷ []
