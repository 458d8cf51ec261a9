-- The text of the book's places: one line for each line of the book, with its process, the number of its call, and its place.
use Rattle.std.specs.Prelude.{ℕ, List, [], ◌∷◌, ◌++◌, codes}
use Rattle.std.specs.Fmt.{decimal}
use Rattle.value_core.specs.declared.action.Line.{Line}
use Rattle.world_rules.specs.declared.standing.PlaceNote.{PlaceNote}
use Rattle.world_rules.specs.declared.standing.PlaceNote.TheVariants as note
use Rattle.world_rules.specs.Frame.{Frame}
use Rattle.world_rules.specs.Worlds.{Book, World, places}

-- `entry E`, `read at E` or `single at E`
abbrev pub place_text : PlaceNote → List ℕ
place_text (note.Entry number) = codes "entry " ++ decimal number
place_text (note.Read number) = codes "read at " ++ decimal number
place_text (note.Single number) = codes "single at " ++ decimal number

-- `P C PLACE` and a line feed
abbrev pub placed_text : Line → PlaceNote → List ℕ
placed_text line place = decimal line.process.0 ++ 32 ∷ (decimal line.call.0 ++ 32 ∷ (place_text place ++ 10 ∷ []))

abbrev pub places_text : List Line → List PlaceNote → List ℕ
places_text [] notes = []
places_text (line ∷ lines) [] = []
places_text (line ∷ lines) (place ∷ notes) = placed_text line place ++ places_text lines notes

-- what `--explain` is to print of a run
abbrev pub explained : Frame → World → List ℕ
explained f w = places_text (Book f w) (places f w)
