-- What is kept of the texts that a shelf gave.
use Rattle.std.specs.Prelude.{ℕ, List, [], ◌∷◌, length, nat_le, string_bytes, Result, Ok, Err, if◌then◌else◌}
use Rattle.std.specs.List.{flat_map}
use Rattle.orca_base.specs.declared.limits.TheConstants.{SOURCE_BYTES}
use Rattle.orca_io.specs.Files.{File}
use Rattle.orca_io.specs.Reading.{FileRead}
use Rattle.orca_io.specs.declared.shelf.ShelfFault.{ShelfFault}
use Rattle.kept_files.specs.declared.file.KeptFile.{KeptFile}

-- a kept file: its name and its text
abbrev pub kept_of : KeptFile → File
kept_of file = (string_bytes file.name, file.text.items)

-- the text that was read of a file of this name, where there is one that is no longer than one of a program may be
abbrev pub short_text : List ℕ → Result (List ℕ) ShelfFault → List File
short_text name (Ok text) = if nat_le (length text) SOURCE_BYTES then (name, text) ∷ [] else []
short_text name (Err fault) = []

-- the texts that reads gave, in their order, but for those that are longer
abbrev pub short_texts : List FileRead → List File
short_texts reads = flat_map (λ read. short_text read.0 read.1) reads
