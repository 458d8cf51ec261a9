-- What a log of reads has behind one more.
use Rattle.std.specs.Prelude.{List, [], ◌∷◌, ◌++◌}
use Rattle.orca_io.specs.Reading.{FileRead, went}
use Rattle.orca_io.specs.declared.read_log.Note.{Note}

abbrev pub noted : List FileRead → Note → List FileRead
noted reads note = reads ++ (note.name.now, went (λ b. b.now) note.answer) ∷ []
