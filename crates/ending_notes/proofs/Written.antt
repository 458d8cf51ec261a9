-- What was written is a note, a front of one, or nothing.
use Rattle.std.proofs.Common.{List, [], take, drop, Option, Some, None, ℕ, refl, sym, ◌∙◌, inl, inr, take-append-drop}
use Rattle.std.specs.Prelude.{Result, Ok, Err}
use Rattle.std.proofs.lemmas.List.{append-nil}
use Rattle.orca_io.specs.Files.{File}
use Rattle.orca_io.specs.declared.sink.SinkFault.{SinkFault}
use Rattle.orca_io.specs.declared.sink.SinkFault.TheVariants as faults
use Rattle.orca_io.specs.Sinks.{Puts}
use Rattle.command_output.specs.Printed.{Grew}
use Rattle.ending_notes.specs.Endings.{IsEndingNote, IsNoted, IsUnowed, IsWritten}

-- nothing was put
pub grew_none : (told : Option (List ℕ)) (P : List ℕ → Type 0) → P [] → Grew told told P
grew_none None P h = refl
grew_none (Some old) P h = ([], sym (append-nil old), h)

module _ (status : ℕ) (words : List (List ℕ)) (files : List File) where
  -- what was written whole or not was written
  noted_text : (r : Result Unit SinkFault) (text : List ℕ) → IsWritten status words files r text → IsNoted status words files text
  noted_text (Ok done) text (inl note) = inr (text, note, ([], sym (append-nil text)))
  noted_text (Ok done) text (inr none) = inl none.0
  noted_text (Err fault) text h = h

  pub noted : (r : Result Unit SinkFault) (old new : Option (List ℕ)) → Grew old new (IsWritten status words files r) → Grew old new (IsNoted status words files)
  noted r None new h = h
  noted r (Some old) None h = h
  noted r (Some old) (Some new) h = (h.0, h.1, noted_text r h.0 h.2)

  -- a note was put
  pub put_written : (r : Result Unit SinkFault) (old new : Option (List ℕ)) (note : List ℕ) → IsEndingNote status words files note → Puts old new note r
      → Grew old new (IsWritten status words files r)
  put_written r None new note is puts = puts
  put_written r (Some old) None note is puts = absurd puts
  put_written (Ok done) (Some old) (Some new) note is puts = (note, puts, inl is)
  put_written (Err faults.Failed) (Some old) (Some new) note is puts =
      (take puts.0 note, puts.1, inr (note, is, (drop puts.0 note, sym (take-append-drop puts.0 note))))
  put_written (Err faults.NoMemory) (Some old) (Some new) note is puts = ([], puts ∙ sym (append-nil old), inl refl)

  -- nothing was, since none is owed, or memory lacked
  pub none_written : (told : Option (List ℕ)) → IsUnowed status words files → Grew told told (IsWritten status words files (Ok tt))
  none_written told unowed = grew_none told (IsWritten status words files (Ok tt)) (inr (refl, unowed))

  pub stopped_written : (told : Option (List ℕ)) (fault : SinkFault) → Grew told told (IsWritten status words files (Err fault))
  stopped_written told fault = grew_none told (IsWritten status words files (Err fault)) (inl refl)
