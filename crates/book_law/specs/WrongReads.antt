-- Wrong rules of reads and copies, each told apart by what it makes of the second computed run (Looks.antt): its book is no history of
-- the program, or the copies aren't the book's.
use Rattle.std.specs.Prelude.{◌≡◌, List, [], ◌∷◌, ◌++◌}
use Rattle.value_core.specs.declared.action.Line.{Line}
use Rattle.value_core.specs.declared.message.Message.{Message}
use Rattle.value_core.specs.History.{Legal, object_at, objects_of}
use Rattle.object_manager.specs.After.{Copied, opening_copies}
use Rattle.book_law.specs.Passes.{after_all}
use Rattle.book_law.specs.Book.{book}
use Rattle.book_law.specs.Cell.{call, cell, line}
use Rattle.book_law.specs.Looks.{forks, looks, looks_lines, makes, marks, marks_again, runs, takes}
use Rattle.book_law.specs.Replicated.{all_replicated}

abbrev pub five : List Message
five = makes ∷ forks ∷ takes ∷ marks ∷ marks_again ∷ []

-- the copies after all five entries
abbrev pub last : Copied
last = after_all all_replicated looks opening_copies five

-- the first look, as member 1 performed it on its copies after four entries
abbrev pub look : Line
look = line 1 1 (call 2) 0

-- a read stands at the end of the book
abbrev pub at_end : List Line
at_end = book all_replicated looks five [] ++ look ∷ []

-- a read stands at an older place than the process's: the later look at place 4, the earlier one at 5
abbrev pub below_own : List Line
below_own =
    book all_replicated looks five
    (record { place = 5; line = line 1 1 (call 2) 1 } ∷ record { place = 4; line = line 1 2 (call 2) 0 } ∷ [])

-- a read on newer copies stands at an older place
abbrev pub newer_copies : List Line
newer_copies = book all_replicated looks five (record { place = 4; line = line 1 1 (call 2) 1 } ∷ [])

-- a write is performed as a read: no entry, so no member's copies have it
abbrev pub write_as_read : List Line
write_as_read = book all_replicated looks five (record { place = 4; line = line 1 1 (call 0) 0 } ∷ [])

-- a member applies an entry twice
abbrev pub applied_twice : Copied
applied_twice = after_all all_replicated looks opening_copies (five ++ marks_again ∷ [])

-- the right book is a history, and the copies are its objects; each wrong book is none, or the copies aren't
pub record WrongReads : Type 0 where
  pub right : Legal looks runs looks_lines
  pub copies : object_at (objects_of looks runs looks_lines) cell ≡ object_at last.objects cell
  pub at_end : Legal looks runs at_end → ⊥
  pub below_own : Legal looks runs below_own → ⊥
  pub newer_copies : Legal looks runs newer_copies → ⊥
  pub write_as_read : object_at (objects_of looks runs write_as_read) cell ≡ object_at last.objects cell → ⊥
  pub applied_twice : object_at (objects_of looks runs looks_lines) cell ≡ object_at applied_twice.objects cell → ⊥
