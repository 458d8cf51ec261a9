-- Wrong rules, each told apart by what it makes of a computed run (Cell.antt): its book is no history of the program, or its single
-- copy isn't its object after the book.
use Rattle.std.specs.Prelude.{◌≡◌, ◌+◌, List, [], ◌∷◌, ◌++◌, refl, Some}
use Rattle.value_core.specs.declared.action.Line.{Line}
use Rattle.value_core.specs.declared.message.Message.{Message}
use Rattle.value_core.specs.Meaning.{Performs}
use Rattle.value_core.specs.History.{Legal, object_at, objects_of}
use Rattle.object_manager.specs.After.{Copied, opening_copies}
use Rattle.book_law.specs.Passes.{Test, after, lines_after}
use Rattle.book_law.specs.Book.{Placed, aside_at, book}
use Rattle.book_law.specs.Performed.{placed}
use Rattle.book_law.specs.Singles.{after_on}
use Rattle.book_law.specs.Cell.{at_first, call, cell, computes, entries, fork, line, make, message, performed_aside, performs, single, suspended}

-- within a place, what stands beside the list comes before the entry
abbrev pub aside_first_from : Test → Performs → Copied → List Message → List Placed → List Line
aside_first_from test p c [] aside = []
aside_first_from test p c (m ∷ ms) aside =
    (aside_at (c.applied + 1) aside ++ lines_after test p c m) ++ aside_first_from test p (after test p c m) ms aside

abbrev pub aside_first : List Line
aside_first = aside_first_from single performs opening_copies entries (placed 2 performed_aside)

-- what an owner performs stands at the place of the copy's make
abbrev pub at_makes_place : List Line
at_makes_place = book single performs entries (placed 1 performed_aside)

-- a message stands in the list twice
abbrev pub twice : List Line
twice = book single performs (message 0 0 make refl ∷ message 0 0 make refl ∷ []) []

-- an entry is put before an earlier one
abbrev pub out_of_order : List Line
out_of_order = book single performs (message 0 1 fork refl ∷ message 0 0 make refl ∷ []) []

-- a call stands below its process's place, which is 2
abbrev pub below_place : List Line
below_place = book single performs entries (placed 1 (line 0 2 (call 2) 0 ∷ []))

-- an owner takes a call twice
abbrev pub taken_twice : List Line
taken_twice = book single performs entries (placed 2 (line 1 0 (call 0) 0 ∷ line 1 0 (call 0) 0 ∷ []))

-- the single copy keeps its old state
abbrev pub keeps_old_state : List Line
keeps_old_state = book single performs entries (placed 2 (line 1 0 (call 0) 0 ∷ []))

-- the right book is a history, and the copy after the call of process 1 is its object after it; each wrong one isn't
pub record WrongRules : Type 0 where
  pub right : Legal performs computes (book single performs entries (placed 2 performed_aside))
  pub kept : object_at (objects_of performs computes keeps_old_state) cell ≡ Some (after_on performs at_first (suspended 1 0 0)).kept
  pub aside_first : Legal performs computes aside_first → ⊥
  pub at_makes_place : Legal performs computes at_makes_place → ⊥
  pub twice : Legal performs computes twice → ⊥
  pub out_of_order : Legal performs computes out_of_order → ⊥
  pub below_place : Legal performs computes below_place → ⊥
  pub taken_twice : Legal performs computes taken_twice → ⊥
  pub keeps_old_state : object_at (objects_of performs computes keeps_old_state) cell ≡ Some at_first.kept → ⊥
