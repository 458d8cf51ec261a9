-- Which objects are single matters only where they are made; and where none is, copies are those of ordered messages alone.
use Rattle.std.specs.Prelude.{◌≡◌, ℕ, false, List, take}
use Rattle.orca_base.specs.declared.ids.ObjectId.{ObjectId}
use Rattle.value_core.specs.declared.message.Message.{Message}
use Rattle.value_core.specs.Meaning.{Performs, Computes}
use Rattle.value_core.specs.History.{objects_of}
use Rattle.object_manager.specs.After.{after_all as all_applied, opening_copies}
use Rattle.book_law.specs.Passes.{Test}
use Rattle.book_law.specs.Book.{Placed, book, copies_at, up_to}
use Rattle.book_law.specs.Course.{Came, Course}
use Rattle.book_law.specs.Events.{In, Makes}

-- two tests agree on each object that the list makes
abbrev pub SameMakes : Test → Test → List Message → Type 0
SameMakes one two list = (x : Message) → In x list → (o : ObjectId) → Makes x.action o → one o ≡ two o

-- then the copies are the same, and the book
pub record SameBooks (one two : Test) (p : Performs) (list : List Message) : Type 0 where
  pub copies : (n : ℕ) → copies_at one p list n ≡ copies_at two p list n
  pub book : (aside : List Placed) → book one p list aside ≡ book two p list aside

abbrev pub TestsAgree : Type 0
TestsAgree = (one two : Test) (p : Performs) (list : List Message) → SameMakes one two list → SameBooks one two p list

-- no object is single
abbrev pub all_replicated : Test
all_replicated o = false

-- then copies are those after applied messages, and the objects of the book up to a place are theirs, as maps
pub record IsPlain (p : Performs) (q : Computes) (w : Course) (n : ℕ) : Type 0 where
  pub copies : copies_at all_replicated p w.list n ≡ all_applied p opening_copies (take n w.list)
  pub objects : objects_of p q (up_to all_replicated p w.list w.aside n) ≡ (all_applied p opening_copies (take n w.list)).objects

abbrev pub ArePlain : Type 0
ArePlain = (p : Performs) (q : Computes) (w : Course) → Came all_replicated p q w → (n : ℕ) → IsPlain p q w n
