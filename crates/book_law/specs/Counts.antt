-- How many objects the book has.
use Rattle.std.specs.Prelude.{◌≡◌, ℕ, suc, length}
use Rattle.value_core.specs.Meaning.{Performs, Computes}
use Rattle.value_core.specs.History.{objects_of}
use Rattle.object_manager.specs.Limits.{made_objects}
use Rattle.book_law.specs.Passes.{Test}
use Rattle.book_law.specs.Book.{copies_at, up_to}
use Rattle.book_law.specs.Course.{Came, Course}

-- up to each place, as many as the copies count that applied so many entries, replicated and single ones, and the output object
abbrev pub ObjectsCounted : Type 0
ObjectsCounted =
    (single : Test) (p : Performs) (q : Computes) (w : Course) → Came single p q w → (n : ℕ) →
    length (objects_of p q (up_to single p w.list w.aside n)) ≡ suc (made_objects (copies_at single p w.list n))
