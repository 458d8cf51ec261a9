-- Each history is the book of a run: one in which member 0 has every process, and each line is submitted, ordered and applied there before
-- the next. With the law of the book, which says that the book of each run is a history, histories are just the books of runs.
use Rattle.std.specs.Prelude.{◌≡◌, ℕ, ◌≤◌, List, length, None, Some}
use Rattle.value_core.specs.declared.action.Line.{Line}
use Rattle.value_core.specs.Meaning.{Performs, Computes}
use Rattle.value_core.specs.History.{Legal, replies_of}
use Rattle.book_law.specs.Book.{book}
use Rattle.book_law.specs.Course.{Came, Course}
use Rattle.book_law.specs.Events.{Runner}
use Rattle.book_law.specs.Replicated.{all_replicated}

-- these lines are the book of a run without single copies that came to rest: member 0 applied the whole list, and each of its processes has
-- no message out, and received every reply that the lines have for it (which processes there are, `processes` of book_law says)
pub record IsRunOf (p : Performs) (q : Computes) (lines : List Line) : Type 0 where
  pub course : Course
  pub came : Came all_replicated p q course
  pub book : book all_replicated p course.list course.aside ≡ lines
  pub applied : course.applied 0 ≡ length course.list
  pub free :
      (j : ℕ) (x : Runner) → course.runners j ≡ Some x →
      (x.member ≡ 0) × (x.message ≡ None) × (x.place ≤ length course.list) × (x.replies ≡ replies_of p q lines j)

-- so it is of every history
abbrev pub HistoriesRun : Type 0
HistoriesRun = (p : Performs) (q : Computes) (lines : List Line) → Legal p q lines → IsRunOf p q lines
