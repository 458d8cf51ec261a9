-- A run of the small program (Cell.antt), event by event: a call waits at its owner, a call from another member lets both run, and
-- both hear their answers.
use Rattle.std.specs.Prelude.{◌≡◌, ℕ, List, [], ◌∷◌, Option, None, Some, refl}
use Rattle.value_core.specs.Datum as datum
use Rattle.value_core.specs.declared.action.Line.{Line}
use Rattle.value_core.specs.declared.action.Reply.{Reply}
use Rattle.value_core.specs.declared.action.Reply.TheVariants as answer
use Rattle.value_core.specs.declared.message.Message.{Message}
use Rattle.value_core.specs.History.{Process}
use Rattle.book_law.specs.Book.{Placed, book}
use Rattle.book_law.specs.Cell.{at_first, call, computes, fork, line, make, message, performs, single, suspended}
use Rattle.book_law.specs.Course.{Came, Course, applying, forking, hearing, opening_course, ordered, submitted, taking}
use Rattle.book_law.specs.Events.{Runner}
use Rattle.book_law.specs.Singles.{after_on}

abbrev pub born : Process
born = record { text = record { 0 = 1 }; args = datum.none; replies = [] }

abbrev pub runner : ℕ → ℕ → List Reply → ℕ → Option Message → Option Placed → Runner
runner member text replies place out answer = record {
  member = member;
  text = record { 0 = text };
  args = datum.none;
  replies = replies;
  place = place;
  message = out;
  answer = answer;
}

-- process 0 at member 0
abbrev pub opened : Course
opened = opening_course computes 0

-- it submits the make, which is entry 1, and member 0 applies it
abbrev pub make_submitted : Course
make_submitted = submitted opened 0 (runner 0 0 [] 0 None None) (message 0 0 make refl)

abbrev pub make_ordered : Course
make_ordered = ordered single performs make_submitted (message 0 0 make refl) 0

abbrev pub make_applied : Course
make_applied = applying single performs make_ordered 0 (message 0 0 make refl)

-- it forks process 1 at member 1
abbrev pub fork_submitted : Course
fork_submitted = submitted make_applied 0 (runner 0 0 (answer.Done ∷ []) 1 None None) (message 0 1 fork refl)

abbrev pub fork_ordered : Course
fork_ordered = forking single performs fork_submitted (message 0 1 fork refl) born 1

abbrev pub fork_applied : Course
fork_applied = applying single performs fork_ordered 0 (message 0 1 fork refl)

-- its call waits for a mark: it is no entry, and the owner of the cell takes it
abbrev pub wait_submitted : Course
wait_submitted = submitted fork_applied 0 (runner 0 0 (answer.Done ∷ answer.Done ∷ []) 2 None None) (message 0 2 (call 1) refl)

abbrev pub wait_taken : Course
wait_taken = taking performs wait_submitted 0 at_first (suspended 0 2 1)

-- member 1 applies both entries
abbrev pub make_followed : Course
make_followed = applying single performs wait_taken 1 (message 0 0 make refl)

abbrev pub fork_followed : Course
fork_followed = applying single performs make_followed 1 (message 0 1 fork refl)

-- process 1 adds a mark, and the owner takes that call, which lets the other run
abbrev pub mark_submitted : Course
mark_submitted = submitted fork_followed 1 (runner 1 1 [] 2 None None) (message 1 0 (call 0) refl)

abbrev pub mark_taken : Course
mark_taken = taking performs mark_submitted 0 (after_on performs at_first (suspended 0 2 1)) (suspended 1 0 0)

abbrev pub first_line : Placed
first_line = record { place = 2; line = line 1 0 (call 0) 0 }

abbrev pub second_line : Placed
second_line = record { place = 2; line = line 0 2 (call 1) 1 }

-- both hear their answers
abbrev pub mark_heard : Course
mark_heard = hearing mark_taken 1 (runner 1 1 [] 2 (Some (message 1 0 (call 0) refl)) (Some first_line)) first_line

abbrev pub wait_heard : Course
wait_heard =
    hearing mark_heard 0 (runner 0 0 (answer.Done ∷ answer.Done ∷ []) 2 (Some (message 0 2 (call 1) refl)) (Some second_line)) second_line

abbrev pub run_lines : List Line
run_lines = line 0 0 make 0 ∷ line 0 1 fork 0 ∷ line 1 0 (call 0) 0 ∷ line 0 2 (call 1) 1 ∷ []

-- it is a run, and this is its book
pub record IsRun : Type 0 where
  pub came : Came single performs computes wait_heard
  pub book : book single performs wait_heard.list wait_heard.aside ≡ run_lines
