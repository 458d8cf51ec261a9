-- A second small program, and a run of it, event by event. Process 0, at member 0, makes a cell, which is replicated, forks process 1 to
-- member 1, and marks the cell twice. Process 1 takes a mark, which it waits for in the queue of the copies; then it looks three times.
-- The first two looks stand at place 4, where member 1 applied four entries, though the list has five by then: so the book has them
-- before the second mark. Member 2 applied one entry alone.
use Rattle.std.specs.Prelude.{◌≡◌, ℕ, zero, suc, List, [], ◌∷◌, length, None, refl}
use Rattle.value_core.specs.Datum.{Data}
use Rattle.value_core.specs.Datum as datum
use Rattle.value_core.specs.declared.action.Class.{Class}
use Rattle.value_core.specs.declared.action.Class.TheVariants.{Reads, Writes}
use Rattle.value_core.specs.declared.action.Line.{Line}
use Rattle.value_core.specs.declared.action.Action.{Action}
use Rattle.value_core.specs.declared.action.Action.TheVariants as action
use Rattle.value_core.specs.declared.action.Reply.{Reply}
use Rattle.value_core.specs.declared.action.Reply.TheVariants as answer
use Rattle.value_core.specs.declared.meaning.Making.TheVariants as making
use Rattle.value_core.specs.declared.meaning.Tried.{Tried}
use Rattle.value_core.specs.declared.meaning.Tried.TheVariants as tried
use Rattle.value_core.specs.declared.meaning.Doing.TheVariants as doing
use Rattle.value_core.specs.declared.message.Message.{Message}
use Rattle.value_core.specs.Meaning.{Performs, Computes}
use Rattle.book_law.specs.Book.{book, copies_at}
use Rattle.book_law.specs.Cell.{call, fork, line, make, message}
use Rattle.book_law.specs.Course.{Came, Course, applying, forking, opening_course, ordered, reading, submitted}
use Rattle.book_law.specs.Events.{Runner}
use Rattle.book_law.specs.Example.{born, runner}
use Rattle.book_law.specs.Replicated.{all_replicated}

-- operation 0 adds a mark, 1 waits for a mark and takes it, 2 looks: by its guard, 1 where there is a mark
abbrev pub try_on : Data → ℕ → Tried
try_on state zero = tried.Did 0 (datum.more (datum.char 1) state) answer.Done
try_on datum.none (suc zero) = tried.Blocked
try_on (datum.more d rest) (suc zero) = tried.Did 1 rest answer.Done
try_on datum.none (suc (suc n)) = tried.Did 0 datum.none answer.Done
try_on (datum.more d rest) (suc (suc n)) = tried.Did 1 (datum.more d rest) answer.Done

abbrev pub class : ℕ → Class
class zero = Writes
class (suc zero) = Writes
class (suc (suc n)) = Reads

abbrev pub looks : Performs
looks = record {
  class_of = λ kind op. class op.0;
  made = λ kind. making.Made datum.none;
  tries = λ kind op state args. try_on state op.0;
}

-- what each process does after so many replies
abbrev pub does : ℕ → ℕ → Action
does zero zero = make
does zero (suc zero) = fork
does zero (suc (suc zero)) = call 0
does zero (suc (suc (suc zero))) = call 0
does zero (suc (suc (suc (suc n)))) = action.Ended
does (suc j) zero = call 1
does (suc j) (suc zero) = call 2
does (suc j) (suc (suc zero)) = call 2
does (suc j) (suc (suc (suc zero))) = call 2
does (suc j) (suc (suc (suc (suc n)))) = action.Ended

abbrev pub runs : Computes
runs = record {
  main = record { 0 = 0 };
  doing = λ text number args replies turns. doing.At (does number.0 (length replies));
}

-- the five entries
abbrev pub makes : Message
makes = message 0 0 make refl

abbrev pub forks : Message
forks = message 0 1 fork refl

abbrev pub takes : Message
takes = message 1 0 (call 1) refl

abbrev pub marks : Message
marks = message 0 2 (call 0) refl

abbrev pub marks_again : Message
marks_again = message 0 3 (call 0) refl

-- process 0 after so many replies, at this place; and process 1
abbrev pub replied : ℕ → List Reply
replied zero = []
replied (suc n) = answer.Done ∷ replied n

abbrev pub first : ℕ → ℕ → Runner
first n place = runner 0 0 (replied n) place None None

abbrev pub other : ℕ → ℕ → Runner
other n place = runner 1 1 (replied n) place None None

-- the make is entry 1, and member 0 applies it
abbrev pub opened : Course
opened = opening_course runs 0

abbrev pub make_submitted : Course
make_submitted = submitted opened 0 (first 0 0) makes

abbrev pub make_ordered : Course
make_ordered = ordered all_replicated looks make_submitted makes 0

abbrev pub make_applied : Course
make_applied = applying all_replicated looks make_ordered 0 makes

-- the fork is entry 2, and both members apply it
abbrev pub fork_submitted : Course
fork_submitted = submitted make_applied 0 (first 1 1) forks

abbrev pub fork_ordered : Course
fork_ordered = forking all_replicated looks fork_submitted forks born 1

abbrev pub fork_applied : Course
fork_applied = applying all_replicated looks fork_ordered 0 forks

abbrev pub make_followed : Course
make_followed = applying all_replicated looks fork_applied 1 makes

abbrev pub fork_followed : Course
fork_followed = applying all_replicated looks make_followed 1 forks

-- process 1 waits for a mark, by entry 3
abbrev pub take_submitted : Course
take_submitted = submitted fork_followed 1 (other 0 2) takes

abbrev pub take_ordered : Course
take_ordered = ordered all_replicated looks take_submitted takes 1

abbrev pub take_applied : Course
take_applied = applying all_replicated looks take_ordered 0 takes

-- process 0 marks, by entries 4 and 5; the first mark is taken by entry 4 too
abbrev pub mark_submitted : Course
mark_submitted = submitted take_applied 0 (first 2 2) marks

abbrev pub mark_ordered : Course
mark_ordered = ordered all_replicated looks mark_submitted marks 0

abbrev pub mark_applied : Course
mark_applied = applying all_replicated looks mark_ordered 0 marks

abbrev pub again_submitted : Course
again_submitted = submitted mark_applied 0 (first 3 4) marks_again

abbrev pub again_ordered : Course
again_ordered = ordered all_replicated looks again_submitted marks_again 0

abbrev pub again_applied : Course
again_applied = applying all_replicated looks again_ordered 0 marks_again

-- member 1 applies entries 3 and 4, and process 1 looks twice
abbrev pub take_followed : Course
take_followed = applying all_replicated looks again_applied 1 takes

abbrev pub mark_followed : Course
mark_followed = applying all_replicated looks take_followed 1 marks

abbrev pub looked : Course
looked = reading mark_followed 1 (other 1 4) 4 (line 1 1 (call 2) 0)

abbrev pub looked_twice : Course
looked_twice = reading looked 1 (other 2 4) 4 (line 1 2 (call 2) 0)

-- it applies entry 5, and process 1 looks again
abbrev pub again_followed : Course
again_followed = applying all_replicated looks looked_twice 1 marks_again

abbrev pub looked_again : Course
looked_again = reading again_followed 1 (other 3 4) 5 (line 1 3 (call 2) 1)

-- member 2 applies one entry
abbrev pub seen_late : Course
seen_late = applying all_replicated looks looked_again 2 makes

abbrev pub looks_lines : List Line
looks_lines =
    line 0 0 make 0 ∷ line 0 1 fork 0 ∷ line 0 2 (call 0) 0 ∷ line 1 0 (call 1) 1 ∷ line 1 1 (call 2) 0 ∷ line 1 2 (call 2) 0 ∷
    line 0 3 (call 0) 0 ∷ line 1 3 (call 2) 1 ∷ []

-- it is a run, and this is its book; the call of entry 3 waits in the copies' queue until entry 4
pub record IsLooking : Type 0 where
  pub came : Came all_replicated looks runs seen_late
  pub book : book all_replicated looks seen_late.list seen_late.aside ≡ looks_lines
  pub waits : length (copies_at all_replicated looks seen_late.list 3).queue ≡ 1
  pub runs_on : (copies_at all_replicated looks seen_late.list 4).queue ≡ []
