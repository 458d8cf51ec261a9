use Rattle.book_law.proofs.book_law.Goals as goal
use Rattle.book_law.proofs.Asked.{entered_asked}
use Rattle.book_law.proofs.Counting.{objects_counted}
use Rattle.book_law.proofs.Courses.{every_run}
use Rattle.book_law.proofs.Resting.{entered_stands}
use Rattle.book_law.proofs.Received.{replies_received}
use Rattle.book_law.proofs.InBook.{all_in_book}
use Rattle.book_law.proofs.Replying.{answers_stand, hand_one}
use Rattle.book_law.proofs.Running.{asked_stands, processes_run, untaken_out}
use Rattle.book_law.proofs.Sequence.{are_performed}

pub returns : goal.returns
returns c = record {
  legal = λ single p q w came. let h = every_run single p q w came in h.legal;
  lines = all_in_book;
  copies = λ single p q w came. let h = every_run single p q w came in h.copies;
  objects = objects_counted;
  singles = λ single p q w came. let h = every_run single p q w came in h.singles;
  processes = processes_run;
  received = replies_received;
  performed = are_performed;
  entered = entered_stands;
  asked = asked_stands;
  submitted = entered_asked;
  untaken = untaken_out;
  hands = hand_one;
  answers = answers_stand;
}
