-- What a run performed, in order of events: an entry's lines as it enters the list, which in a group is when the first member
-- applies it; a read, and what a call on a single copy performs, as it is done.
use Rattle.std.specs.Prelude.{suc, List, [], ◌∷◌, ◌++◌, length}
use Rattle.value_core.specs.Meaning.{Performs, Computes}
use Rattle.object_manager.specs.After.{opening_copies}
use Rattle.book_law.specs.Passes.{Test, after_all, lines_after}
use Rattle.book_law.specs.Singles.{lines_on}
use Rattle.book_law.specs.Book.{Placed}
use Rattle.book_law.specs.Performed.{Performed, placed}
use Rattle.book_law.specs.Course.{Came, Course, Next}
use Rattle.book_law.specs.Course.Next.{Submits, Orders, Forks, Applies, Reads_at, Takes_call, Hears_answer}
use Rattle.book_law.specs.Course.Came.{Opens, Then}

-- what one event performs
abbrev pub performed_by : (single : Test) (p : Performs) (q : Computes) (w v : Course) → Next single p q w v → List Placed
performed_by single p q w v (Submits j x m here free asks is) = []
performed_by single p q w v (Orders x r here was new may plain is) =
    placed (suc (length w.list)) (lines_after single p (after_all single p opening_copies w.list) x)
performed_by single p q w v (Forks x born member was new forks is) =
    placed (suc (length w.list)) (lines_after single p (after_all single p opening_copies w.list) x)
performed_by single p q w v (Applies m y here is) = []
performed_by single p q w v (Reads_at j x n line here reads is) = placed n (line ∷ [])
performed_by single p q w v (Takes_call i x r call takes is) = placed (w.applied x.owner) (lines_on p x call)
performed_by single p q w v (Hears_answer j x r here has reached is) = []

-- and a run
abbrev pub performed_in : (single : Test) (p : Performs) (q : Computes) (w : Course) → Came single p q w → List Placed
performed_in single p q w (Opens member shared) = []
performed_in single p q w (Then u v came next) = performed_in single p q u came ++ performed_by single p q u v next

-- place by place that is what the list and what stands beside it say
abbrev pub ArePerformed : Type 0
ArePerformed =
    (single : Test) (p : Performs) (q : Computes) (w : Course) (came : Came single p q w) →
    Performed single p w.list w.aside (performed_in single p q w came)
