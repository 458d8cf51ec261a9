-- What a run performed is, place by place, its book.
use Rattle.std.proofs.Common.{List, [], ◌∷◌, ◌++◌, sym, subst, append-nil, arith}
use Rattle.value_core.specs.Meaning.{Performs, Computes}
use Rattle.book_law.specs.Passes.{Test}
use Rattle.book_law.specs.Singles.{lines_on}
use Rattle.book_law.specs.Book.{Placed}
use Rattle.book_law.specs.Performed.{Performed, placed}
use Rattle.book_law.specs.Course.{Course, Next}
use Rattle.book_law.specs.Course.Next.{Submits, Orders, Forks, Applies, Reads_at, Takes_call, Hears_answer}
use Rattle.book_law.specs.Course.Came.{Opens, Then}
use Rattle.book_law.specs.Sequence.{ArePerformed, performed_by, performed_in}
use Rattle.book_law.proofs.Courses.{Sound, came_sound}
use Rattle.book_law.proofs.Sorting.{performed_none, performed_push, performed_read, performed_takes}

same_performed : (single : Test) (p : Performs) (w : Course) (performed : List Placed) → Performed single p w.list w.aside performed → Performed single p w.list w.aside (performed ++ [])
same_performed single p w performed h = subst (λ (rs : List Placed). Performed single p w.list w.aside rs) (sym (append-nil performed)) h

next_performed : (single : Test) (p : Performs) (q : Computes) (w v : Course) (next : Next single p q w v) (performed : List Placed) → Sound single p q w → Performed single p w.list w.aside performed → Performed single p v.list v.aside (performed ++ performed_by single p q w v next)
next_performed single p q w v (Submits j x m here free asks is) performed s h = subst (λ (u : Course). Performed single p u.list u.aside (performed ++ [])) (sym is) (same_performed single p w performed h)
next_performed single p q w v (Orders x r here was new may plain is) performed s h =
    let k = s.kept in
    subst (λ (u : Course). Performed single p u.list u.aside (performed ++ performed_by single p q w v (Orders x r here was new may plain is))) (sym is) (performed_push single p w.list w.aside performed x k.held h)
next_performed single p q w v (Forks x born member was new forks is) performed s h =
    let k = s.kept in
    subst (λ (u : Course). Performed single p u.list u.aside (performed ++ performed_by single p q w v (Forks x born member was new forks is))) (sym is) (performed_push single p w.list w.aside performed x k.held h)
next_performed single p q w v (Applies m y here is) performed s h = subst (λ (u : Course). Performed single p u.list u.aside (performed ++ [])) (sym is) (same_performed single p w performed h)
next_performed single p q w v (Reads_at j x n line here reads is) performed s h =
    let k = s.kept in
    let a = reads.before in
    let b = k.within x.member in
    subst (λ (u : Course). Performed single p u.list u.aside (performed ++ placed n (line ∷ []))) (sym is) (performed_read single p w.list w.aside performed (record { place = n; line = line }) (omega (arith, a, b)) h)
next_performed single p q w v (Takes_call i x r call takes is) performed s h =
    let k = s.kept in
    subst (λ (u : Course). Performed single p u.list u.aside (performed ++ placed (w.applied x.owner) (lines_on p x call))) (sym is) (performed_takes single p w.list w.aside performed (w.applied x.owner) (lines_on p x call) (k.within x.owner) h)
next_performed single p q w v (Hears_answer j x r here has reached is) performed s h = subst (λ (u : Course). Performed single p u.list u.aside (performed ++ [])) (sym is) (same_performed single p w performed h)

pub are_performed : ArePerformed
are_performed single p q w (Opens member shared) = performed_none single p
are_performed single p q w (Then u v came next) = next_performed single p q u v next (performed_in single p q u came) (came_sound single p q u came) (are_performed single p q u came)
