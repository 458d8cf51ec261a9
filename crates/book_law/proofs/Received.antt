-- What each process received: the book's replies up to its member's number, but for an answer on the way.
use Rattle.std.proofs.Common.{◌≡◌, ℕ, ◌+◌, inr, ⊎_elim, Option, Some, None, List, [], ◌∷◌, ◌++◌, length, drop, refl, sym, ap, ◌∙◌, arith, subst, append-nil, if◌then◌else◌}
use Rattle.std.specs.Prelude.{slice_get}
use Rattle.std.proofs.lemmas.Bool.{le-leb, lt-leb}
use Rattle.std.proofs.lemmas.List.{append_cancel_right}
use Rattle.value_core.specs.declared.action.Line.{Line}
use Rattle.value_core.specs.declared.action.Reply.{Reply}
use Rattle.value_core.specs.declared.message.Message.{Message}
use Rattle.value_core.specs.Meaning.{Performs, Computes}
use Rattle.value_core.specs.History.{Configuration, LegalFrom, Process, after_lines, opening, replies_in, replies_of}
use Rattle.object_manager.specs.After.{opening_copies}
use Rattle.book_law.specs.Passes.{Test, after_all}
use Rattle.book_law.specs.Singles.{Single, waiting, waits}
use Rattle.book_law.specs.Book.{Placed, behind, book, copies_at, up_to}
use Rattle.book_law.specs.Events.{Runner, lines_by, replies_to}
use Rattle.book_law.specs.Promise.{RepliesReceived, arrived}
use Rattle.book_law.proofs.Kept.{AnswerStands, Kept, Stands, answer_at, answer_lines, as_process}
use Rattle.book_law.proofs.Books.{copies_applied, cut}
use Rattle.book_law.proofs.Courses.{came_sound, every_run}
use Rattle.book_law.proofs.Machines.{told_behind, within}
use Rattle.book_law.proofs.Processes.{after_lines-append, born_among, legal_right, replies_after}
use Rattle.book_law.proofs.Stages.{stage_told}

-- the replies up to a place, and those behind it, are what the process received and lacks
two_parts : (single : Test) (p : Performs) (q : Computes) (list : List Message) (aside : List Placed) (owned : List Single) (seen : List Message) (a j n : ℕ) (x : Runner) → LegalFrom p q (opening q) (book single p list aside) → (s : Stands single p q list aside owned seen a j x)
    → replies_of p q (up_to single p list aside n) j ++ replies_to (lines_by j (behind single p list aside n)) ≡ (x.replies ++ replies_to (answer_lines x.answer)) ++ replies_to s.awaited
two_parts single p q list aside owned seen a j n x legal s = go (slice_get c.processes j) refl
  where
    c : Configuration
    c = after_lines p (opening q) (up_to single p list aside n)

    later : List Line
    later = behind single p list aside n

    legal_behind : LegalFrom p q c later
    legal_behind = legal_right p q (opening q) (up_to single p list aside n) later (subst (λ (ls : List Line). LegalFrom p q (opening q) ls) (cut single p list aside n) legal)

    whole : slice_get (after_lines p c later).processes j ≡ Some (as_process x s.awaited)
    whole = ap (λ (d : Configuration). slice_get d.processes j) (sym (after_lines-append p (opening q) (up_to single p list aside n) later) ∙ ap (after_lines p (opening q)) (sym (cut single p list aside n))) ∙ s.process

    go : (o : Option Process) → slice_get c.processes j ≡ o → replies_in (slice_get c.processes j) ++ replies_to (lines_by j later) ≡ (as_process x s.awaited).replies
    go None e = ap (λ (o : Option Process). replies_in o ++ replies_to (lines_by j later)) e ∙ sym (born_among p q c later j (as_process x s.awaited) legal_behind e whole)
    go (Some own) e = ap (λ (o : Option Process). replies_in o ++ replies_to (lines_by j later)) e ∙ ap replies_in (sym (replies_after p c later j own e) ∙ whole)

pub replies_received : RepliesReceived
replies_received single p q w came j x here = go x.answer refl
  where
    k : Kept single p q w.list w.aside w.owned w.entered w.applied w.runners
    k = let sound = came_sound single p q w came in sound.kept

    s : Stands single p q w.list w.aside w.owned w.entered (w.applied x.member) j x
    s = k.stands j x here

    a : ℕ
    a = w.applied x.member

    had : List Reply
    had = replies_of p q (up_to single p w.list w.aside a) j

    parts : had ++ replies_to (lines_by j (behind single p w.list w.aside a)) ≡ (x.replies ++ replies_to (answer_lines x.answer)) ++ replies_to s.awaited
    parts = two_parts single p q w.list w.aside w.owned w.entered a j a x k.legal s

    go : (o : Option Placed) → x.answer ≡ o → had ≡ x.replies ++ arrived a x.answer
    go None e =
        let h = every_run single p q w came in
        h.received j x here e ∙ sym (append-nil x.replies) ∙ ap (λ (o : Option Placed). x.replies ++ arrived a o) (sym e)
    go (Some r) e =
        let d = stage_told w.entered x.message x.answer (waiting j (after_all single p opening_copies w.list).queue + waits j w.owned) s.awaited r e s.stage in
        let places : AnswerStands x.place (length w.list) (Some r) = subst (λ (o : Option Placed). AnswerStands x.place (length w.list) o) e s.answer in
        let most = places.1 in
        let at = copies_applied single p w.list a (k.within x.member) in
        let size = within single p w.list a in
        let all : (x.replies ++ replies_to (answer_lines x.answer)) ++ replies_to s.awaited ≡ x.replies ++ r.line.reply ∷ [] =
        ap (λ (o : Option Placed). (x.replies ++ replies_to (answer_lines o)) ++ replies_to s.awaited) e ∙ ap (λ (ls : List Line). (x.replies ++ r.line.reply ∷ []) ++ replies_to ls) d.1 ∙ append-nil (x.replies ++ r.line.reply ∷ []) in
        ⊎_elim
        (λ u.
        let le = u.0 in
        sym (append-nil had) ∙ ap (λ (ls : List Line). had ++ replies_to ls) (sym u.1) ∙ parts ∙ all
        ∙ ap (λ b. x.replies ++ (if b then r.line.reply ∷ [] else [])) (sym (le-leb r.place a (omega (arith, le, at)))) ∙ ap (λ (o : Option Placed). x.replies ++ arrived a o) (sym e))
        (λ u.
        let lt = u.0 in
        append_cancel_right had x.replies (r.line.reply ∷ []) (ap (λ (ls : List Line). had ++ replies_to ls) (sym u.1) ∙ parts ∙ all)
        ∙ sym (append-nil x.replies) ∙ ap (λ b. x.replies ++ (if b then r.line.reply ∷ [] else [])) (sym (lt-leb r.place a (omega (arith, lt, at)))) ∙ ap (λ (o : Option Placed). x.replies ++ arrived a o) (sym e))
        (told_behind single p j (copies_at single p w.list a) (drop a w.list) w.aside r (s.unseen ∙ d.1) (λ i lt. s.quiet i (inr (omega (arith, lt, at))) ∙ ap (answer_at i) e) (omega (arith, size, most)))
