-- Who keeps `Kept` has a legal book.
use Rattle.std.proofs.Common.{◌≡◌, ℕ, ◌+◌, ◌≤◌, ◌<◌, inr, ⊎_elim, Option, Some, None, List, [], ◌∷◌, ◌++◌, length, drop, refl, sym, ap, ◌∙◌, arith, subst, append-nil, append_assoc}
use Rattle.std.specs.Prelude.{slice_get}
use Rattle.std.proofs.lemmas.Bool.{cases_lt}
use Rattle.std.proofs.lemmas.List.{append_cancel_right, length-append, length-map}
use Rattle.value_core.specs.declared.action.Line.{Line}
use Rattle.value_core.specs.declared.message.Message.{Message}
use Rattle.value_core.specs.declared.action.Reply.{Reply}
use Rattle.value_core.specs.Meaning.{Performs, Computes}
use Rattle.value_core.specs.History.{Configuration, LegalFrom, Process, after_lines, opening, replies_in, replies_of}
use Rattle.object_manager.specs.After.{Copied, opening_copies}
use Rattle.book_law.specs.Passes.{Test, after, after_all, lines_after}
use Rattle.book_law.specs.Book.{Placed, behind, book, book_from, copies_at, aside_at, up_to}
use Rattle.book_law.proofs.Kept.{Promised, answer_lines, Kept, Stands, answer_at}
use Rattle.book_law.specs.Singles.{Single, waiting, waits}
use Rattle.book_law.specs.Events.{Runner, lines_by, replies_to}
use Rattle.book_law.proofs.Lists.{lines_by-append}
use Rattle.book_law.proofs.Processes.{after_lines-append, born_among, legal_right, replies_after}
use Rattle.book_law.proofs.Books.{behind_all, copies_applied, cut}
use Rattle.book_law.proofs.Stages.{stage_few}

-- the lines of a process behind a place are those of entries, where it has none beside the list there
pub entries_only : (single : Test) (p : Performs) (j : ℕ) (c : Copied) (xs : List Message) (aside : List Placed) → ((k : ℕ) → c.applied < k → lines_by j (aside_at k aside) ≡ []) → lines_by j (book_from single p c xs aside) ≡ lines_by j (book_from single p c xs [])
entries_only single p j c [] aside quiet = refl
entries_only single p j c (x ∷ xs) aside quiet =
    let here = lines_after single p c x in
    let new = aside_at (c.applied + 1) aside in
    let rest = book_from single p (after single p c x) xs aside in
    let more = book_from single p (after single p c x) xs [] in
    lines_by-append j (here ++ new) rest
    ∙ ap (λ (ls : List Line). ls ++ lines_by j rest) (lines_by-append j here new ∙ ap (λ (ls : List Line). lines_by j here ++ ls) (quiet (c.applied + 1) (omega arith)) ∙ sym (lines_by-append j here []))
    ∙ ap (λ (ls : List Line). lines_by j (here ++ []) ++ ls) (entries_only single p j (after single p c x) xs aside (λ k lt. quiet k (omega arith)))
    ∙ sym (lines_by-append j (here ++ []) more)

-- a process received what the book says up to the place that its member applied
received : (single : Test) (p : Performs) (q : Computes) (list : List Message) (aside : List Placed) (owned : List Single) (seen : List Message) (a j : ℕ) (x : Runner) → LegalFrom p q (opening q) (book single p list aside) → (s : Stands single p q list aside owned seen a j x) → x.answer ≡ None → replies_of p q (up_to single p list aside a) j ≡ x.replies
received single p q list aside owned seen a j x legal s told = go (slice_get c.processes j) refl
  where
    c : Configuration
    c = after_lines p (opening q) (up_to single p list aside a)

    was : book single p list aside ≡ up_to single p list aside a ++ behind single p list aside a
    was = cut single p list aside a

    legal_behind : LegalFrom p q c (behind single p list aside a)
    legal_behind = legal_right p q (opening q) (up_to single p list aside a) (behind single p list aside a) (subst (λ (ls : List Line). LegalFrom p q (opening q) ls) was legal)

    process : Process
    process = record { text = x.text; args = x.args; replies = x.replies ++ replies_to s.awaited }

    whole : slice_get (after_lines p c (behind single p list aside a)).processes j ≡ Some process
    whole = ap (λ (d : Configuration). slice_get d.processes j) (sym (after_lines-append p (opening q) (up_to single p list aside a) (behind single p list aside a)) ∙ ap (after_lines p (opening q)) (sym was)) ∙ s.process
        ∙ ap (λ (o : Option Placed). Some (record { text = x.text; args = x.args; replies = (x.replies ++ replies_to (answer_lines o)) ++ replies_to s.awaited })) told
        ∙ ap (λ (rs : List Reply). Some (record { text = x.text; args = x.args; replies = rs ++ replies_to s.awaited })) (append-nil x.replies)

    unseen : lines_by j (behind single p list aside a) ≡ s.awaited
    unseen = ⊎_elim
        (λ (lt : length list < a). ap (lines_by j) (behind_all single p list aside a (omega (arith, lt)) ∙ sym (behind_all single p list [] a (omega (arith, lt)))) ∙ s.unseen)
        (λ (le : a ≤ length list). let e = copies_applied single p list a le in entries_only single p j (copies_at single p list a) (drop a list) aside (λ k lt. s.quiet k (inr (omega (arith, lt, e))) ∙ ap (answer_at k) told) ∙ s.unseen)
        (cases_lt (length list) a)

    go : (o : Option Process) → slice_get c.processes j ≡ o → replies_in (slice_get c.processes j) ≡ x.replies
    go None e =
        let f = born_among p q c (behind single p list aside a) j process legal_behind e whole in
        let g : [] ++ replies_to s.awaited ≡ x.replies ++ replies_to s.awaited = sym (f ∙ ap replies_to unseen) in
        ap replies_in e ∙ append_cancel_right [] x.replies (replies_to s.awaited) g
    go (Some own) e =
        let f = replies_after p c (behind single p list aside a) j own e in
        let g : Some (record { text = own.text; args = own.args; replies = own.replies ++ replies_to (lines_by j (behind single p list aside a)) }) ≡ Some process = sym f ∙ whole in
        let h : own.replies ++ replies_to (lines_by j (behind single p list aside a)) ≡ x.replies ++ replies_to s.awaited = ap replies_in g in
        ap replies_in e ∙ append_cancel_right own.replies x.replies (replies_to s.awaited) (ap (λ (ls : List Line). own.replies ++ replies_to ls) (sym unseen) ∙ h)

pub book_is_legal : (single : Test) (p : Performs) (q : Computes) (list : List Message) (aside : List Placed) (owned : List Single) (entered : List Message) (applied : ℕ → ℕ) (runners : ℕ → Option Runner) → Kept single p q list aside owned entered applied runners → Promised single p q list aside owned applied runners
book_is_legal single p q list aside owned entered applied runners k = record {
  legal = k.legal;
  copies = k.follows;
  singles = λ i x is. let o = k.owns i x is in o.state;
  replies = λ j x there.
      let s = k.stands j x there in
      let few = stage_few entered x.message x.answer (waiting j (after_all single p opening_copies list).queue + waits j owned) s.awaited s.stage in
      let e = length-map s.awaited (λ (l : Line). l.reply) in
      let f = length-map (answer_lines x.answer) (λ (l : Line). l.reply) in
      let g = length-append (replies_to (answer_lines x.answer)) (replies_to s.awaited) in
      (replies_to (answer_lines x.answer) ++ replies_to s.awaited, ap replies_in s.process ∙ append_assoc x.replies (replies_to (answer_lines x.answer)) (replies_to s.awaited), omega (arith, few, e, f, g));
  received = λ j x there told. received single p q list aside owned entered (applied x.member) j x k.legal (k.stands j x there) told;
}
