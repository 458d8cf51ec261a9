-- A process receives one reply at most in a part of an event, and has at most as many as the book has lines where that begins.
use Rattle.std.proofs.Common.{◌≡◌, ◌≤◌, ◌==◌, ◌+◌, ◌⊎◌, inl, inr, ℕ, zero, suc, Bool, true, false, List, [], ◌∷◌, ◌++◌, length, Option, None, Some, refl, sym, ap, ◌∙◌, subst, arith, if◌then◌else◌}
use Rattle.std.specs.Prelude.{slice_get}
use Rattle.std.proofs.lemmas.Bool.{cases_eq}
use Rattle.std.proofs.lemmas.List.{length-append, length-map}
use Rattle.value_core.specs.Datum as datum
use Rattle.value_core.specs.Meaning.{Computes}
use Rattle.value_core.specs.Meaning.{Performs as Meanings}
use Rattle.value_core.specs.History.{Process, opening}
use Rattle.value_core.specs.declared.action.Action.{Action}
use Rattle.value_core.specs.declared.action.Line.{Line}
use Rattle.value_core.specs.declared.action.Reply.{Reply}
use Rattle.value_core.specs.declared.meaning.Tried.{Tried}
use Rattle.value_core.specs.declared.message.Message.{Message}
use Rattle.guard_queue.specs.Settles.{is_blocked}
use Rattle.orca_base.specs.declared.ids.CallNo.{CallNo}
use Rattle.book_law.specs.Book.{book}
use Rattle.book_law.specs.Course.{Came, Course, with_at}
use Rattle.book_law.specs.Events.{Runner, lines_by, replies_to}
use Rattle.book_law.specs.Passes.{Test}
use Rattle.book_law.specs.Replies.{IsReplyTo}
use Rattle.book_law.proofs.Kept.{Kept, Stands, answer_lines, as_process}
use Rattle.book_law.proofs.Courses.{at_other, at_own, came_sound}
use Rattle.book_law.proofs.Processes.{born_among, replies_after}
use Rattle.world_rules.specs.Applying.{performs_read, tries_as, tries_of, tries_read}
use Rattle.world_rules.specs.Bursts.{read_line, read_on}
use Rattle.world_rules.specs.Frame.{Frame}
use Rattle.world_rules.specs.Nodes.{NodeWork, does, plays}
use Rattle.world_rules.specs.Nodes.Deed.{Performs}
use Rattle.world_rules.specs.Owners.{hears_as, hears_of}
use Rattle.world_rules.specs.Played.{Played, Stage, receives}
use Rattle.world_rules.specs.Played.Stage.{Computing, Acting, Submitted, Reading, Asking, Over}
use Rattle.world_course.proofs.Applied.{received}

-- it waits for a reply, or will
abbrev pub waits_by : Stage → ℕ
waits_by Computing = 0
waits_by (Acting act) = 1
waits_by (Submitted act) = 1
waits_by (Reading act) = 1
waits_by (Asking act) = 1
waits_by (Over act) = 0

-- each process has at most so many replies, with the one that it waits for
abbrev pub FewReplies : ℕ → (ℕ → Option Played) → Type 0
FewReplies most played = (i : ℕ) (r : Played) → played i ≡ Some r → length r.replies + waits_by r.stage ≤ most

same_of : (a b : Played) → Some a ≡ Some b → a ≡ b
same_of a b e = cc

pub set_few : (most i : ℕ) (t : Played) (played : ℕ → Option Played) → FewReplies most played → length t.replies + waits_by t.stage ≤ most → FewReplies most (with_at played i (Some t))
set_few most i t played h le j r is = go (cases_eq j i)
  where
    go : (j ≡ i) ⊎ (j ≡ i → ⊥) → length r.replies + waits_by r.stage ≤ most
    go (inl e) =
        let same : t ≡ r = same_of t r (sym (ap (with_at played i (Some t)) e ∙ at_own played i (Some t)) ∙ is) in
        subst (λ (z : Played). length z.replies + waits_by z.stage ≤ most) same le
    go (inr apart) = h j r (sym (at_other played i (Some t) j apart) ∙ is)

received_few : (most place : ℕ) (reply : Reply) (r : Played) → length r.replies + waits_by r.stage ≤ most → waits_by r.stage ≡ 1 → length (receives place reply r).replies + waits_by (receives place reply r).stage ≤ most
received_few most place reply r le waits =
    let e : length (r.replies ++ reply ∷ []) ≡ length r.replies + 1 = length-append r.replies (reply ∷ []) in
    omega (arith, e, le, waits)

-- ---- a read

read_few : (most i : ℕ) (r : Played) (act : Action) (t : Tried) (v : NodeWork) → FewReplies most v.node.played → v.node.played i ≡ Some r → waits_by r.stage ≡ 1 → FewReplies most (performs_read i r act t v).node.played
read_few most i r act t v h here waits = go (is_blocked t)
  where
    line : Line
    line = read_line (record { 0 = i }) r act t

    go : (b : Bool) → FewReplies most (if b then v else plays i (receives v.node.copies.applied line.reply r) (does (Performs (record { place = v.node.copies.applied; line = line })) v)).node.played
    go true = h
    go false = set_few most i (receives v.node.copies.applied line.reply r) v.node.played h (received_few most v.node.copies.applied line.reply r (h i r here) waits)

tried_few : (f : Frame) (most i : ℕ) (r : Played) (stage : Stage) (v : NodeWork) → FewReplies most v.node.played → v.node.played i ≡ Some r → r.stage ≡ stage → FewReplies most (tries_as f i r stage v).node.played
tried_few f most i r (Reading act) v h here is = read_few most i r act (read_on f.performs v.node.copies.objects act) v h here (ap waits_by is)
tried_few f most i r Computing v h here is = h
tried_few f most i r (Acting act) v h here is = h
tried_few f most i r (Submitted act) v h here is = h
tried_few f most i r (Asking act) v h here is = h
tried_few f most i r (Over act) v h here is = h

tries_few : (f : Frame) (most i : ℕ) (o : Option Played) (v : NodeWork) → FewReplies most v.node.played → v.node.played i ≡ o → FewReplies most (tries_of f i o v).node.played
tries_few f most i None v h here = h
tries_few f most i (Some r) v h here = tried_few f most i r r.stage v h here refl

pub tries_read_few : (f : Frame) (most i : ℕ) (v : NodeWork) → FewReplies most v.node.played → FewReplies most (tries_read f i v).node.played
tries_read_few f most i v h = tries_few f most i (v.node.played i) v h refl

-- ---- an Answer

heard_few : (most place i : ℕ) (call : CallNo) (reply : Reply) (r : Played) (stage : Stage) (v : NodeWork) → FewReplies most v.node.played → v.node.played i ≡ Some r → r.stage ≡ stage → FewReplies most (hears_as place i call reply r stage v).node.played
heard_few most place i call reply r (Asking act) v h here is = go (call.0 == length r.replies)
  where
    go : (b : Bool) → FewReplies most (if b then plays i (receives place reply r) v else v).node.played
    go true = set_few most i (receives place reply r) v.node.played h (received_few most place reply r (h i r here) (ap waits_by is))
    go false = h
heard_few most place i call reply r Computing v h here is = h
heard_few most place i call reply r (Acting act) v h here is = h
heard_few most place i call reply r (Submitted act) v h here is = h
heard_few most place i call reply r (Reading act) v h here is = h
heard_few most place i call reply r (Over act) v h here is = h

pub hears_few : (most place i : ℕ) (call : CallNo) (reply : Reply) (o : Option Played) (v : NodeWork) → FewReplies most v.node.played → v.node.played i ≡ o → FewReplies most (hears_of place i call reply o v).node.played
hears_few most place i call reply None v h here = h
hears_few most place i call reply (Some r) v h here = heard_few most place i call reply r r.stage v h here refl

-- ---- lines of an entry

-- one line at most, where it waits
pub lines_few : (most place : ℕ) (r : Played) (x : Runner) (lines : List Line) → length r.replies + waits_by r.stage ≤ most → IsReplyTo x lines → ((y : Message) → x.message ≡ Some y → waits_by r.stage ≡ 1)
    → length (received place lines r).replies + waits_by (received place lines r).stage ≤ most
lines_few most place r x [] le reply waits = le
lines_few most place r x (l ∷ lines) le reply waits =
    subst (λ (ls : List Line). length (received place ls (receives place l.reply r)).replies + waits_by (received place ls (receives place l.reply r)).stage ≤ most) (sym reply.0)
    (received_few most place l.reply r le (waits reply.1 reply.2))

-- ---- at the beginning

by_fewer : (j : ℕ) (lines : List Line) → length (lines_by j lines) ≤ length lines
by_fewer j [] = omega arith
by_fewer j (l ∷ lines) = go (l.process.0 == j) (by_fewer j lines)
  where
    go : (b : Bool) → length (lines_by j lines) ≤ length lines → length (if b then l ∷ lines_by j lines else lines_by j lines) ≤ suc (length lines)
    go true le = omega (arith, le)
    go false le = omega (arith, le)

opens_with : (q : Computes) (j : ℕ) (own : Process) → slice_get (opening q).processes j ≡ Some own → own.replies ≡ []
opens_with q zero own is = let e : record { text = q.main; args = datum.none; replies = [] } ≡ own = cc in ap (λ (z : Process). z.replies) (sym e)
opens_with q (suc j) own is = absurd (cc is)

-- a process of a course has no more replies than the book has lines
pub few_received : (single : Test) (p : Meanings) (q : Computes) (c : Course) (j : ℕ) (x : Runner) → Came single p q c → c.runners j ≡ Some x → length x.replies ≤ length (book single p c.list c.aside)
few_received single p q c j x came here = go (slice_get (opening q).processes j) refl
  where
    lines : List Line
    lines = book single p c.list c.aside

    kept : Kept single p q c.list c.aside c.owned c.entered c.applied c.runners
    kept = let sound = came_sound single p q c came in sound.kept

    s : Stands single p q c.list c.aside c.owned c.entered (c.applied x.member) j x
    s = kept.stands j x here

    -- all that the book has of it
    all : (as_process x s.awaited).replies ≡ replies_to (lines_by j lines) → length x.replies ≤ length lines
    all is =
        let a : length ((x.replies ++ replies_to (answer_lines x.answer)) ++ replies_to s.awaited) ≡ length (x.replies ++ replies_to (answer_lines x.answer)) + length (replies_to s.awaited) =
        length-append (x.replies ++ replies_to (answer_lines x.answer)) (replies_to s.awaited) in
        let b : length (x.replies ++ replies_to (answer_lines x.answer)) ≡ length x.replies + length (replies_to (answer_lines x.answer)) = length-append x.replies (replies_to (answer_lines x.answer)) in
        let d : length ((x.replies ++ replies_to (answer_lines x.answer)) ++ replies_to s.awaited) ≡ length (replies_to (lines_by j lines)) = ap (λ (l : List Reply). length l) is in
        let e : length (replies_to (lines_by j lines)) ≡ length (lines_by j lines) = length-map (lines_by j lines) (λ (l : Line). l.reply) in
        let le = by_fewer j lines in
        omega (arith, a, b, d, e, le)

    go : (o : Option Process) → slice_get (opening q).processes j ≡ o → length x.replies ≤ length lines
    go None is = all (born_among p q (opening q) lines j (as_process x s.awaited) kept.legal is s.process)
    go (Some own) is =
        let e : Some (as_process x s.awaited) ≡ Some (record { text = own.text; args = own.args; replies = own.replies ++ replies_to (lines_by j lines) }) = sym s.process ∙ replies_after p (opening q) lines j own is in
        let same : as_process x s.awaited ≡ record { text = own.text; args = own.args; replies = own.replies ++ replies_to (lines_by j lines) } = cc in
        all (ap (λ (z : Process). z.replies) same ∙ ap (λ (rs : List Reply). rs ++ replies_to (lines_by j lines)) (opens_with q j own is))
