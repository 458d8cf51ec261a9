-- The list grows by an entry: what is kept stays kept.
use Rattle.std.proofs.Common.{◌≡◌, ℕ, suc, ◌+◌, ◌≤◌, ◌<◌, ◌⊎◌, inl, inr, ⊎_elim, Bool, true, false, Option, Some, None, List, [], ◌∷◌, ◌++◌, length, drop, refl, sym, ap, ◌∙◌, arith, subst, append-nil, append_assoc, if◌then◌else◌}
use Rattle.std.specs.Prelude.{IsTrue, slice_get, map}
use Rattle.std.proofs.lemmas.Bool.{cases_eq, cases_lt}
use Rattle.std.proofs.lemmas.List.{length_push, map-append, take-append-le, take_all}
use Rattle.std.specs.List.{Contains}
use Rattle.std.proofs.lemmas.List.Elements.{Contains-append_left, Contains-append_right}
use Rattle.guard_queue.proofs.KindsStay.{contains_here}
use Rattle.std.proofs.lemmas.Option.{slice_get_within}
use Rattle.orca_base.specs.declared.ids.ObjectId.{ObjectId}
use Rattle.orca_base.specs.declared.ids.ProcessNo.{ProcessNo}
use Rattle.orca_base.specs.declared.ids.CallNo.{CallNo}
use Rattle.value_core.specs.Fits.{Kinds}
use Rattle.value_core.specs.declared.action.Instance.{Instance}
use Rattle.value_core.specs.declared.action.Line.{Line}
use Rattle.value_core.specs.declared.message.Message.{Message}
use Rattle.value_core.specs.declared.action.Action.{Action}
use Rattle.value_core.specs.declared.action.Action.TheVariants as action
use Rattle.value_core.specs.declared.action.Reply.{Reply}
use Rattle.value_core.specs.declared.action.Reply.TheVariants as answer
use Rattle.value_core.specs.Performable.{is_performable}
use Rattle.value_core.specs.Meaning.{Performs, Computes}
use Rattle.value_core.specs.History.{Configuration, LegalFrom, Process, after_line, after_lines, forked, object_at, objects_after, opening}
use Rattle.guard_queue.specs.declared.queue.Suspended.{Suspended}
use Rattle.object_manager.specs.After.{Copied, acted, line_of, lines_after as lines_applied, making_reply, opening_copies, settled_after}
use Rattle.book_law.specs.Passes.{Test, after, after_all, counted, is_passed, lines_after}
use Rattle.book_law.specs.Book.{Placed, behind, book, book_from, copies_at, aside_at, up_to}
use Rattle.book_law.specs.Course.{MayOrder}
use Rattle.book_law.specs.Singles.{Single, singles_by, waiting, waits}
use Rattle.book_law.specs.Events.{Calls, In, Makes, Runner, lines_by, newborn, replies_to}
use Rattle.book_law.specs.Promise.{Follows}
use Rattle.book_law.proofs.Kept.{Spares, answer_lines, AllNext, AllOn, AnswerStands, IsKept, Kept, Owns, Stage, Stands, as_process}
use Rattle.book_law.proofs.Kept.Stage.{Free}
use Rattle.book_law.proofs.Lists.{append_none_left, append_none_right, at_push, in_push, in_waits, lines_by-append, lines_by-none, one, one_other, one_same, waiting-cons}
use Rattle.book_law.proofs.Processes.{after_fork, after_lines-append, get_end, get_left, legal-append, none_yet, replies_after}
use Rattle.book_law.proofs.Settling.{Comes, Entered, Going, entered, of_entry}
use Rattle.book_law.proofs.Books.{behind_all, behind_push, book_push, copies_all, copies_keep, copies_most, copies_push, cut, up_to_all, up_to_keep}
use Rattle.book_law.proofs.Stages.{none_left, stage_new, stage_push}
use Rattle.book_law.proofs.Objects.{spared_lines, spares_append}
use Rattle.book_law.proofs.Inserting.{calls_no_make, calls_one, next_same, through}
use Rattle.book_law.proofs.Owned.{Added, added, added_counts, added_there, added_waits, counted_by, counted_push, makes_pass, waits-append, waits_at}

-- an earlier number of processes: whoever the whole list doesn't have has no line of an entry
entries_in : (single : Test) (p : Performs) (c : Copied) (xs : List Message) (aside : List Placed) (j : ℕ) → lines_by j (book_from single p c xs aside) ≡ [] → lines_by j (book_from single p c xs []) ≡ []
entries_in single p c [] aside j none = refl
entries_in single p c (x ∷ xs) aside j none =
    let here = lines_after single p c x in
    let new = aside_at (c.applied + 1) aside in
    let rest = book_from single p (after single p c x) xs aside in
    let two : lines_by j (here ++ new) ++ lines_by j rest ≡ [] = sym (lines_by-append j (here ++ new) rest) ∙ none in
    let one : lines_by j here ++ lines_by j new ≡ [] = sym (lines_by-append j here new) ∙ append_none_left (lines_by j (here ++ new)) (lines_by j rest) two in
    let more = book_from single p (after single p c x) xs [] in
    lines_by-append j (here ++ []) more
    ∙ ap (λ (ls : List Line). ls ++ lines_by j more) (lines_by-append j here [] ∙ ap (λ (ls : List Line). ls ++ []) (append_none_left (lines_by j here) (lines_by j new) one))
    ∙ entries_in single p (after single p c x) xs aside j (append_none_right (lines_by j (here ++ new)) (lines_by j rest) two)

pub unborn_behind : (single : Test) (p : Performs) (q : Computes) (list : List Message) (aside : List Placed) (j n : ℕ) → LegalFrom p q (opening q) (book single p list aside) → length (after_lines p (opening q) (book single p list aside)).processes ≤ j → lines_by j (behind single p list [] n) ≡ []
unborn_behind single p q list aside j n legal le =
    let whole = none_yet p q (opening q) (book single p list aside) j legal le in
    entries_in single p (copies_at single p list n) (drop n list) aside j
    (append_none_right (lines_by j (up_to single p list aside n)) (lines_by j (behind single p list aside n))
    (sym (lines_by-append j (up_to single p list aside n) (behind single p list aside n)) ∙ ap (lines_by j) (sym (cut single p list aside n)) ∙ whole))

-- the whole book and the whole list
pub follows_all : (single : Test) (p : Performs) (q : Computes) (list : List Message) (aside : List Placed) (owned : List Single) (seen : List Message) (applied : ℕ → ℕ) (runners : ℕ → Option Runner) → Kept single p q list aside owned seen applied runners → Follows single p q (book single p list aside) (after_all single p opening_copies list)
follows_all single p q list aside owned seen applied runners k =
    subst (λ (c : Copied). Follows single p q (book single p list aside) c) (copies_all single p list)
    (subst (λ (ls : List Line). Follows single p q ls (copies_at single p list (length list))) (up_to_all single p list aside (length list) (omega arith)) (k.follows (length list)))

-- the process as the book has it, where it received all
pub as_received : (x : Runner) (awaited : List Line) → x.answer ≡ None → awaited ≡ [] → as_process x awaited ≡ record { text = x.text; args = x.args; replies = x.replies }
as_received x awaited told none =
    ap (λ (a : List Line). as_process x a) none
    ∙ ap (λ (o : Option Placed). record { text = x.text; args = x.args; replies = (x.replies ++ replies_to (answer_lines o)) ++ [] }) told
    ∙ ap (λ (rs : List Reply). record { text = x.text; args = x.args; replies = rs }) (append-nil (x.replies ++ []) ∙ append-nil x.replies)

-- what must hold for a message to be the next entry
pub record Enters (single : Test) (p : Performs) (list : List Message) (owned : List Single) (seen : List Message) (runners : ℕ → Option Runner) (x : Message) (r : Runner) : Type 0 where
  pub runner : runners x.process.0 ≡ Some r
  pub out : r.message ≡ Some x
  pub new : In x seen → ⊥
  pub may : MayOrder single owned x.action

sum_none : (a b : ℕ) → a + b ≡ 0 → a ≡ 0
sum_none a b e = omega (arith, e)

-- the entry is the next action of its process
pub comes : (single : Test) (p : Performs) (q : Computes) (list : List Message) (aside : List Placed) (owned : List Single) (seen : List Message) (applied : ℕ → ℕ) (runners : ℕ → Option Runner) (x : Message) (r : Runner) → Enters single p list owned seen runners x r → Kept single p q list aside owned seen applied runners
    → Comes p q (λ o. single o ≡ false) (after_lines p (opening q) (book single p list aside)) (after_all single p opening_copies list) x
comes single p q list aside owned seen applied runners x r h k =
    let s = k.stands x.process.0 r h.runner in
    let copies = after_all single p opening_copies list in
    let t = stage_new seen x r.message r.answer (waiting x.process.0 copies.queue + waits x.process.0 owned) s.awaited h.out h.new s.stage in
    let a = s.asks x h.out in
    let f = follows_all single p q list aside owned seen applied runners k in
    let may = h.may in
    record {
      process = record { text = r.text; args = r.args; replies = r.replies };
      exists = s.process ∙ ap (λ (y : Process). Some y) (as_received r s.awaited t.2 t.1);
      call = a.call;
      doing = a.next;
      waits = sum_none (waiting x.process.0 copies.queue) (waits x.process.0 owned) t.0;
      calls = may.shared;
      objects = f.objects;
      count = f.processes;
      next = k.next;
      on = k.shared;
      once = λ j. let u = k.once j in omega (arith, u);
    }

-- nobody waits on a single copy where the sender waits nowhere
idle : (single : Test) (p : Performs) (q : Computes) (list : List Message) (aside : List Placed) (owned : List Single) (seen : List Message) (applied : ℕ → ℕ) (runners : ℕ → Option Runner) (x : Message) (r : Runner) → Enters single p list owned seen runners x r → Kept single p q list aside owned seen applied runners
    → waiting x.process.0 (after_all single p opening_copies list).queue + waits x.process.0 owned ≡ 0
idle single p q list aside owned seen applied runners x r h k =
    let s = k.stands x.process.0 r h.runner in
    let t = stage_new seen x r.message r.answer (waiting x.process.0 (after_all single p opening_copies list).queue + waits x.process.0 owned) s.awaited h.out h.new s.stage in
    t.0

-- what its lines leave
follows_entered : (single : Test) (p : Performs) (q : Computes) (lines : List Line) (copies : Copied) (x : Message) → Entered single p q (after_lines p (opening q) lines) copies x → Follows single p q (lines ++ lines_after single p copies x) (after single p copies x)
follows_entered single p q lines copies x e =
    let g = e.going in
    record {
      objects = λ o shared. ap (λ (c : Configuration). object_at c.objects o) (after_lines-append p (opening q) lines (lines_after single p copies x)) ∙ g.objects o shared;
      processes = ap (λ (c : Configuration). length c.processes) (after_lines-append p (opening q) lines (lines_after single p copies x)) ∙ g.count;
    }

-- what a process awaits grows by its lines
awaits_more : (x : Runner) (awaited lines : List Line) → record { text = x.text; args = x.args; replies = ((x.replies ++ replies_to (answer_lines x.answer)) ++ replies_to awaited) ++ replies_to lines } ≡ as_process x (awaited ++ lines)
awaits_more x awaited lines =
    let had = x.replies ++ replies_to (answer_lines x.answer) in
    ap (λ (rs : List Reply). record { text = x.text; args = x.args; replies = rs }) (append_assoc had (replies_to awaited) (replies_to lines) ∙ ap (λ (rs : List Reply). had ++ rs) (sym (map-append (λ (l : Line). l.reply) awaited lines)))

answer_longer : (place m n : ℕ) (answer : Option Placed) → m ≤ n → AnswerStands place m answer → AnswerStands place n answer
answer_longer place m n None le h = tt
answer_longer place m n (Some r) le h = let a = h.1 in (h.0, omega (arith, a, le))

stands_pushed : (single : Test) (p : Performs) (q : Computes) (list : List Message) (aside : List Placed) (owned : List Single) (seen : List Message) (applied : ℕ → ℕ) (runners : ℕ → Option Runner) (x : Message) (r : Runner) (member : ℕ) → Enters single p list owned seen runners x r → Kept single p q list aside owned seen applied runners
    → Entered single p q (after_lines p (opening q) (book single p list aside)) (after_all single p opening_copies list) x → (j : ℕ) (y : Runner) → runners j ≡ Some y
    → Stands single p q (list ++ x ∷ []) aside (owned ++ singles_by single p member (suc (length list)) x.action) (seen ++ x ∷ []) (applied y.member) j y
stands_pushed single p q list aside owned seen applied runners x r member h k e j y there =
    record {
      awaited = s.awaited ++ ls;
      process = ap (λ (c : Configuration). slice_get c.processes j) (ap (after_lines p (opening q)) (book_push single p list aside x k.held) ∙ after_lines-append p (opening q) (book single p list aside) lines)
          ∙ replies_after p (after_lines p (opening q) (book single p list aside)) lines j (as_process y s.awaited) s.process ∙ ap (λ (z : Process). Some z) (awaits_more y s.awaited ls);
      since = ap (lines_by j) (behind_push single p list [] x y.place s.early (λ n lt. refl)) ∙ lines_by-append j (behind single p list [] y.place) lines ∙ ap (λ (a : List Line). a ++ ls) s.since;
      unseen = ap (lines_by j) (behind_push single p list [] x (applied y.member) (k.within y.member) (λ n lt. refl)) ∙ lines_by-append j (behind single p list [] (applied y.member)) lines ∙ ap (λ (a : List Line). a ++ ls) s.unseen;
      quiet = s.quiet;
      answer = answer_longer y.place (length list) (length (list ++ x ∷ [])) y.answer (let n = length_push list x in omega (arith, n)) s.answer;
      there = subst (λ (c : Copied). j < c.processes) (sym (copies_keep single p list x y.place s.early)) s.there;
      early = let n = length_push list x in let f = s.early in omega (arith, n, f);
      asks = s.asks;
      earlier = λ z u f. ⊎_elim (λ v. s.earlier z v f) (λ v. inr (own (ap (λ (w : Message). w.process.0) (sym v) ∙ f) ∙ ap (λ (w : Message). Some w) (sym v))) (in_push z x seen u);
      stage = subst (λ (c : Copied). Stage (seen ++ x ∷ []) y.message y.answer (waiting j c.queue + waits j (owned ++ singles_by single p member (suc (length list)) x.action)) (s.awaited ++ ls)) (sym (copies_push single p list x))
          (stage_push seen x j y.message y.answer (waiting j copies.queue + waits j owned) (waiting j (after single p copies x).queue + waits j (owned ++ singles_by single p member (suc (length list)) x.action)) s.awaited ls own (λ m f. let a = s.asks m f in a.process) h.new
          (let a = e.holds j in let b = waits-append j owned (singles_by single p member (suc (length list)) x.action) in let d = added_waits single p j member (suc (length list)) x.action in omega (arith, a, b, d)) s.stage);
    }
  where
    s : Stands single p q list aside owned seen (applied y.member) j y
    s = k.stands j y there

    copies : Copied
    copies = after_all single p opening_copies list

    lines : List Line
    lines = lines_after single p copies x

    ls : List Line
    ls = lines_by j lines

    own : x.process.0 ≡ j → y.message ≡ Some x
    own f = let g : Some r ≡ Some y = sym h.runner ∙ ap runners f ∙ there in let u : r ≡ y = cc in subst (λ (z : Runner). z.message ≡ Some x) u h.out

-- an entry spares each single object but the one that it makes
entry_spares : (single : Test) (p : Performs) (q : Computes) (c : Configuration) (copies : Copied) (x : Message) (o : ObjectId) → Entered single p q c copies x → ((k : ObjectId) → Calls x.action k → single k ≡ false) → (Makes x.action o → ⊥) → single o ≡ true → Spares o (lines_after single p copies x)
entry_spares single p q c copies x o e shared apart is l h t =
    let g = e.going in
    ⊎_elim
    (λ (u : l.action ≡ x.action). ⊎_elim (λ v. clash (shared o (subst (λ (a : Action). Calls a o) u v))) (λ v. apart (subst (λ (a : Action). Makes a o) u v)) t)
    (λ u. ⊎_elim (λ v. clash (ap single (calls_one l.action o u.0 v u.1) ∙ u.2)) (λ v. calls_no_make l.action u.0 o u.1 v) t)
    (g.each l h)
  where
    clash : single o ≡ false → ⊥
    clash f = let g : true ≡ false = sym is ∙ f in absurd (cc g)

more_kept : (owned new : List Single) (n m : ℕ) (o : ObjectId) → n ≤ m → IsKept owned n o → IsKept (owned ++ new) m o
more_kept owned new n m o le h = let a = h.4 in (h.0, h.1, get_left owned new h.0 h.1 h.2, h.3, omega (arith, a, le))

-- the lines of an entry that passes: the make's
passed_line : (single : Test) (p : Performs) (copies : Copied) (process : ProcessNo) (call : CallNo) (a : Action) (ok : IsTrue (is_performable a)) → is_passed single a ≡ true
    → (l : Line) × (lines_after single p copies (record { process = process; call = call; action = a; performable = ok }) ≡ l ∷ []) × (l.action ≡ a)
passed_line single p copies process call (action.Make kind object) ok is =
    let x : Message = record { process = process; call = call; action = action.Make kind object; performable = ok } in
    (line_of x (making_reply (p.made kind)), ap (λ b. if b then (acted p copies x).lines else lines_applied p copies x) is, refl)
passed_line single p copies process call (action.Call kind op object args) ok is = absurd (cc is)
passed_line single p copies process call (action.Fork text args place_on) ok is = absurd (cc is)
passed_line single p copies process call action.Ended ok is = absurd (cc is)
passed_line single p copies process call (action.Faulted fault) ok is = absurd (cc is)

-- an old single copy stays what it was
owns_pushed : (single : Test) (p : Performs) (q : Computes) (list : List Message) (aside : List Placed) (owned : List Single) (seen : List Message) (applied : ℕ → ℕ) (runners : ℕ → Option Runner) (x : Message) (r : Runner) → Enters single p list owned seen runners x r → Kept single p q list aside owned seen applied runners
    → Entered single p q (after_lines p (opening q) (book single p list aside)) (after_all single p opening_copies list) x → (i : ℕ) (y : Single) → slice_get owned i ≡ Some y → Owns single p q (list ++ x ∷ []) aside runners (applied y.owner) y
owns_pushed single p q list aside owned seen applied runners x r h k e i y there =
    record {
      is = o.is;
      state = ap (λ (d : Configuration). object_at d.objects y.object) ended ∙ spared_lines p c lines y.object spares ∙ o.state;
      next = λ call inside. next_same q c (after_lines p (opening q) (book single p (list ++ x ∷ []) aside)) call
          (ap (λ (d : Configuration). slice_get d.processes call.process.0) ended ∙ same call inside) (o.next call inside);
      its = o.its;
      place = let n = length_push list x in let a = o.place in omega (arith, n, a);
      last = λ n after reached. ⊎_elim
          (λ (lt : length list < n). let m = length_push list x in subst (λ (ls : List Line). Spares y.object ls) (sym (behind_all single p (list ++ x ∷ []) aside n (omega (arith, m, lt)))) (λ l u t. u))
          (λ (le : n ≤ length list). subst (λ (ls : List Line). Spares y.object ls) (sym (behind_push single p list aside x n le k.held)) (spares_append y.object (behind single p list aside n) lines (o.last n after reached) spares))
          (cases_lt (length list) n);
      ready = o.ready;
      unused = o.unused;
      listed = λ n after. ⊎_elim
          (λ (lt : length list < n). subst (λ (ks : Kinds). Contains ks (y.object, y.kept.kind)) (sym (ap (counted single p) (take_all n (list ++ x ∷ []) (let m = length_push list x in omega (arith, m, lt))) ∙ counted_push single p list x))
          (Contains-append_left (counted single p list) (counted_by single p x.action) (y.object, y.kept.kind) (subst (λ (ms : List Message). Contains (counted single p ms) (y.object, y.kept.kind)) (take_all (length list) list (omega arith)) (o.listed (length list) o.place))))
          (λ (le : n ≤ length list). subst (λ (ms : List Message). Contains (counted single p ms) (y.object, y.kept.kind)) (sym (take-append-le n list (x ∷ []) le)) (o.listed n after))
          (cases_lt (length list) n);
    }
  where
    o : Owns single p q list aside runners (applied y.owner) y
    o = k.owns i y there

    copies : Copied
    copies = after_all single p opening_copies list

    lines : List Line
    lines = lines_after single p copies x

    c : Configuration
    c = after_lines p (opening q) (book single p list aside)

    ended : after_lines p (opening q) (book single p (list ++ x ∷ []) aside) ≡ after_lines p c lines
    ended = ap (after_lines p (opening q)) (book_push single p list aside x k.held) ∙ after_lines-append p (opening q) (book single p list aside) lines

    spares : Spares y.object lines
    spares = let may = h.may in entry_spares single p q c copies x y.object e may.shared (λ m. may.unmade y.object m i y there refl) o.is

    same : (call : Suspended) → In call y.queue → slice_get (after_lines p c lines).processes call.process.0 ≡ slice_get c.processes call.process.0
    same call inside =
        let n = o.next call inside in
        let j = call.process.0 in
        let lt = slice_get_within c.processes j n.process n.exists in
        let w = in_waits call y.queue inside in
        let at = waits_at j owned i y there in
        let once = k.once j in
        let e1 = e.holds j in
        let none : lines_by j lines ≡ [] = ⊎_elim
        (λ (f : x.process.0 ≡ j). let z = idle single p q list aside owned seen applied runners x r h k in let g : waiting j copies.queue + waits j owned ≡ 0 = subst (λ (m : ℕ). waiting m copies.queue + waits m owned ≡ 0) f z in absurd (omega (arith, g, w, at)))
        (λ apart. let u = one_other x.process.0 j apart in (none_left (waiting j (after single p copies x).queue) (lines_by j lines) (omega (arith, e1, u, once, w, at))).1)
        (cases_eq x.process.0 j) in
        through p c lines j lt none

-- the list grows by the message of a process that isn't in it yet; the member is its process's
pub appended : (single : Test) (p : Performs) (q : Computes) (list : List Message) (aside : List Placed) (owned : List Single) (seen : List Message) (applied : ℕ → ℕ) (runners : ℕ → Option Runner) (x : Message) (r : Runner) (member : ℕ) → Enters single p list owned seen runners x r
    → Kept single p q list aside owned seen applied runners → Kept single p q (list ++ x ∷ []) aside (owned ++ singles_by single p member (suc (length list)) x.action) (seen ++ x ∷ []) applied runners
appended single p q list aside owned seen applied runners x r member h k =
    record {
      legal = subst (λ (ls : List Line). LegalFrom p q (opening q) ls) (sym longer) (legal-append p q (opening q) (book single p list aside) lines k.legal going.legal);
      follows = λ n. ⊎_elim (at_end n) (before n) (cases_lt (length list) n);
      next = subst (λ (c : Copied). AllNext q (after_lines p (opening q) (book single p (list ++ x ∷ []) aside)) c.queue) (sym (copies_push single p list x))
          (subst (λ (c : Configuration). AllNext q c (after single p copies x).queue) (sym ended) going.next);
      shared = subst (λ (c : Copied). AllOn (λ o. single o ≡ false) c.queue) (sym (copies_push single p list x)) going.on;
      once = λ j. subst (λ (c : Copied). waiting j c.queue + waits j (owned ++ new) ≤ 1) (sym (copies_push single p list x)) (once j);
      within = λ m. let n = length_push list x in let f = k.within m in omega (arith, n, f);
      held = λ n lt. k.held n (let m = length_push list x in omega (arith, m, lt));
      unborn = λ j n le. k.unborn j n (let g = ap (λ (c : Copied). c.processes) (copies_push single p list x) in omega (arith, g, le));
      listed = λ z u. ⊎_elim
          (λ v. let a = k.listed z v in let g = ap (λ (c : Copied). c.processes) (copies_push single p list x) in omega (arith, a, g))
          (λ v. let a = slice_get_within end.processes x.process.0 start.process start.exists in let b = start.count in let f = ap (λ (w : Message). w.process.0) v in let g = ap (λ (c : Copied). c.processes) (copies_push single p list x) in omega (arith, a, b, f, g))
          (in_push z x seen u);
      counts = map-append (λ (y : Single). (y.object, y.kept.kind)) owned new ∙ ap (λ (ks : Kinds). ks ++ map (λ (y : Single). (y.object, y.kept.kind)) new) k.counts
          ∙ ap (λ (ks : Kinds). counted single p list ++ ks) (added_counts single p member (suc (length list)) x.action) ∙ sym (counted_push single p list x);
      distinct = distinct;
      known = λ n o kept is u. ⊎_elim (λ lt. known_end n lt o kept is u) (λ le. more_kept owned new n n o (omega arith) (k.known n o kept is (subst (λ (ls : List Line). object_at (after_lines p (opening q) ls).objects o ≡ Some kept) (up_to_keep single p list aside x n le) u))) (cases_lt (length list) n);
      owns = owns;
      stands = stands_pushed single p q list aside owned seen applied runners x r member h k e;
    }
  where
    copies : Copied
    copies = after_all single p opening_copies list

    lines : List Line
    lines = lines_after single p copies x

    new : List Single
    new = singles_by single p member (suc (length list)) x.action

    end : Configuration
    end = after_lines p (opening q) (book single p list aside)

    start : Comes p q (λ o. single o ≡ false) end copies x
    start = comes single p q list aside owned seen applied runners x r h k

    e : Entered single p q (after_lines p (opening q) (book single p list aside)) (after_all single p opening_copies list) x
    e = entered single p q end copies x (comes single p q list aside owned seen applied runners x r h k)

    going : Going p q (λ o. single o ≡ false) x.action (after_lines p (opening q) (book single p list aside)) (copies.processes + length (forked x.action)) (of_entry single p copies x)
    going = e.going

    longer : book single p (list ++ x ∷ []) aside ≡ book single p list aside ++ lines
    longer = book_push single p list aside x k.held

    ended : after_lines p (opening q) (book single p (list ++ x ∷ []) aside) ≡ after_lines p (after_lines p (opening q) (book single p list aside)) lines
    ended = ap (after_lines p (opening q)) longer ∙ after_lines-append p (opening q) (book single p list aside) lines

    before : (n : ℕ) → n ≤ length list → Follows single p q (up_to single p (list ++ x ∷ []) aside n) (copies_at single p (list ++ x ∷ []) n)
    before n le =
        subst (λ (c : Copied). Follows single p q (up_to single p (list ++ x ∷ []) aside n) c) (sym (copies_keep single p list x n le))
        (subst (λ (ls : List Line). Follows single p q ls (copies_at single p list n)) (sym (up_to_keep single p list aside x n le)) (k.follows n))

    at_end : (n : ℕ) → length list < n → Follows single p q (up_to single p (list ++ x ∷ []) aside n) (copies_at single p (list ++ x ∷ []) n)
    at_end n lt =
        let m = length_push list x in
        let le : length (list ++ x ∷ []) ≤ n = omega (arith, m, lt) in
        subst (λ (c : Copied). Follows single p q (up_to single p (list ++ x ∷ []) aside n) c) (sym (ap (after_all single p opening_copies) (take_all n (list ++ x ∷ []) le) ∙ copies_push single p list x))
        (subst (λ (ls : List Line). Follows single p q ls (after single p copies x)) (sym (up_to_all single p (list ++ x ∷ []) aside n le ∙ longer)) (follows_entered single p q (book single p list aside) copies x e))

    once : (j : ℕ) → waiting j (after single p copies x).queue + waits j (owned ++ new) ≤ 1
    once j =
        let a = e.holds j in
        let b = waits-append j owned new in
        let d = added_waits single p j member (suc (length list)) x.action in
        ⊎_elim
        (λ (f : x.process.0 ≡ j). let z = idle single p q list aside owned seen applied runners x r h k in let g : waiting j copies.queue + waits j owned ≡ 0 = subst (λ (m : ℕ). waiting m copies.queue + waits m owned ≡ 0) f z in let u = one_same x.process.0 j f in omega (arith, a, b, d, g, u))
        (λ apart. let u = one_other x.process.0 j apart in let o = k.once j in omega (arith, a, b, d, u, o))
        (cases_eq x.process.0 j)

    -- a copy is an old one, or the one that was added
    split : (i : ℕ) (y : Single) → slice_get (owned ++ new) i ≡ Some y → (slice_get owned i ≡ Some y) ⊎ ((i ≡ length owned) × Added single p member (suc (length list)) x.action y)
    split i y is = ⊎_elim
        (λ none. inl (sym (ap (λ (ss : List Single). slice_get ss i) (ap (λ (ss : List Single). owned ++ ss) none ∙ append-nil owned)) ∙ is))
        (λ u. ⊎_elim (λ v. inl v) (λ v. inr (v.0, subst (λ (s : Single). Added single p member (suc (length list)) x.action s) v.1 u.2)) (at_push owned u.0 i y (sym (ap (λ (ss : List Single). slice_get (owned ++ ss) i) u.1) ∙ is)))
        (added single p member (suc (length list)) x.action)

    distinct : (i l : ℕ) (y z : Single) → slice_get (owned ++ new) i ≡ Some y → slice_get (owned ++ new) l ≡ Some z → y.object ≡ z.object → i ≡ l
    distinct i l y z is there same =
        let may = h.may in
        ⊎_elim
        (λ u. ⊎_elim (λ v. k.distinct i l y z u v same)
        (λ v. let a = v.1 in absurd (may.unmade z.object a.makes i y u same)) (split l z there))
        (λ u. ⊎_elim (λ v. let a = u.1 in absurd (may.unmade y.object a.makes l z v (sym same)))
        (λ v. u.0 ∙ sym v.0) (split l z there))
        (split i y is)

    known_end : (n : ℕ) → length list < n → (o : ObjectId) (kept : Instance) → single o ≡ true → object_at (after_lines p (opening q) (up_to single p (list ++ x ∷ []) aside n)).objects o ≡ Some kept → IsKept (owned ++ new) n o
    known_end n lt o kept is u = go (is_passed single x.action) refl
      where
        le : length (list ++ x ∷ []) ≤ n
        le = let m = length_push list x in omega (arith, m, lt)

        at : object_at (after_lines p end lines).objects o ≡ Some kept
        at = sym (ap (λ (d : Configuration). object_at d.objects o) (ap (after_lines p (opening q)) (up_to_all single p (list ++ x ∷ []) aside n le) ∙ ended)) ∙ u

        old : object_at end.objects o ≡ Some kept → IsKept (owned ++ new) n o
        old v = more_kept owned new (length list) n o (omega arith) (k.known (length list) o kept is (ap (λ (ls : List Line). object_at (after_lines p (opening q) ls).objects o) (up_to_all single p list aside (length list) (omega arith)) ∙ v))

        go : (b : Bool) → is_passed single x.action ≡ b → IsKept (owned ++ new) n o
        go false f =
            let may = h.may in
            let spares = entry_spares single p q end copies x o e may.shared (λ m. let g : true ≡ false = sym (makes_pass single x.action o m is) ∙ f in absurd (cc g)) is in
            old (sym (spared_lines p end lines o spares) ∙ at)
        go true f =
            let w = passed_line single p copies x.process x.call x.action x.performable f in
            let one : object_at (after_line p end w.0).objects o ≡ Some kept = sym (ap (λ (ls : List Line). object_at (after_lines p end ls).objects o) w.1) ∙ at in
            ⊎_elim old
            (λ v. (
              length owned,
              v.0,
              ap (λ (ss : List Single). slice_get (owned ++ ss) (length owned)) v.1 ∙ get_end owned v.0,
              v.2,
              let pl : (z : Single) × (z ≡ v.0) × (z.place ≡ suc (length list)) = added_place v.0 v.1 in (let a = ap (λ (s : Single). s.place) pl.1 in let b = pl.2 in omega (arith, a, b, lt)),
            ))
            (added_there single p member (suc (length list)) x.action end.objects o kept f (ap (λ (a : Action). object_at (objects_after p end.objects a) o) (sym w.2) ∙ one))
          where
            added_place : (s : Single) → new ≡ s ∷ [] → (z : Single) × (z ≡ s) × (z.place ≡ suc (length list))
            added_place s is = ⊎_elim
                (λ none. let g : [] ≡ s ∷ [] = sym none ∙ is in absurd (cc g))
                (λ u. let g : u.0 ∷ [] ≡ s ∷ [] = sym u.1 ∙ is in let i : u.0 ≡ s = cc in let a = u.2 in (u.0, i, a.at))
                (added single p member (suc (length list)) x.action)

    owns : (i : ℕ) (y : Single) → slice_get (owned ++ new) i ≡ Some y → Owns single p q (list ++ x ∷ []) aside runners (applied y.owner) y
    owns i y is = ⊎_elim
        (λ u. owns_pushed single p q list aside owned seen applied runners x r h k e i y u)
        (λ u. fresh u.1)
        (split i y is)
      where
        fresh : Added single p member (suc (length list)) x.action y → Owns single p q (list ++ x ∷ []) aside runners (applied y.owner) y
        fresh a =
            let w = passed_line single p copies x.process x.call x.action x.performable a.passed in
            let empty : (call : Suspended) → In call y.queue → ⊥ = λ call u. subst (λ (qs : List Suspended). In call qs) a.queue u in
            record {
              is = a.is;
              state = ap (λ (d : Configuration). object_at d.objects y.object) (ended ∙ ap (λ (ls : List Line). after_lines p end ls) w.1) ∙ ap (λ (b : Action). object_at (objects_after p end.objects b) y.object) w.2 ∙ a.after end.objects;
              next = λ call u. absurd (empty call u);
              its = λ call u. absurd (empty call u);
              place = let n = length_push list x in let b = a.at in omega (arith, n, b);
              last = λ n after reached. subst (λ (ls : List Line). Spares y.object ls) (sym (behind_all single p (list ++ x ∷ []) aside n (let m = length_push list x in let b = a.at in omega (arith, m, b, after)))) (λ l u t. u);
              ready = λ call u. absurd (empty call u);
              unused = λ lt. (a.queue, a.made);
              listed = λ n after. subst (λ (ks : Kinds). Contains ks (y.object, y.kept.kind)) (sym (ap (counted single p) (take_all n (list ++ x ∷ []) (let m = length_push list x in let b = a.at in omega (arith, m, b, after))) ∙ counted_push single p list x))
                  (Contains-append_right (counted single p list) (counted_by single p x.action) (y.object, y.kept.kind) (subst (λ (ks : Kinds). Contains ks (y.object, y.kept.kind)) (sym a.counts) (contains_here (y.object, y.kept.kind) [])));
            }

-- ---- a fork's new process

pub nobody_waits : (q : Computes) (c : Configuration) (queue : List Suspended) (j : ℕ) → length c.processes ≤ j → AllNext q c queue → waiting j queue ≡ 0
nobody_waits q c [] j le next = refl
nobody_waits q c (call ∷ queue) j le next =
    let n = next call (inl refl) in
    let a = slice_get_within c.processes call.process.0 n.process n.exists in
    let apart : call.process.0 ≡ j → ⊥ = λ (f : call.process.0 ≡ j). omega (arith, a, le, f) in
    let w = waiting-cons j call queue in
    let u = one_other call.process.0 j apart in
    let v = nobody_waits q c queue j le (λ other h. next other (inr h)) in
    omega (arith, w, u, v)

pub nobody_owned : (q : Computes) (c : Configuration) (owned : List Single) (j : ℕ) → length c.processes ≤ j → ((i : ℕ) (y : Single) → slice_get owned i ≡ Some y → AllNext q c y.queue) → waits j owned ≡ 0
nobody_owned q c [] j le next = refl
nobody_owned q c (y ∷ owned) j le next =
    let a = nobody_waits q c y.queue j le (next 0 y refl) in
    let b = nobody_owned q c owned j le (λ i z is. next (suc i) z is) in
    omega (arith, a, b)

-- the first line of a fork's entry is the fork's
record FirstLine (single : Test) (p : Performs) (copies : Copied) (x : Message) (born : Process) : Type 0 where
  line : Line
  rest : List Line
  is : lines_after single p copies x ≡ line ∷ rest
  forks : forked line.action ≡ born ∷ []

first_line : (single : Test) (p : Performs) (copies : Copied) (process : ProcessNo) (call : CallNo) (a : Action) (ok : IsTrue (is_performable a)) (born : Process) → forked a ≡ born ∷ [] → FirstLine single p copies (record { process = process; call = call; action = a; performable = ok }) born
first_line single p copies process call (action.Fork text args place_on) ok born e =
    let x : Message = record { process = process; call = call; action = action.Fork text args place_on; performable = ok } in
    record { line = line_of x answer.Done; rest = (settled_after p (acted p copies x)).lines; is = refl; forks = e }
first_line single p copies process call (action.Make kind object) ok born e = absurd (cc e)
first_line single p copies process call (action.Call kind op object args) ok born e = absurd (cc e)
first_line single p copies process call action.Ended ok born e = absurd (cc e)
first_line single p copies process call (action.Faulted fault) ok born e = absurd (cc e)

fresh : (a : Action) (born : Process) → forked a ≡ born ∷ [] → born.replies ≡ []
fresh (action.Fork text args place_on) born e = let f : born ≡ record { text = text; args = args; replies = [] } = cc in ap (λ (z : Process). z.replies) f
fresh (action.Make kind object) born e = absurd (cc e)
fresh (action.Call kind op object args) born e = absurd (cc e)
fresh action.Ended born e = absurd (cc e)
fresh (action.Faulted fault) born e = absurd (cc e)

-- a fork adds no single copy, and may be ordered
pub fork_adds : (single : Test) (p : Performs) (owner place : ℕ) (a : Action) (born : Process) → forked a ≡ born ∷ [] → singles_by single p owner place a ≡ []
fork_adds single p owner place (action.Fork text args place_on) born e = refl
fork_adds single p owner place (action.Make kind object) born e = absurd (cc e)
fork_adds single p owner place (action.Call kind op object args) born e = absurd (cc e)
fork_adds single p owner place action.Ended born e = absurd (cc e)
fork_adds single p owner place (action.Faulted fault) born e = absurd (cc e)

pub fork_may : (single : Test) (owned : List Single) (a : Action) (born : Process) → forked a ≡ born ∷ [] → MayOrder single owned a
fork_may single owned (action.Fork text args place_on) born e = record { shared = λ o h. absurd h; unmade = λ o h. absurd h }
fork_may single owned (action.Make kind object) born e = absurd (cc e)
fork_may single owned (action.Call kind op object args) born e = absurd (cc e)
fork_may single owned action.Ended born e = absurd (cc e)
fork_may single owned (action.Faulted fault) born e = absurd (cc e)

-- it has the next number, no replies, and the fork's place
pub forked_stands : (single : Test) (p : Performs) (q : Computes) (list : List Message) (aside : List Placed) (owned : List Single) (seen : List Message) (applied : ℕ → ℕ) (runners : ℕ → Option Runner) (x : Message) (r : Runner) (born : Process) (member : ℕ)
    → Enters single p list owned seen runners x r → forked x.action ≡ born ∷ [] → Kept single p q list aside owned seen applied runners
    → Stands single p q (list ++ x ∷ []) aside owned (seen ++ x ∷ []) (applied member) (after_all single p opening_copies list).processes (newborn member born.text born.args (suc (length list)))
forked_stands single p q list aside owned seen applied runners x r born member h forks k =
    record {
      awaited = [];
      process = ap (λ (d : Configuration). slice_get d.processes number) (ap (after_lines p (opening q)) (book_push single p list aside x k.held) ∙ after_lines-append p (opening q) (book single p list aside) lines ∙ ap (after_lines p c) f.is)
          ∙ replies_after p (after_line p c f.line) f.rest number born at
          ∙ ap (λ (ls : List Line). Some (record { text = born.text; args = born.args; replies = born.replies ++ replies_to ls })) (lines_by-none number f.line f.rest (ap (lines_by number) (sym f.is) ∙ none)).1
          ∙ ap (λ (rs : List Reply). Some (record { text = born.text; args = born.args; replies = rs ++ [] })) (fresh x.action born forks);
      since = ap (lines_by number) (behind_all single p (list ++ x ∷ []) [] (suc (length list)) (omega (arith, long)));
      unseen = ap (lines_by number) (behind_push single p list [] x (applied member) (k.within member) (λ n lt. refl)) ∙ lines_by-append number (behind single p list [] (applied member)) lines
          ∙ ap (λ (a : List Line). a ++ lines_by number lines) unseen_before ∙ none;
      quiet = λ n lt. k.unborn number n (omega arith);
      answer = tt;
      there = subst (λ (d : Copied). number < d.processes) (sym (ap (after_all single p opening_copies) (take_all (suc (length list)) (list ++ x ∷ []) (omega (arith, long))) ∙ copies_push single p list x))
          (let u = ap (λ (ps : List Process). length ps) forks in omega (arith, u));
      early = omega (arith, long);
      asks = λ m e. absurd (cc e);
      earlier = λ z u f. absurd (⊎_elim (λ v. let a = k.listed z v in omega (arith, a, f)) (λ v. let a = slice_get_within c.processes x.process.0 start.process start.exists in let b = start.count in let g = ap (λ (w : Message). w.process.0) (sym v) ∙ f in omega (arith, a, b, g)) (in_push z x seen u));
      stage = Free refl refl (subst (λ (d : Copied). waiting number d.queue + waits number owned ≡ 0) (sym (copies_push single p list x)) (let w = (none_left (waiting number (after single p copies x).queue) (lines_by number lines) all_none).0 in let v = owned_none in omega (arith, w, v))) refl;
    }
  where
    copies : Copied
    copies = after_all single p opening_copies list

    number : ℕ
    number = copies.processes

    c : Configuration
    c = after_lines p (opening q) (book single p list aside)

    lines : List Line
    lines = lines_after single p copies x

    long : length (list ++ x ∷ []) ≡ length list + 1
    long = length_push list x

    start : Comes p q (λ o. single o ≡ false) c copies x
    start = comes single p q list aside owned seen applied runners x r h k

    e : Entered single p q (after_lines p (opening q) (book single p list aside)) copies x
    e = entered single p q c copies x start

    f : FirstLine single p copies x born
    f = first_line single p copies x.process x.call x.action x.performable born forks

    owned_none : waits number owned ≡ 0
    owned_none = nobody_owned q c owned number (let u = start.count in omega (arith, u)) (λ i y is. let o = k.owns i y is in o.next)

    all_none : waiting number (after single p copies x).queue + length (lines_by number lines) ≡ 0
    all_none =
        let w = nobody_waits q c copies.queue number (let u = start.count in omega (arith, u)) k.next in
        let a = slice_get_within c.processes x.process.0 start.process start.exists in
        let u = start.count in
        let v = one_other x.process.0 number (λ (g : x.process.0 ≡ number). absurd (omega (arith, a, u, g))) in
        e.holds number ∙ (let g : waiting number copies.queue + one x.process.0 number ≡ 0 = omega (arith, w, v) in g)

    none : lines_by number lines ≡ []
    none = (none_left (waiting number (after single p copies x).queue) (lines_by number lines) all_none).1

    at : slice_get (after_line p c f.line).processes number ≡ Some born
    at = subst (λ (n : ℕ). slice_get (after_line p c f.line).processes n ≡ Some born) start.count (after_fork p c f.line born f.forks)

    unseen_before : lines_by number (behind single p list [] (applied member)) ≡ []
    unseen_before = unborn_behind single p q list aside number (applied member) k.legal (let u = start.count in omega (arith, u))

-- one process more stands
pub with_runner : (single : Test) (p : Performs) (q : Computes) (list : List Message) (aside : List Placed) (owned : List Single) (seen : List Message) (applied : ℕ → ℕ) (runners more : ℕ → Option Runner) (number : ℕ) (x : Runner) → more number ≡ Some x → ((j : ℕ) → (j ≡ number → ⊥) → more j ≡ runners j)
    → ((r : Runner) → runners number ≡ Some r → ⊥) → Stands single p q list aside owned seen (applied x.member) number x → Kept single p q list aside owned seen applied runners → Kept single p q list aside owned seen applied more
with_runner single p q list aside owned seen applied runners more number x here rest none s k = record {
  legal = k.legal;
  follows = k.follows;
  next = k.next;
  shared = k.shared;
  once = k.once;
  within = k.within;
  held = k.held;
  unborn = k.unborn;
  listed = k.listed;
  counts = k.counts;
  distinct = k.distinct;
  known = k.known;
  owns = λ i y is. let o = k.owns i y is in record {
    is = o.is;
    state = o.state;
    next = o.next;
    its = o.its;
    place = o.place;
    last = o.last;
    ready = λ call u. let r = o.ready call u in (r.0, rest call.process.0 (λ (e : call.process.0 ≡ number). none r.0 (ap runners (sym e) ∙ r.1)) ∙ r.1, r.2);
    unused = o.unused;
    listed = o.listed;
  };
  stands = λ j y there. ⊎_elim (own j y there) (λ apart. k.stands j y (sym (rest j apart) ∙ there)) (cases_eq j number);
}
  where
    own : (j : ℕ) (y : Runner) → more j ≡ Some y → j ≡ number → Stands single p q list aside owned seen (applied y.member) j y
    own j y there is =
        let g : Some x ≡ Some y = sym here ∙ ap more (sym is) ∙ there in
        let h : x ≡ y = cc in
        subst (λ (z : Runner). Stands single p q list aside owned seen (applied z.member) j z) h (subst (λ (n : ℕ). Stands single p q list aside owned seen (applied x.member) n x) (sym is) s)

-- nobody has the next number yet
pub no_number : (single : Test) (p : Performs) (q : Computes) (list : List Message) (aside : List Placed) (owned : List Single) (seen : List Message) (applied : ℕ → ℕ) (runners : ℕ → Option Runner) (r : Runner) → Kept single p q list aside owned seen applied runners → runners (after_all single p opening_copies list).processes ≡ Some r → ⊥
no_number single p q list aside owned seen applied runners r k here =
    let s = k.stands (after_all single p opening_copies list).processes r here in
    let a = s.there in
    let b = copies_most single p list r.place in
    absurd (omega (arith, a, b))

-- a fork is ordered: its process joins, at whichever member
pub forked_entry : (single : Test) (p : Performs) (q : Computes) (list : List Message) (aside : List Placed) (owned : List Single) (seen : List Message) (applied : ℕ → ℕ) (runners more : ℕ → Option Runner) (x : Message) (r : Runner) (born : Process) (member : ℕ)
    → runners x.process.0 ≡ Some r → r.message ≡ Some x → (In x seen → ⊥) → forked x.action ≡ born ∷ []
    → more (after_all single p opening_copies list).processes ≡ Some (newborn member born.text born.args (suc (length list)))
    → ((j : ℕ) → (j ≡ (after_all single p opening_copies list).processes → ⊥) → more j ≡ runners j)
    → Kept single p q list aside owned seen applied runners → Kept single p q (list ++ x ∷ []) aside owned (seen ++ x ∷ []) applied more
forked_entry single p q list aside owned seen applied runners more x r born member here asks new forks joins rest k =
    let h : Enters single p list owned seen runners x r = record { runner = here; out = asks; new = new; may = fork_may single owned x.action born forks } in
    let a = appended single p q list aside owned seen applied runners x r member h k in
    let same : owned ++ singles_by single p member (suc (length list)) x.action ≡ owned = ap (λ (ss : List Single). owned ++ ss) (fork_adds single p member (suc (length list)) x.action born forks) ∙ append-nil owned in
    with_runner single p q (list ++ x ∷ []) aside owned (seen ++ x ∷ []) applied runners more (after_all single p opening_copies list).processes (newborn member born.text born.args (suc (length list))) joins rest
    (λ z u. no_number single p q list aside owned seen applied runners z k u)
    (forked_stands single p q list aside owned seen applied runners x r born member h forks k)
    (subst (λ (ss : List Single). Kept single p q (list ++ x ∷ []) aside ss (seen ++ x ∷ []) applied runners) same a)
