-- A process reads a replicated object at a place between its own and its member's: what is kept stays kept.
use Rattle.std.proofs.Common.{inl, inr, ◌≡◌, ℕ, ◌+◌, ◌≤◌, ◌<◌, ⊎_elim, true, false, Option, Some, None, List, [], ◌∷◌, ◌++◌, length, refl, sym, ap, ◌∙◌, arith, subst, append-nil}
use Rattle.std.specs.Prelude.{slice_get}
use Rattle.std.proofs.lemmas.Bool.{cases_eq, cases_lt}
use Rattle.std.proofs.lemmas.List.{length_push}
use Rattle.orca_base.specs.declared.ids.ObjectId.{ObjectId}
use Rattle.value_core.specs.declared.action.Line.{Line}
use Rattle.value_core.specs.declared.message.Message.{Message}
use Rattle.value_core.specs.declared.action.Reply.{Reply}
use Rattle.value_core.specs.declared.action.Action.{Action}
use Rattle.value_core.specs.Meaning.{Performs, Computes}
use Rattle.value_core.specs.History.{Configuration, IsStep, Process, after_line, after_lines, forked, object_at, objects_after, opening}
use Rattle.guard_queue.specs.declared.queue.Suspended.{Suspended}
use Rattle.object_manager.specs.After.{opening_copies}
use Rattle.book_law.specs.Passes.{Test, after_all}
use Rattle.book_law.specs.Book.{Placed, behind, book, copies_at, up_to}
use Rattle.book_law.specs.Singles.{Single, waiting, waits}
use Rattle.book_law.specs.Events.{Calls, In, IsRead, Makes, Reads, Runner, lines_by, replies_to, told}
use Rattle.book_law.proofs.Kept.{Kept, Owns, Stands, answer_at}
use Rattle.book_law.proofs.Kept.Stage.{Free}
use Rattle.book_law.proofs.Lists.{in_waits, lines_by-own, reads_by-other}
use Rattle.book_law.proofs.Processes.{after_length, after_lines-append, after_same}
use Rattle.book_law.proofs.Beside.{Beside}
use Rattle.book_law.proofs.Books.{behind_all, behind_in, by_none, copies_more, copies_most, cut, none_later, placed_there, quiet_behind}
use Rattle.book_law.proofs.Entries.{as_received}
use Rattle.book_law.proofs.Inserting.{Inserts, calls_no_make, calls_one, inserted_process, inserts_follows, inserts_known, inserts_legal, inserts_whole, next_same, through}
use Rattle.book_law.proofs.Objects.{agree, performed_on, same_id, spared}
use Rattle.book_law.proofs.Owned.{waits_at}
use Rattle.book_law.proofs.Stages.{not_both, stage_free}

-- a process that received all has no line behind a place from its own on
pub none_behind : (single : Test) (p : Performs) (q : Computes) (list : List Message) (aside : List Placed) (owned : List Single) (seen : List Message) (a j : ℕ) (x : Runner) (n : ℕ) → (s : Stands single p q list aside owned seen a j x) → x.answer ≡ None → s.awaited ≡ [] → x.place ≤ n → lines_by j (behind single p list aside n) ≡ []
none_behind single p q list aside owned seen a j x n s told none le = ⊎_elim
    (λ (lt : length list < n). ap (lines_by j) (behind_all single p list aside n (omega (arith, lt))))
    (λ (short : n ≤ length list). quiet_behind single p j list aside n short (none_later single p j list [] x.place n le (s.since ∙ none)) (λ k lt. s.quiet k (inl (omega (arith, le, lt))) ∙ ap (answer_at k) told))
    (cases_lt (length list) n)

-- and stands at each place from its own on as it stands now
pub at_place : (single : Test) (p : Performs) (q : Computes) (list : List Message) (aside : List Placed) (owned : List Single) (seen : List Message) (applied : ℕ → ℕ) (runners : ℕ → Option Runner) (j : ℕ) (x : Runner) (n : ℕ) → (s : Stands single p q list aside owned seen (applied x.member) j x) → x.answer ≡ None → s.awaited ≡ [] → x.place ≤ n → Kept single p q list aside owned seen applied runners
    → slice_get (after_lines p (opening q) (up_to single p list aside n)).processes j ≡ Some (record { text = x.text; args = x.args; replies = x.replies })
at_place single p q list aside owned seen applied runners j x n s told none le k =
    let before = up_to single p list aside n in
    let later = behind single p list aside n in
    let c = after_lines p (opening q) before in
    let f = k.follows n in
    let a = s.there in
    let b = copies_more single p list x.place n le in
    let e = f.processes in
    let t = through p c later j (omega (arith, a, b, e)) (none_behind single p q list aside owned seen (applied x.member) j x n s told none le) in
    sym t ∙ ap (λ (e : Configuration). slice_get e.processes j) (sym (after_lines-append p (opening q) before later) ∙ ap (after_lines p (opening q)) (sym (cut single p list aside n))) ∙ s.process ∙ ap (λ (y : Process). Some y) (as_received x s.awaited told none)

pub read : (single : Test) (p : Performs) (q : Computes) (list : List Message) (aside : List Placed) (owned : List Single) (seen : List Message) (applied : ℕ → ℕ) (runners more : ℕ → Option Runner) (j : ℕ) (x : Runner) (n : ℕ) (line : Line) → runners j ≡ Some x → Reads single p q list applied j x n line
    → more j ≡ Some (told n line x) → ((i : ℕ) → (i ≡ j → ⊥) → more i ≡ runners i)
    → Kept single p q list aside owned seen applied runners → Kept single p q list (aside ++ record { place = n; line = line } ∷ []) owned seen applied more
read single p q list aside owned seen applied runners more j x n line here h now rest k = record {
  legal = inserts_legal single p q list aside n (line ∷ []) but who inserts k.legal;
  follows = inserts_follows single p q list aside n (line ∷ []) but who inserts (λ o u. absurd u) k.follows;
  next = λ call inside.
      let w = in_waits call (after_all single p opening_copies list).queue inside in
      next_same q end new_end call (whole.others call.process.0 (λ (e : call.process.0 ≡ j). let f = ap (λ i. waiting i (after_all single p opening_copies list).queue) e in let g = idle.0 in omega (arith, w, f, g))) (k.next call inside);
  shared = k.shared;
  once = k.once;
  within = k.within;
  held = λ m lt. placed_there n m aside (line ∷ []) (λ (e : n ≡ m). absurd (let f = within in omega (arith, f, e))) ∙ k.held m lt;
  unborn = λ i m le. reads_by-other i m aside r (λ (e : line.process.0 ≡ i). absurd (let f = h.process in let a = s.there in let b = copies_most single p list x.place in omega (arith, e, f, a, b))) ∙ k.unborn i m le;
  listed = k.listed;
  counts = k.counts;
  distinct = k.distinct;
  known = inserts_known single p q list aside n (line ∷ []) but who owned inserts (λ o. inr (λ u. u)) (λ o m le u. absurd u) k.known;
  owns = owns;
  stands = λ i y there. ⊎_elim (own i y there) (other i y there) (cases_eq i j);
}
  where
    but : ObjectId → Type 0
    but o = ⊥

    who : ℕ → Type 0
    who i = i ≡ j

    r : Placed
    r = record { place = n; line = line }

    s : Stands single p q list aside owned seen (applied x.member) j x
    s = k.stands j x here

    idle : (waiting j (after_all single p opening_copies list).queue + waits j owned ≡ 0) × (s.awaited ≡ []) × (x.answer ≡ None)
    idle = stage_free seen x.message x.answer (waiting j (after_all single p opening_copies list).queue + waits j owned) s.awaited h.free s.stage

    within : n ≤ length list
    within = let a = h.before in let b = k.within x.member in omega (arith, a, b)

    c : Configuration
    c = after_lines p (opening q) (up_to single p list aside n)

    end : Configuration
    end = after_lines p (opening q) (book single p list aside)

    new_end : Configuration
    new_end = after_lines p (opening q) (book single p list (aside ++ r ∷ []))

    later : List Line
    later = behind single p list aside n

    -- nothing of the process comes behind
    none : lines_by j later ≡ []
    none = none_behind single p q list aside owned seen (applied x.member) j x n s idle.2 idle.1 h.after

    process : Process
    process = record { text = x.text; args = x.args; replies = x.replies }

    at : slice_get c.processes j ≡ Some process
    at = at_place single p q list aside owned seen applied runners j x n s idle.2 idle.1 h.after k

    reads_it : IsRead single p (copies_at single p list n).objects line
    reads_it = h.is_read

    calls : Calls line.action reads_it.object
    calls = subst (λ (a : Action). Calls a reads_it.object) (sym reads_it.is) refl

    same : object_at c.objects reads_it.object ≡ object_at (copies_at single p list n).objects reads_it.object
    same = let f = k.follows n in f.objects reads_it.object reads_it.shared

    step : IsStep p q c line
    step = record {
      process = process;
      exists = ap (slice_get c.processes) h.process ∙ at;
      call = h.call;
      next = h.next;
      performed = performed_on p (copies_at single p list n).objects c.objects line.action line.guard line.reply (λ o u. let e : o ≡ reads_it.object = calls_one line.action o reads_it.object u calls in ap (object_at (copies_at single p list n).objects) e ∙ sym same ∙ ap (object_at c.objects) (sym e)) reads_it.performed;
    }

    forks : forked line.action ≡ []
    forks = ap forked reads_it.is

    keeps : (o : ObjectId) → object_at (after_line p c line).objects o ≡ object_at c.objects o
    keeps o = ⊎_elim
        (λ (e : o ≡ reads_it.object). subst (λ (i : ObjectId). object_at (objects_after p c.objects line.action) i ≡ object_at c.objects i) (sym e) (agree p c.objects (copies_at single p list n).objects line.action reads_it.object same ∙ reads_it.keeps ∙ sym same))
        (λ apart. spared p c.objects line.action o (λ t. ⊎_elim (λ u. apart (calls_one line.action o reads_it.object u calls)) (λ u. calls_no_make line.action reads_it.object o calls u) t))
        (same_id o reads_it.object)

    inserts : Inserts single p q list aside n (line ∷ []) but who
    inserts = record {
      within = within;
      legal = (step, tt);
      beside = record {
        objects = λ o apart. keeps o;
        count = after_length p c line ∙ ap (λ (ps : List Process). length c.processes + length ps) forks ∙ (let e : length c.processes + 0 ≡ length c.processes = omega arith in e);
        others = λ i apart. after_same p c line i forks (λ (e : line.process.0 ≡ i). apart (sym e ∙ h.process));
      };
      away = λ l u. (by_none j l later none u, λ o v w. w);
    }

    whole : Beside but who (after_lines p (opening q) (book single p list aside)) (after_lines p (opening q) (book single p list (aside ++ r ∷ [])))
    whole = inserts_whole single p q list aside n (line ∷ []) but who inserts

    owns : (i : ℕ) (y : Single) → slice_get owned i ≡ Some y → Owns single p q list (aside ++ r ∷ []) more (applied y.owner) y
    owns i y there =
        let o = k.owns i y there in
        let waits_there : (call : Suspended) → In call y.queue → call.process.0 ≡ j → ⊥ = λ call u (e : call.process.0 ≡ j).
        (let w = in_waits call y.queue u in
        let at = waits_at call.process.0 owned i y there in
        let f : waits call.process.0 owned ≡ waits j owned = ap (λ m. waits m owned) e in
        let g = idle.0 in
        omega (arith, w, at, f, g)) in
        record {
          is = o.is;
          state = whole.objects y.object (λ u. u) ∙ o.state;
          next = λ call u. next_same q end new_end call (whole.others call.process.0 (waits_there call u)) (o.next call u);
          its = o.its;
          place = o.place;
          last = λ m after reached l u t. ⊎_elim (λ v. o.last m after reached l v t)
              (λ v. ⊎_elim (λ (e : l ≡ line).
              let clash : y.object ≡ reads_it.object → ⊥ = λ f. (let g : true ≡ false = sym o.is ∙ ap single f ∙ reads_it.shared in absurd (cc g)) in
              ⊎_elim (λ w. clash (calls_one line.action y.object reads_it.object (subst (λ (z : Line). Calls z.action y.object) e w) calls))
              (λ w. calls_no_make line.action reads_it.object y.object calls (subst (λ (z : Line). Makes z.action y.object) e w)) t)
              (λ w. w) v)
              (behind_in single p list aside n m (line ∷ []) l u);
          ready = λ call u. let z = o.ready call u in (z.0, rest call.process.0 (waits_there call u) ∙ z.1, z.2);
          unused = o.unused;
          listed = o.listed;
        }

    other : (i : ℕ) (y : Runner) → more i ≡ Some y → (i ≡ j → ⊥) → Stands single p q list (aside ++ r ∷ []) owned seen (applied y.member) i y
    other i y there apart =
        let t = k.stands i y (sym (rest i apart) ∙ there) in
        let away : line.process.0 ≡ i → ⊥ = λ (e : line.process.0 ≡ i). apart (sym e ∙ h.process) in
        record {
          awaited = t.awaited;
          process = whole.others i apart ∙ t.process;
          since = t.since;
          unseen = t.unseen;
          quiet = λ m lt. reads_by-other i m aside r away ∙ t.quiet m lt;
          answer = t.answer;
          there = t.there;
          early = t.early;
          asks = t.asks;
          earlier = t.earlier;
          stage = t.stage;
        }

    mine : lines_by j (line ∷ []) ≡ line ∷ []
    mine = lines_by-own j line [] h.process

    new : Stands single p q list (aside ++ r ∷ []) owned seen (applied x.member) j (told n line x)
    new = record {
      awaited = [];
      process = inserted_process single p q list aside n (line ∷ []) j process within at none
          ∙ ap (λ (ls : List Line). Some (record { text = x.text; args = x.args; replies = x.replies ++ replies_to ls })) mine
          ∙ ap (λ (rs : List Reply). Some (record { text = x.text; args = x.args; replies = rs })) (sym (append-nil (x.replies ++ line.reply ∷ [])) ∙ ap (λ (rs : List Reply). rs ++ []) (sym (append-nil (x.replies ++ line.reply ∷ []))));
      since = none_later single p j list [] x.place n h.after (s.since ∙ idle.1);
      unseen = s.unseen ∙ idle.1;
      quiet = λ m lt. ap (lines_by j) (placed_there n m aside (line ∷ []) (λ (e : n ≡ m). ⊎_elim (λ u. omega (arith, u, e)) (λ u. let f = h.before in omega (arith, u, e, f)) lt))
          ∙ s.quiet m (⊎_elim (λ u. let f = h.after in inl (omega (arith, u, f))) (λ u. inr u) lt) ∙ ap (answer_at m) idle.2;
      answer = tt;
      there = let a = s.there in let b = copies_more single p list x.place n h.after in omega (arith, a, b);
      early = within;
      asks = λ m e. absurd (cc e);
      earlier = λ z u f. let l = length_push x.replies line.reply in inl (⊎_elim (λ v. omega (arith, l, v)) (λ v. absurd (not_both x.message z h.free v)) (s.earlier z u f));
      stage = Free refl refl idle.0 refl;
    }

    own : (i : ℕ) (y : Runner) → more i ≡ Some y → i ≡ j → Stands single p q list (aside ++ r ∷ []) owned seen (applied y.member) i y
    own i y there is =
        let g : Some (told n line x) ≡ Some y = sym now ∙ ap more (sym is) ∙ there in
        let e : told n line x ≡ y = cc in
        subst (λ (z : Runner). Stands single p q list (aside ++ r ∷ []) owned seen (applied z.member) i z) e (subst (λ (m : ℕ). Stands single p q list (aside ++ r ∷ []) owned seen (applied x.member) m (told n line x)) (sym is) new)
