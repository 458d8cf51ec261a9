-- What a run draws from `Kept`: who is stuck at its end, bursts of reads, what it wrote.
use Rattle.std.proofs.Common.{◌≡◌, ℕ, suc, ◌≤◌, ◌<◌, ◌+◌, ◌⊎◌, inl, inr, ⊎_elim, false, Option, Some, None, List, [], ◌∷◌, ◌++◌, length, map, refl, sym, ap, ◌∙◌, arith, subst, append-nil, append_assoc}
use Rattle.std.proofs.lemmas.Bool.{cases_eq, cases_lt}
use Rattle.std.specs.Prelude.{slice_get}
use Rattle.orca_base.specs.declared.ids.KindNo.{KindNo}
use Rattle.orca_base.specs.declared.ids.OpNo.{OpNo}
use Rattle.orca_base.specs.declared.ids.ProcessNo.{ProcessNo}
use Rattle.orca_base.specs.declared.ids.ObjectId.{ObjectId}
use Rattle.value_core.specs.Datum.{Data}
use Rattle.value_core.specs.declared.action.Instance.{Instance}
use Rattle.value_core.specs.declared.action.Line.{Line}
use Rattle.value_core.specs.declared.message.Message.{Message}
use Rattle.value_core.specs.declared.action.Action.TheVariants as action
use Rattle.value_core.specs.declared.meaning.Doing.TheVariants as doing
use Rattle.value_core.specs.declared.meaning.Tried.TheVariants as tried
use Rattle.value_core.specs.Meaning.{Performs, Computes}
use Rattle.value_core.specs.History.{IsStuck, Process, most_turns, object_at, objects_of, output_by, output_of}
use Rattle.guard_queue.specs.declared.queue.Suspended.{Suspended}
use Rattle.object_manager.specs.After.{opening_copies}
use Rattle.book_law.specs.Passes.{Test, after_all, lines_after}
use Rattle.book_law.specs.Book.{Placed, behind, book, aside_at, up_to}
use Rattle.book_law.specs.Course.{with_at}
use Rattle.book_law.specs.Singles.{Single, waiting, waits}
use Rattle.book_law.specs.Events.{In, Reads, Runner, lines_by, told}
use Rattle.book_law.proofs.Kept.{Kept, Stage, Stands}
use Rattle.book_law.proofs.Kept.Stage.{Free, Sent, Waits, Ran, Told}
use Rattle.book_law.proofs.Books.{behind_all, book_here, book_push, cut}
use Rattle.book_law.proofs.Courses.{at_other, at_own}
use Rattle.book_law.proofs.Entries.{as_received, follows_all}
use Rattle.book_law.proofs.Reading.{read}
use Rattle.book_law.proofs.Stages.{not_both, stage_free}
use Rattle.book_law.proofs.Taking.{call_of}

-- ---- who is stuck

-- a suspended call that is blocked
pub stuck_call : (single : Test) (p : Performs) (q : Computes) (list : List Message) (aside : List Placed) (owned : List Single) (seen : List Message) (applied : ℕ → ℕ) (runners : ℕ → Option Runner) (call : Suspended) (kept : Instance) → Kept single p q list aside owned seen applied runners → In call (after_all single p opening_copies list).queue
    → object_at (after_all single p opening_copies list).objects call.object ≡ Some kept → p.tries call.kind call.op kept.state call.args ≡ tried.Blocked → IsStuck p q (book single p list aside) call.process
stuck_call single p q list aside owned seen applied runners call kept k there has blocked =
    let n = k.next call there in
    let f = follows_all single p q list aside owned seen applied runners k in
    record {
      process = n.process;
      kind = call.kind;
      op = call.op;
      object = call.object;
      args = call.args;
      kept = kept;
      exists = n.exists;
      waits = n.next;
      has = f.objects call.object (k.shared call there) ∙ has;
      blocked = blocked;
    }

-- a read that is blocked on the last copies
pub stuck_read : (single : Test) (p : Performs) (q : Computes) (list : List Message) (aside : List Placed) (owned : List Single) (seen : List Message) (applied : ℕ → ℕ) (runners : ℕ → Option Runner) (number : ProcessNo) (x : Runner) (kind : KindNo) (op : OpNo) (object : ObjectId) (args : Data) (kept : Instance) → Kept single p q list aside owned seen applied runners
    → runners number.0 ≡ Some x → x.message ≡ None → single object ≡ false → q.doing x.text number x.args x.replies most_turns ≡ doing.At (action.Call kind op object args)
    → object_at (after_all single p opening_copies list).objects object ≡ Some kept → p.tries kind op kept.state args ≡ tried.Blocked → IsStuck p q (book single p list aside) number
stuck_read single p q list aside owned seen applied runners number x kind op object args kept k here free shared next has blocked =
    let s = k.stands number.0 x here in
    let idle = stage_free seen x.message x.answer (waiting number.0 (after_all single p opening_copies list).queue + waits number.0 owned) s.awaited free s.stage in
    let f = follows_all single p q list aside owned seen applied runners k in
    record {
      process = record { text = x.text; args = x.args; replies = x.replies };
      kind = kind;
      op = op;
      object = object;
      args = args;
      kept = kept;
      exists = s.process ∙ ap (λ (y : Process). Some y) (as_received x s.awaited idle.2 idle.1);
      waits = next;
      has = f.objects object shared ∙ has;
      blocked = blocked;
    }

-- a call that is suspended on a single copy and blocked
pub stuck_single : (single : Test) (p : Performs) (q : Computes) (list : List Message) (aside : List Placed) (owned : List Single) (seen : List Message) (applied : ℕ → ℕ) (runners : ℕ → Option Runner) (i : ℕ) (x : Single) (call : Suspended) → Kept single p q list aside owned seen applied runners → slice_get owned i ≡ Some x → In call x.queue
    → p.tries call.kind call.op x.kept.state call.args ≡ tried.Blocked → IsStuck p q (book single p list aside) call.process
stuck_single single p q list aside owned seen applied runners i x call k is there blocked =
    let o = k.owns i x is in
    let n = o.next call there in
    record {
      process = n.process;
      kind = call.kind;
      op = call.op;
      object = call.object;
      args = call.args;
      kept = x.kept;
      exists = n.exists;
      waits = n.next;
      has = ap (object_at (objects_of p q (book single p list aside))) (o.its call there) ∙ o.state;
      blocked = blocked;
    }

-- a suspended call of a process, on a replicated object or on a single copy
abbrev pub IsHeld : List Suspended → List Single → ℕ → Type 0
IsHeld queue owned j = ((call : Suspended) × In call queue × (call.process.0 ≡ j)) ⊎ ((i : ℕ) × (x : Single) × (call : Suspended) × (slice_get owned i ≡ Some x) × In call x.queue × (call.process.0 ≡ j))

waits_on : (j : ℕ) (owned : List Single) → 1 ≤ waits j owned → (i : ℕ) × (x : Single) × (slice_get owned i ≡ Some x) × (1 ≤ waiting j x.queue)
waits_on j [] le = absurd (omega (arith, le))
waits_on j (x ∷ owned) le = ⊎_elim
    (λ (lt : 0 < waiting j x.queue). (0, x, refl, omega (arith, lt)))
    (λ (none : waiting j x.queue ≤ 0). let r = waits_on j owned (omega (arith, le, none)) in (suc r.0, r.1, r.2, r.3))
    (cases_lt 0 (waiting j x.queue))

-- where its member applied the whole list, a process whose message entered and that no answer is on the way to has a suspended call
pub suspended : (single : Test) (p : Performs) (q : Computes) (list : List Message) (aside : List Placed) (owned : List Single) (seen : List Message) (applied : ℕ → ℕ) (runners : ℕ → Option Runner) (j : ℕ) (x : Runner) (m : Message) → Kept single p q list aside owned seen applied runners → runners j ≡ Some x → x.message ≡ Some m → In m seen → x.answer ≡ None → length list ≤ applied x.member
    → IsHeld (after_all single p opening_copies list).queue owned j
suspended single p q list aside owned seen applied runners j x m k here asks there told whole = go s.stage
  where
    s : Stands single p q list aside owned seen (applied x.member) j x
    s = k.stands j x here

    none : s.awaited ≡ []
    none = sym s.unseen ∙ ap (lines_by j) (behind_all single p list [] (applied x.member) whole)

    queue : List Suspended
    queue = (after_all single p opening_copies list).queue

    held : waiting j queue + waits j owned ≡ 1 → IsHeld queue owned j
    held e = ⊎_elim
        (λ (lt : 0 < waiting j queue). inl (call_of j queue (omega (arith, lt))))
        (λ (no_one : waiting j queue ≤ 0).
        let w = waits_on j owned (omega (arith, e, no_one)) in
        let c = call_of j w.1.queue w.3 in
        inr (w.0, w.1, c.0, w.2, c.1, c.2))
        (cases_lt 0 (waiting j queue))

    go : Stage seen x.message x.answer (waiting j queue + waits j owned) s.awaited → IsHeld queue owned j
    go (Free e a w0 a0) = absurd (not_both x.message m e asks)
    go (Sent o e a out w0 a0) = absurd (let f : Some o ≡ Some m = sym e ∙ asks in let g : m ≡ o = cc in out (subst (λ (y : Message). In y seen) g there))
    go (Waits o e a h w1 a0) = held w1
    go (Ran o line e a h w0 a1) = absurd (let f : [] ≡ line ∷ [] = sym none ∙ a1 in cc f)
    go (Told o r e a h w0 a0) = absurd (not_both x.answer r told a)

-- ---- bursts

-- reads one after another, all at one place
abbrev pub ReadsAll : Test → Performs → Computes → List Message → (ℕ → ℕ) → ℕ → Runner → ℕ → List Line → Type 0
ReadsAll single p q list applied j x n [] = Unit {0}
ReadsAll single p q list applied j x n (line ∷ lines) = Reads single p q list applied j x n line × ReadsAll single p q list applied j (told n line x) n lines

abbrev pub told_all : ℕ → List Line → Runner → Runner
told_all n [] x = x
told_all n (line ∷ lines) x = told_all n lines (told n line x)

abbrev pub reads_of : ℕ → List Line → List Placed
reads_of n lines = map (λ (line : Line). record { place = n; line = line }) lines

-- Kept reads the processes by number alone
pub kept_same : (single : Test) (p : Performs) (q : Computes) (list : List Message) (aside : List Placed) (owned : List Single) (seen : List Message) (applied : ℕ → ℕ) (runners more : ℕ → Option Runner) → ((j : ℕ) → more j ≡ runners j) → Kept single p q list aside owned seen applied runners → Kept single p q list aside owned seen applied more
kept_same single p q list aside owned seen applied runners more same k = record {
  legal = k.legal;
  follows = k.follows;
  next = k.next;
  shared = k.shared;
  once = k.once;
  within = k.within;
  held = k.held;
  unborn = k.unborn;
  listed = k.listed;
  counts = k.counts;
  distinct = k.distinct;
  known = k.known;
  owns = λ i x is. let o = k.owns i x is in record {
    is = o.is;
    state = o.state;
    next = o.next;
    its = o.its;
    place = o.place;
    last = o.last;
    ready = λ call u. let r = o.ready call u in (r.0, same call.process.0 ∙ r.1, r.2);
    listed = o.listed;
    unused = o.unused;
  };
  stands = λ j x there. k.stands j x (sym (same j) ∙ there);
}

pub burst : (single : Test) (p : Performs) (q : Computes) (list : List Message) (aside : List Placed) (owned : List Single) (seen : List Message) (applied : ℕ → ℕ) (runners more : ℕ → Option Runner) (j : ℕ) (x : Runner) (n : ℕ) (lines : List Line) → runners j ≡ Some x → ReadsAll single p q list applied j x n lines
    → more j ≡ Some (told_all n lines x) → ((i : ℕ) → (i ≡ j → ⊥) → more i ≡ runners i) → Kept single p q list aside owned seen applied runners → Kept single p q list (aside ++ reads_of n lines) owned seen applied more
burst single p q list aside owned seen applied runners more j x n [] here all now rest k =
    subst (λ (rs : List Placed). Kept single p q list rs owned seen applied more) (sym (append-nil aside))
    (kept_same single p q list aside owned seen applied runners more (λ i. ⊎_elim (λ (e : i ≡ j). ap more e ∙ now ∙ sym here ∙ ap runners (sym e)) (λ apart. rest i apart) (cases_eq i j)) k)
burst single p q list aside owned seen applied runners more j x n (line ∷ lines) here all now rest k =
    let middle = with_at runners j (Some (told n line x)) in
    let one = read single p q list aside owned seen applied runners middle j x n line here all.0 (at_own runners j (Some (told n line x))) (at_other runners j (Some (told n line x))) k in
    subst (λ (rs : List Placed). Kept single p q list rs owned seen applied more) (append_assoc aside (record { place = n; line = line } ∷ []) (reads_of n lines))
    (burst single p q list (aside ++ record { place = n; line = line } ∷ []) owned seen applied middle more j (told n line x) n lines (at_own runners j (Some (told n line x))) all.1 now (λ i apart. rest i apart ∙ sym (at_other runners j (Some (told n line x)) i apart)) one)

-- ---- what the book writes

output-append : (xs ys : List Line) → output_of (xs ++ ys) ≡ output_of xs ++ output_of ys
output-append [] ys = refl
output-append (l ∷ xs) ys = ap (λ (cs : List ℕ). output_by l.action ++ cs) (output-append xs ys) ∙ sym (append_assoc (output_by l.action) (output_of xs) (output_of ys))

-- an entry writes behind what was written
pub output_push : (single : Test) (p : Performs) (list : List Message) (aside : List Placed) (x : Message) → ((n : ℕ) → length list < n → aside_at n aside ≡ []) → output_of (book single p (list ++ x ∷ []) aside) ≡ output_of (book single p list aside) ++ output_of (lines_after single p (after_all single p opening_copies list) x)
output_push single p list aside x none = ap output_of (book_push single p list aside x none) ∙ output-append (book single p list aside) (lines_after single p (after_all single p opening_copies list) x)

-- a read writes nothing
pub output_read : (single : Test) (p : Performs) (list : List Message) (aside : List Placed) (r : Placed) → r.place ≤ length list → output_by r.line.action ≡ [] → output_of (book single p list (aside ++ r ∷ [])) ≡ output_of (book single p list aside)
output_read single p list aside r le none =
    ap output_of (book_here single p list aside r r.place refl le) ∙ output-append (up_to single p list aside r.place) (r.line ∷ behind single p list aside r.place)
    ∙ ap (λ (cs : List ℕ). output_of (up_to single p list aside r.place) ++ (cs ++ output_of (behind single p list aside r.place))) none
    ∙ sym (output-append (up_to single p list aside r.place) (behind single p list aside r.place)) ∙ ap output_of (sym (cut single p list aside r.place))
