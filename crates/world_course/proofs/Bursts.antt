-- A burst is a chain of reads.
use Rattle.std.proofs.Common.{◌≡◌, ◌≤◌, ◌+◌, ◌-◌, ℕ, ◌⊎◌, inl, inr, ⊎_elim, Bool, true, false, not, List, [], ◌∷◌, ◌++◌, Option, Some, None, refl, sym, ap, ◌∙◌, subst, arith, length, append_assoc, append-nil}
use Rattle.std.specs.Prelude.{IsTrue}
use Rattle.orca_base.specs.declared.ids.ObjectId.{ObjectId}
use Rattle.orca_base.specs.declared.ids.OpNo.{OpNo}
use Rattle.orca_base.specs.declared.ids.KindNo.{KindNo}
use Rattle.orca_base.specs.declared.ids.ProcessNo.{ProcessNo}
use Rattle.orca_base.specs.declared.ids.TextNo.{TextNo}
use Rattle.value_core.specs.Datum.{Data}
use Rattle.value_core.specs.Goes.{Goes}
use Rattle.value_core.specs.Meaning.{Performs, Computes}
use Rattle.value_core.specs.declared.action.Action.{Action}
use Rattle.value_core.specs.declared.action.Action.TheVariants as action
use Rattle.value_core.specs.declared.action.Class.{Class}
use Rattle.value_core.specs.declared.action.Class.TheVariants.{Reads as IsReads, Writes}
use Rattle.value_core.specs.declared.action.Instance.{Instance}
use Rattle.value_core.specs.declared.action.Line.{Line}
use Rattle.value_core.specs.declared.action.Reply.{Reply}
use Rattle.value_core.specs.declared.meaning.Doing.{Doing}
use Rattle.value_core.specs.declared.meaning.Doing.TheVariants as doing
use Rattle.value_core.specs.declared.meaning.Tried.{Tried}
use Rattle.value_core.specs.declared.meaning.Tried.TheVariants as tried
use Rattle.value_core.specs.declared.processor.Halt.{Halt}
use Rattle.value_core.specs.declared.processor.Halt.TheVariants as halt
use Rattle.value_core.specs.History.{Answers, Objects, most_turns, object_at}
use Rattle.guard_queue.specs.Settles.{guard_of, is_blocked, reply_of, tried_by, tried_on}
use Rattle.book_law.specs.Passes.{Test}
use Rattle.book_law.specs.Book.{copies_at}
use Rattle.book_law.specs.Course.{Came, Course, Next, reading}
use Rattle.book_law.specs.Course.Next.{Reads_at}
use Rattle.book_law.specs.Course.Came.{Then}
use Rattle.book_law.specs.Events.{Calls, In, IsRead, Reads, Runner, told}
use Rattle.book_law.specs.Fitness.{ArgsFit, Callable, CallsFit, IsAtCall, IsLineOf, StateFits}
use Rattle.book_law.specs.Performed.{placed}
use Rattle.book_law.proofs.Apart.{singles_apart}
use Rattle.book_law.proofs.Courses.{at_other, at_own}
use Rattle.world_rules.specs.Bursts.{Halts, Ran, if_reads, read_line, read_on, reads_on}
use Rattle.world_rules.specs.Frame.{Frame}
use Rattle.world_rules.specs.Played.{Played, at_action, halted}
use Rattle.world_course.specs.Chain.{Leads}
use Rattle.world_course.specs.Chain.Leads.{Stays, By}
use Rattle.world_course.specs.Processes.{IsAt, IsRunner, StageStands}
use Rattle.world_course.proofs.Changing.{OneProcess}

-- ---- what a process does once it isn't busy

-- what a process does next, once it isn't busy, stays
abbrev pub Settles : Computes → Type 0
Settles q =
    (text : TextNo) (number : ProcessNo) (args : Data) (replies : List Reply) (n k : ℕ) →
    (q.doing text number args replies n ≡ doing.Busy → ⊥) → q.doing text number args replies (n + k) ≡ q.doing text number args replies n

not_busy : (d : Doing) (act : Action) → d ≡ doing.At act → d ≡ doing.Busy → ⊥
not_busy d act at busy = let e : doing.At act ≡ doing.Busy = sym at ∙ busy in cc e

-- so where a computation halts at an action, that is its action after the most turns
at_most : (next : ℕ → Doing) → ((n k : ℕ) → (next n ≡ doing.Busy → ⊥) → next (n + k) ≡ next n) → (turns last used most : ℕ) (act : Action) → (last ≤ most) ⊎ (last ≤ turns) →
    Goes next (λ n. n ≡ used) turns (last - turns) (halt.At act) → next most ≡ doing.At act
at_most next stays turns last used most act (inr le) (u, from, to, reaches, is) = absurd (omega (arith, le, from, to))
at_most next stays turns last used most act (inl le) (u, from, to, reaches, is) =
    let e : u + 1 + (most - (u + 1)) ≡ most = omega (arith, le, from, to) in
    sym (ap next e) ∙ stays (u + 1) (most - (u + 1)) (not_busy (next (u + 1)) act reaches.0) ∙ reaches.0

pub is_at : (f : Frame) → Settles f.computes → (i : ProcessNo) (r : Played) (x : Runner) (last used : ℕ) (act : Action) → (last ≤ most_turns) ⊎ (last ≤ r.turns) →
    x.text ≡ r.text → x.args ≡ r.args → x.replies ≡ r.replies → Halts f i r last used (halt.At act) → f.computes.doing x.text i x.args x.replies most_turns ≡ doing.At act
is_at f stays i r x last used act le text args replies halts =
    ap (λ t. f.computes.doing t i x.args x.replies most_turns) text
    ∙ ap (λ a. f.computes.doing r.text i a x.replies most_turns) args
    ∙ ap (λ rs. f.computes.doing r.text i r.args rs most_turns) replies
    ∙ at_most (f.computes.doing r.text i r.args r.replies) (stays r.text i r.args r.replies) r.turns last used most_turns act le halts

-- ---- one read

-- a read that is answered is of a class and of an object that is there
pub record Answered (p : Performs) (objects : Objects) (kind : KindNo) (op : OpNo) (object : ObjectId) (args : Data) : Type 0 where
  pub class_is : p.class_of kind op ≡ IsReads
  pub kept : Instance
  pub there : object_at objects object ≡ Some kept
  pub line : IsTrue (not (is_blocked (p.tries kind op kept.state args)))

pub answered : (p : Performs) (objects : Objects) (kind : KindNo) (op : OpNo) (object : ObjectId) (args : Data) → IsTrue (not (is_blocked (read_on p objects (action.Call kind op object args)))) →
    Answered p objects kind op object args
answered p objects kind op object args = by_class (p.class_of kind op) refl
  where
    by_object : p.class_of kind op ≡ IsReads → (o : Option Instance) → object_at objects object ≡ o → IsTrue (not (is_blocked (tried_by p kind op args o))) → Answered p objects kind op object args
    by_object class_is None is h = absurd (cc h)
    by_object class_is (Some kept) is h = record { class_is = class_is; kept = kept; there = is; line = h }

    by_class : (c : Class) → p.class_of kind op ≡ c → IsTrue (not (is_blocked (if_reads c (tried_on p objects kind op object args)))) → Answered p objects kind op object args
    by_class IsReads is h = by_object is (object_at objects object) refl h
    by_class Writes is h = absurd (cc h)

-- what such a try answers is what its line says
answers : (t : Tried) → IsTrue (not (is_blocked t)) → Answers t (guard_of t) (reply_of t)
answers tried.Blocked h = absurd (cc h)
answers (tried.Did guard state reply) h = (refl, refl)
answers (tried.Broke guard fault) h = (refl, refl)

-- a single object isn't among the objects of the list
pub shared_if_there : (single : Test) (p : Performs) (q : Computes) (c : Course) (n : ℕ) (o : ObjectId) (kept : Instance) → Came single p q c → object_at (copies_at single p c.list n).objects o ≡ Some kept → single o ≡ false
shared_if_there single p q c n o kept came there = go (single o) refl
  where
    go : (b : Bool) → single o ≡ b → single o ≡ false
    go false is = is
    go true is =
        let a = singles_apart single p q c came in
        let e : Some kept ≡ None = sym there ∙ a.shared n o is in
        absurd (cc e)

-- a read that is answered on the copies after n entries is one of the course
pub reads_there : (single : Test) (p : Performs) (q : Computes) (fits_state : StateFits) (fits_args : ArgsFit) (c : Course) (i : ProcessNo) (r : Played) (x : Runner) (n : ℕ) (act : Action)
    → Came single p q c → Callable single p q fits_state fits_args c → c.runners i.0 ≡ Some x → x.message ≡ None → x.place ≤ n → n ≤ c.applied x.member → x.replies ≡ r.replies
    → q.doing x.text i x.args x.replies most_turns ≡ doing.At act → IsTrue (not (is_blocked (read_on p (copies_at single p c.list n).objects act)))
    → Reads single p q c.list c.applied i.0 x n (read_line i r act (read_on p (copies_at single p c.list n).objects act))
reads_there single p q fits_state fits_args c i r x n (action.Call kind op object args) came may here free after before replies next is =
    let objects : Objects = (copies_at single p c.list n).objects in
    let a = answered p objects kind op object args is in
    let shared = shared_if_there single p q c n object a.kept came a.there in
    let same : read_on p objects (action.Call kind op object args) ≡ p.tries kind op a.kept.state args =
    ap (λ z. if_reads z (tried_on p objects kind op object args)) a.class_is ∙ ap (tried_by p kind op args) a.there in
    let line : Line = read_line i r (action.Call kind op object args) (read_on p objects (action.Call kind op object args)) in
    let at : IsAtCall q c.runners i x n kind op object args = record { here = here; place = after; next = next } in
    let of : IsLineOf p (copies_at single p c.list n) kind op object args line = record {
      kept = a.kept;
      is = refl;
      there = a.there;
      answers = subst (λ (t : Tried). Answers (p.tries kind op a.kept.state args) (guard_of t) (reply_of t)) (sym same) (answers (p.tries kind op a.kept.state args) a.line);
    } in
    record {
      free = free;
      after = after;
      before = before;
      process = refl;
      call = ap length (sym replies);
      next = next;
      is_read = may.lines i x n kind op object args line at free shared a.class_is of;
    }
reads_there single p q fits_state fits_args c i r x n (action.Make kind object) came may here free after before replies next is = absurd (cc is)
reads_there single p q fits_state fits_args c i r x n (action.Fork text args place_on) came may here free after before replies next is = absurd (cc is)
reads_there single p q fits_state fits_args c i r x n action.Ended came may here free after before replies next is = absurd (cc is)
reads_there single p q fits_state fits_args c i r x n (action.Faulted fault) came may here free after before replies next is = absurd (cc is)

-- ---- a chain of reads

stage_at_action : (q : Computes) (j : ℕ) (x : Runner) (act : Action) → x.message ≡ None → IsAt q j x act → StageStands q j x (at_action act)
stage_at_action q j x (action.Make kind object) free is = (free, is)
stage_at_action q j x (action.Call kind op object args) free is = (free, is)
stage_at_action q j x (action.Fork text args place_on) free is = (free, is)
stage_at_action q j x action.Ended free is = (free, is)
stage_at_action q j x (action.Faulted fault) free is = (free, is)

-- where it halts
halts_so : (f : Frame) → Settles f.computes → (i : ProcessNo) (r : Played) (x : Runner) (last used : ℕ) (at_halt : Halt) → (last ≤ most_turns) ⊎ (last ≤ r.turns) → x.message ≡ None →
    x.text ≡ r.text → x.args ≡ r.args → x.replies ≡ r.replies → x.place ≡ r.place → Halts f i r last used at_halt → IsRunner f.computes i.0 (halted used at_halt r) x
halts_so f stays i r x last used (halt.At act) le free text args replies place halts = record {
  text = text;
  args = args;
  replies = replies;
  place = place;
  stage = stage_at_action f.computes i.0 x act free (is_at f stays i r x last used act le text args replies halts);
}
halts_so f stays i r x last used halt.Paused le free text args replies place halts = record { text = text; args = args; replies = replies; place = place; stage = free }

-- a read calls no single object
read_shared : (single : Test) (p : Performs) (objects : Objects) (line : Line) → IsRead single p objects line → (o : ObjectId) → Calls line.action o → single o ≡ false
read_shared single p objects line h o calls =
    let e : o ≡ h.object = subst (λ (a : Action). Calls a o) h.is calls in
    ap single e ∙ h.shared

-- the course after reads of process i, which then stands so
pub record RanTo (f : Frame) (single : Test) (c : Course) (came : Came single f.performs f.computes c) (i n member : ℕ) (lines : List Line) (end : Played) : Type 0 where
  pub course : Course
  pub leads : Leads single f.performs f.computes c course
  pub later : Came single f.performs f.computes course
  pub one : OneProcess f single c course came later i
  pub aside : course.aside ≡ c.aside ++ placed n lines
  pub asked : course.asked ≡ c.asked
  pub shared : (l : Line) (o : ObjectId) → In l lines → Calls l.action o → single o ≡ false
  pub runner : Runner
  pub runs : course.runners i ≡ Some runner
  pub home : runner.member ≡ member
  pub below : runner.place ≤ n
  pub is : IsRunner f.computes i end runner

-- the last turn stays where it is
further : (next : ℕ → Doing) (turns last used : ℕ) (act : Action) → (last ≤ most_turns) ⊎ (last ≤ turns) → Goes next (λ n. n ≡ used) turns (last - turns) (halt.At act) → (last ≤ most_turns) ⊎ (last ≤ used)
further next turns last used act (inl le) h = inl le
further next turns last used act (inr le) (u, from, to, reaches, is) = inr (omega (arith, le, from, is))

pub ran_to : (f : Frame) (single : Test) (fits_state : StateFits) (fits_args : ArgsFit) → Settles f.computes → CallsFit f.performs f.computes fits_state fits_args →
    (c : Course) (came : Came single f.performs f.computes c) (i : ProcessNo) (r : Played) (x : Runner) (n last : ℕ) (lines : List Line) (end : Played) → (last ≤ most_turns) ⊎ (last ≤ r.turns) → c.runners i.0 ≡ Some x →
    x.message ≡ None → x.place ≤ n → n ≤ c.applied x.member → x.text ≡ r.text → x.args ≡ r.args → x.replies ≡ r.replies → x.place ≡ r.place →
    Ran f (copies_at single f.performs c.list n).objects n i last r lines end → RanTo f single c came i.0 n x.member lines end
ran_to f single fits_state fits_args stays fits c came i r x n last [] end le here free after before text args replies place (at_halt, used, halts, ends, is) = record {
  course = c;
  leads = Stays c;
  later = came;
  one = record { list = refl; applied = λ m. refl; others = λ k apart. refl; copies = λ m. refl };
  aside = sym (append-nil c.aside);
  asked = refl;
  shared = λ l o among calls. absurd among;
  runner = x;
  runs = here;
  home = refl;
  below = after;
  is = subst (λ (z : Played). IsRunner f.computes i.0 z x) (sym is) (halts_so f stays i r x last used at_halt le free text args replies place halts);
}
ran_to f single fits_state fits_args stays fits c came i r x n last (line ∷ lines) end le here free after before text args replies place (act, used, halts, ans, is, rest) =
    let next = is_at f stays i r x last used act le text args replies halts in
    let asks : Reads single f.performs f.computes c.list c.applied i.0 x n line = subst (λ (l : Line). Reads single f.performs f.computes c.list c.applied i.0 x n l) (sym is)
    (reads_there single f.performs f.computes fits_state fits_args c i r x n act came (fits single c came) here free after before replies next ans) in
    let d : Course = reading c i.0 x n line in
    let step : Next single f.performs f.computes c d = Reads_at i.0 x n line here asks refl in
    let u = ran_to f single fits_state fits_args stays fits d (Then c d came step) i (reads_on n used line r) (told n line x) n last lines end (further (f.computes.doing r.text i r.args r.replies) r.turns last used act le halts) (at_own c.runners i.0 (Some (told n line x))) refl (omega arith) before
    text args (ap (λ (rs : List Reply). rs ++ line.reply ∷ []) replies) refl rest in
    record {
      course = u.course;
      leads = By c d u.course step u.leads;
      later = u.later;
      one = record {
        list = u.one.list;
        applied = u.one.applied;
        others = λ k apart. u.one.others k apart ∙ at_other c.runners i.0 (Some (told n line x)) k apart;
        copies = u.one.copies;
      };
      aside = u.aside ∙ append_assoc c.aside (record { place = n; line = line } ∷ []) (placed n lines);
      asked = u.asked;
      shared = λ l o among calls. ⊎_elim (λ (e : l ≡ line). read_shared single f.performs (copies_at single f.performs c.list n).objects line asks.is_read o (subst (λ (z : Line). Calls z.action o) e calls)) (λ more. u.shared l o more calls) among;
      runner = u.runner;
      runs = u.runs;
      home = u.home;
      below = u.below;
      is = u.is;
    }
