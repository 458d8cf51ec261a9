-- The processes that run are those of the book, and what was ever submitted entered or is out.
use Rattle.std.proofs.Common.{◌≡◌, ℕ, suc, ◌+◌, ◌<◌, ⊎_elim, Option, Some, None, List, ◌++◌, length, refl, sym, ap, ◌∙◌, arith, subst, append_assoc}
use Rattle.std.specs.Prelude.{option_map}
use Rattle.std.proofs.lemmas.Bool.{cases_eq}
use Rattle.std.proofs.lemmas.List.{length-append, length-map}
use Rattle.value_core.specs.Datum as datum
use Rattle.value_core.specs.declared.action.Line.{Line}
use Rattle.value_core.specs.declared.message.Message.{Message}
use Rattle.value_core.specs.Meaning.{Performs, Computes}
use Rattle.value_core.specs.History.{Process}
use Rattle.object_manager.specs.After.{Copied, opening_copies}
use Rattle.book_law.specs.Passes.{Test, after_all, lines_after}
use Rattle.book_law.specs.Singles.{Single, lines_on, waiting, waits}
use Rattle.book_law.specs.Book.{Placed, book, copies_at}
use Rattle.book_law.specs.Course.{Came, Course, Next, with_at}
use Rattle.book_law.specs.Course.Next.{Submits, Orders, Forks, Applies, Reads_at, Takes_call, Hears_answer}
use Rattle.book_law.specs.Course.Came.{Opens, Then}
use Rattle.object_manager.specs.State.{message_of}
use Rattle.book_law.specs.Events.{In, Runner, answering, asking, handed, lines_by, newborn, replies_to, told}
use Rattle.book_law.specs.Promise.{AskedStands, IsProcess, ProcessesRun, UntakenOut}
use Rattle.book_law.proofs.Kept.{Stands, answer_lines, as_process}
use Rattle.book_law.proofs.Books.{copies_push}
use Rattle.book_law.proofs.Courses.{at_other, at_own, came_sound, pending}
use Rattle.book_law.proofs.Entries.{follows_all}
use Rattle.book_law.proofs.Resting.{all_taken}
use Rattle.book_law.proofs.Stages.{stage_few}

-- a process of the run against its book
is_process : (single : Test) (p : Performs) (q : Computes) (list : List Message) (aside : List Placed) (owned : List Single) (entered : List Message) (applied j : ℕ) (x : Runner) → Stands single p q list aside owned entered applied j x → IsProcess p q (book single p list aside) j x
is_process single p q list aside owned entered applied j x s =
    let few = stage_few entered x.message x.answer (waiting j (after_all single p opening_copies list).queue + waits j owned) s.awaited s.stage in
    let e = length-map s.awaited (λ (l : Line). l.reply) in
    let f = length-map (answer_lines x.answer) (λ (l : Line). l.reply) in
    let g = length-append (replies_to (answer_lines x.answer)) (replies_to s.awaited) in
    record {
      process = as_process x s.awaited;
      exists = s.process;
      text = refl;
      args = refl;
      replies = (replies_to (answer_lines x.answer) ++ replies_to s.awaited, append_assoc x.replies (replies_to (answer_lines x.answer)) (replies_to s.awaited), omega (arith, few, e, f, g));
      asks = s.asks;
    }

-- ---- each process runs

abbrev AllRun : ℕ → (ℕ → Option Runner) → Type 0
AllRun n runners = (j : ℕ) → j < n → (x : Runner) × (runners j ≡ Some x)

set_runs : (n : ℕ) (f : ℕ → Option Runner) (k : ℕ) (v : Runner) → AllRun n f → AllRun n (with_at f k (Some v))
set_runs n f k v all j lt = ⊎_elim
    (λ (e : j ≡ k). (v, ap (with_at f k (Some v)) e ∙ at_own f k (Some v)))
    (λ apart. let r = all j lt in (r.0, at_other f k (Some v) j apart ∙ r.1))
    (cases_eq j k)

new_runs : (n : ℕ) (f : ℕ → Option Runner) (v : Runner) → AllRun n f → AllRun (suc n) (with_at f n (Some v))
new_runs n f v all j lt = ⊎_elim
    (λ (e : j ≡ n). (v, ap (with_at f n (Some v)) e ∙ at_own f n (Some v)))
    (λ apart. let r = all j (omega (arith, lt, apart)) in (r.0, at_other f n (Some v) j apart ∙ r.1))
    (cases_eq j n)

map_runs : (n : ℕ) (f : ℕ → Option Runner) (g : ℕ → Runner → Runner) → AllRun n f → AllRun n (λ j. option_map (g j) (f j))
map_runs n f g all j lt = let r = all j lt in (g j r.0, ap (option_map (g j)) r.1)

abbrev Runs : Test → Performs → Course → Type 0
Runs single p w = AllRun (after_all single p opening_copies w.list).processes w.runners

next_runs : (single : Test) (p : Performs) (q : Computes) (w v : Course) → Next single p q w v → Runs single p w → Runs single p v
next_runs single p q w v (Submits j x m here free asks e) all =
    subst (λ (u : Course). Runs single p u) (sym e) (set_runs (after_all single p opening_copies w.list).processes w.runners j (asking m x) all)
next_runs single p q w v (Orders x r here was new may plain e) all = subst (λ (u : Course). Runs single p u) (sym e) (λ j lt.
    let grows = ap (λ (c : Copied). c.processes) (copies_push single p w.list x) in
    let none = ap (λ (ps : List Process). length ps) plain in
    all j (omega (arith, lt, grows, none)))
next_runs single p q w v (Forks x born member was new forks e) all = subst (λ (u : Course). Runs single p u) (sym e) (λ j lt.
    let n = (after_all single p opening_copies w.list).processes in
    let grows = ap (λ (c : Copied). c.processes) (copies_push single p w.list x) in
    let one = ap (λ (ps : List Process). length ps) forks in
    new_runs n w.runners (newborn member born.text born.args (suc (length w.list))) all j (omega (arith, lt, grows, one)))
next_runs single p q w v (Applies m y is e) all = subst (λ (u : Course). Runs single p u) (sym e)
    (map_runs (after_all single p opening_copies w.list).processes w.runners (λ j. handed m (suc (w.applied m)) (lines_after single p (copies_at single p w.list (w.applied m)) y) j) all)
next_runs single p q w v (Reads_at j x n line here h e) all =
    subst (λ (u : Course). Runs single p u) (sym e) (set_runs (after_all single p opening_copies w.list).processes w.runners j (told n line x) all)
next_runs single p q w v (Takes_call i x r call t e) all = subst (λ (u : Course). Runs single p u) (sym e)
    (map_runs (after_all single p opening_copies w.list).processes w.runners (λ j. answering (w.applied x.owner) (lines_by j (lines_on p x call))) all)
next_runs single p q w v (Hears_answer j x r here has le e) all =
    subst (λ (u : Course). Runs single p u) (sym e) (set_runs (after_all single p opening_copies w.list).processes w.runners j (told r.place r.line x) all)

all_run : (single : Test) (p : Performs) (q : Computes) (w : Course) → Came single p q w → Runs single p w
all_run single p q w (Opens member shared) = λ j lt. new_runs 0 (λ j. None) (newborn member q.main datum.none 0) (λ i less. absurd (omega (arith, less))) j lt
all_run single p q w (Then u v came next) = next_runs single p q u v next (all_run single p q u came)

pub processes_run : ProcessesRun
processes_run single p q w came =
    let sound = came_sound single p q w came in
    let k = sound.kept in
    record {
      each = λ j x here. is_process single p q w.list w.aside w.owned w.entered (w.applied x.member) j x (k.stands j x here);
      all = λ j lt.
          let f = follows_all single p q w.list w.aside w.owned w.entered w.applied w.runners k in
          let e = f.processes in
          all_run single p q w came j (omega (arith, lt, e));
    }

pub asked_stands : AskedStands
asked_stands single p q w came m h = let sound = came_sound single p q w came in sound.accounted m h

pub untaken_out : UntakenOut
untaken_out single p q w came call was is untaken =
    let sound = came_sound single p q w came in
    let new : In (message_of call) w.entered → ⊥ = λ h. untaken (all_taken single p q w came call h is) in
    let r = pending w.entered w.runners w.asked (message_of call) sound.accounted was new in
    (new, r.0, r.1, r.2)
