-- The processes of a replayed world are those of its book.
use Rattle.std.proofs.Common.{◌≡◌, ◌≤◌, ◌++◌, ◌+◌, ℕ, zero, suc, false, List, [], ◌∷◌, length, Option, Some, None, take, refl, sym, ap, ◌∙◌, arith, subst, append-nil}
use Rattle.std.specs.Prelude.{slice_get}
use Rattle.value_core.specs.History as history
use Rattle.value_core.specs.History.{Process}
use Rattle.value_core.specs.declared.action.Line.{Line}
use Rattle.value_core.specs.declared.action.Reply.{Reply}
use Rattle.value_core.specs.declared.message.Message.{Message}
use Rattle.object_manager.specs.After.{opening_copies}
use Rattle.book_law.specs.Book.{book}
use Rattle.book_law.specs.Course.{Course}
use Rattle.book_law.specs.Events.{Runner, replies_to}
use Rattle.book_law.specs.Passes.{after_all}
use Rattle.book_law.specs.Promise.{AtMostOneMore, AreProcesses}
use Rattle.book_law.specs.Promise as promise
use Rattle.book_law.specs.declared.placing.Placed.{Placed}
use Rattle.book_law.specs.Singles.{waiting, waits}
use Rattle.book_law.proofs.Courses.{came_sound}
use Rattle.book_law.proofs.Entries.{follows_all}
use Rattle.book_law.proofs.Kept.{Kept as KeptBook, Stands as RunnerStands, answer_lines, as_process}
use Rattle.book_law.proofs.Running.{processes_run}
use Rattle.book_law.proofs.Stages.{stage_free}
use Rattle.world_rules.specs.Frame.{Frame}
use Rattle.world_rules.specs.Nodes.{known}
use Rattle.world_rules.specs.Played.{Played, Stage}
use Rattle.world_rules.specs.Played.Stage.{Computing, Acting, Submitted, Reading, Asking, Over}
use Rattle.world_rules.specs.Processes.{Begun, home_or_first, processes_in}
use Rattle.world_rules.specs.Worlds.{World, processes_of, singles_in}
use Rattle.world_course.specs.Corresponds.{IsMember, Stands}
use Rattle.world_course.specs.Processes.{IsProcess, IsRunner, StageStands, StandsHere}
use Rattle.world_course.proofs.Begun.{whole_same}
use Rattle.world_course.proofs.Listing.{count_in, got_less}
use Rattle.world_book.specs.Following.{HasCourse}
use Rattle.world_book.specs.Processes.{AreOfBook, IsKnownAs, IsOfBook, has_out}
use Rattle.world_book.proofs.Kept.{Kept, book_kept, course_of, stands_for}
use Rattle.world_book.proofs.Texts.{texts_stand, within_places}

taken : {A : Type 0} (n : ℕ) (xs : List A) → length (take n xs) ≤ n
taken zero xs = omega arith
taken (suc n) [] = omega arith
taken (suc n) (x ∷ xs) = let le = taken n xs in omega (arith, le)

-- who has nothing out has no message in the course
free_stage : (f : Frame) (j : ℕ) (x : Runner) (stage : Stage) → StageStands f.computes j x stage → has_out stage ≡ false → x.message ≡ None
free_stage f j x Computing stands none = stands
free_stage f j x (Acting act) stands none = stands.0
free_stage f j x (Submitted act) stands none = absurd (cc none)
free_stage f j x (Reading act) stands none = stands.0
free_stage f j x (Asking act) stands none = absurd (cc none)
free_stage f j x (Over act) stands none = stands.0

abbrev Runs : (f : Frame) (w : World) → Course → ℕ → Runner → Type 0
Runs f w c j x = RunnerStands (singles_in f w) f.performs f.computes c.list c.aside c.owned c.entered (c.applied x.member) j x

-- it has all the replies that the book has for it
all_heard : (f : Frame) (w : World) (c : Course) (j : ℕ) (x : Runner) (s : Runs f w c j x) → x.message ≡ None → (as_process x s.awaited).replies ≡ x.replies
all_heard f w c j x s free =
    let u = stage_free c.entered x.message x.answer (waiting j (after_all (singles_in f w) f.performs opening_copies c.list).queue + waits j c.owned) s.awaited free s.stage in
    ap (λ (lines : List Line). (x.replies ++ replies_to (answer_lines x.answer)) ++ replies_to lines) u.1
    ∙ ap (λ (a : Option Placed). (x.replies ++ replies_to (answer_lines a)) ++ []) u.2
    ∙ append-nil (x.replies ++ []) ∙ append-nil x.replies

-- one process
of_book : (f : Frame) (w : World) (k : Kept f w) (i : ℕ) (b : Begun) → slice_get (processes_of f w) i ≡ Some b → IsOfBook f w i b
of_book f w k i b is = record {
  process = as_process x s.awaited;
  exists = ap (λ (lines : List Line). slice_get (history.processes_of f.performs f.computes lines) i) (book_kept f w h) ∙ s.process;
  text = texts.0;
  args = texts.1;
  here = subst (λ (m : ℕ). IsKnownAs (as_process x s.awaited) ((w.nodes m).played i)) (sym (ap home_or_first is)) (at_home ((w.nodes b.home).played i) one.stands);
}
  where
    h : HasCourse f (singles_in f w) w
    h = course_of f w k

    c : Course
    c = h.course

    st : Stands f (singles_in f w) w c
    st = stands_for f (singles_in f w) w h

    there : slice_get (processes_in f c.list) i ≡ Some b
    there = ap (λ (l : List Message). slice_get (processes_in f l) i) h.list ∙ is

    one : IsProcess f.computes i b (c.runners i) (w.nodes b.home)
    one = st.processes i b there

    x : Runner
    x = one.runner

    sound : KeptBook (singles_in f w) f.performs f.computes c.list c.aside c.owned c.entered c.applied c.runners
    sound = let u = came_sound (singles_in f w) f.performs f.computes c st.came in u.kept

    s : Runs f w c i x
    s = sound.stands i x one.runs

    texts : (x.text ≡ b.text) × (x.args ≡ b.args)
    texts = texts_stand f (singles_in f w) c st.came i b x there one.runs

    more : AtMostOneMore x.replies (as_process x s.awaited).replies
    more =
        let run : AreProcesses f.performs f.computes (book (singles_in f w) f.performs c.list c.aside) c.runners = processes_run (singles_in f w) f.performs f.computes c st.came in
        let p = run.each i x one.runs in
        let e : Some p.process ≡ Some (as_process x s.awaited) = sym p.exists ∙ s.process in
        let g : p.process ≡ as_process x s.awaited = cc in
        subst (λ (z : Process). AtMostOneMore x.replies z.replies) g p.replies

    at_home : (o : Option Played) → StandsHere f.computes i b x (w.nodes b.home).copies.applied o → IsKnownAs (as_process x s.awaited) o
    at_home None stands =
        all_heard f w c i x s (ap (λ (z : Runner). z.message) stands.1) ∙ ap (λ (z : Runner). z.replies) stands.1
    at_home (Some r) stands =
        let runner : IsRunner f.computes i r x = stands.2 in
        record {
          text = sym runner.text;
          args = sym runner.args;
          replies = subst (λ (had : List Reply). AtMostOneMore had (as_process x s.awaited).replies) runner.replies more;
          whole = λ none. all_heard f w c i x s (free_stage f i x r.stage runner.stage none) ∙ runner.replies;
        }

pub of_books : (f : Frame) (w : World) → Kept f w → AreOfBook f w
of_books f w k = record {
  count = ap (λ (lines : List Line). length (history.processes_of f.performs f.computes lines)) (book_kept f w h)
      ∙ follows.processes ∙ sym (count_in f (singles_in f w) f.performs c.list) ∙ ap (λ (l : List Message). length (processes_in f l)) h.list;
  each = λ i b is. of_book f w k i b is;
  begun = λ m i b is home. began m i b is home ((w.nodes m).played i) refl;
}
  where
    h : HasCourse f (singles_in f w) w
    h = course_of f w k

    c : Course
    c = h.course

    st : Stands f (singles_in f w) w c
    st = stands_for f (singles_in f w) w h

    sound : KeptBook (singles_in f w) f.performs f.computes c.list c.aside c.owned c.entered c.applied c.runners
    sound = let u = came_sound (singles_in f w) f.performs f.computes c st.came in u.kept

    follows : promise.Follows (singles_in f w) f.performs f.computes (book (singles_in f w) f.performs c.list c.aside) (after_all (singles_in f w) f.performs opening_copies c.list)
    follows = follows_all (singles_in f w) f.performs f.computes c.list c.aside c.owned c.entered c.applied c.runners sound

    began : (m i : ℕ) (b : Begun) → slice_get (known f (w.nodes m)) i ≡ Some b → b.home ≡ m → (o : Option Played) → (w.nodes m).played i ≡ o → (r : Played) × (o ≡ Some r)
    began m i b is home (Some r) here = (r, refl)
    began m i b is home None here =
        let mem : IsMember f (singles_in f w) c st.came m (w.nodes m) = st.members m in
        let n : ℕ = (w.nodes m).copies.applied in
        let early : slice_get (processes_in f (take n c.list)) i ≡ Some b = ap (λ (l : List Message). slice_get (processes_in f l) i) (sym mem.entries) ∙ is in
        let there : slice_get (processes_in f c.list) i ≡ Some b = whole_same f c.list n i (got_less (processes_in f (take n c.list)) i b early) ∙ early in
        let p = st.processes i b there in
        let stands : StandsHere f.computes i b p.runner n ((w.nodes m).played i) =
        subst (λ (j : ℕ). StandsHere f.computes i b p.runner (w.nodes j).copies.applied ((w.nodes j).played i)) home p.stands in
        let not_yet : StandsHere f.computes i b p.runner n None = subst (λ (o : Option Played). StandsHere f.computes i b p.runner n o) here stands in
        let low = within_places f (take n c.list) i b early in
        let late = not_yet.0 in
        let few : length (take n c.list) ≤ n = taken n c.list in
        absurd (omega (arith, low, late, few))
