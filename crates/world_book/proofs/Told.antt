-- What is told of a replayed world: its replies, its copies, and what stands beside its list.
use Rattle.std.proofs.Common.{◌≡◌, ◌<◌, ◌≤◌, ◌++◌, ℕ, ◌⊎◌, if◌then◌else◌, inl, inr, Bool, true, false, leb, List, [], ◌∷◌, length, Option, None, Some, take, refl, sym, ap, ◌∙◌, arith, subst, ⊎_elim}
use Rattle.std.specs.Prelude.{slice_get}
use Rattle.orca_base.specs.declared.ids.ObjectId.{ObjectId}
use Rattle.value_core.specs.declared.action.Line.{Line}
use Rattle.value_core.specs.declared.action.Reply.{Reply}
use Rattle.value_core.specs.declared.message.Message.{Message}
use Rattle.value_core.specs.History.{Legal, object_at, objects_of, replies_of, Configuration, after_lines, opening}
use Rattle.object_manager.specs.After.{Copied, opening_copies}
use Rattle.book_law.specs.Book.{book, up_to, behind, copies_at}
use Rattle.book_law.specs.declared.placing.Placed.{Placed}
use Rattle.book_law.proofs.Kept.{Kept as KeptBook, Promised, Spares}
use Rattle.book_law.specs.Course.{Course}
use Rattle.book_law.specs.Events.{Runner, In}
use Rattle.book_law.specs.Members.{AreOfBook, Holds as MemberHolds, copies_of}
use Rattle.book_law.specs.Passes.{Test}
use Rattle.book_law.specs.Promise.{AtMostOneMore, arrived, IsInBook}
use Rattle.book_law.specs.Replicated.{all_replicated}
use Rattle.book_law.specs.Singles.{Single}
use Rattle.book_law.proofs.Courses.{came_sound, every_run, one_of}
use Rattle.book_law.proofs.Following.{members_follow}
use Rattle.book_law.proofs.Members.{members_hold}
use Rattle.book_law.proofs.Processes.{get_some, after_lines-append}
use Rattle.book_law.proofs.Received.{replies_received}
use Rattle.book_law.proofs.Replicated.{plain_all, plain_copies}
use Rattle.world_rules.specs.Frame.{Frame}
use Rattle.world_rules.specs.Played.{Played}
use Rattle.world_rules.specs.Processes.{home_or_first, owner_in, processes_in}
use Rattle.world_rules.specs.Worlds.{Book, World, agreed, processes_of, singles_in}
use Rattle.world_course.specs.Corresponds.{IsMember, Stands}
use Rattle.world_course.specs.Errands.{AsksFor, NodeStands}
use Rattle.world_course.specs.Processes.{IsRunner}
use Rattle.world_course.proofs.Listing.{runs_below}
use Rattle.world_book.specs.Promise.{HasCopies, IsKept, IsReceived, applied_book}
use Rattle.world_book.proofs.Answered.{answered_asks}
use Rattle.world_book.proofs.Submitting.{IsRun, run_of}
use Rattle.world_book.proofs.Running.{of_books}
use Rattle.std.proofs.lemmas.Bool.{cases_lt}
use Rattle.value_core.specs.Meaning.{Performs, Computes}
use Rattle.book_law.specs.Machines.{AllFit}
use Rattle.book_law.proofs.Books.{cut}
use Rattle.book_law.proofs.InBook.{all_in_book}
use Rattle.book_law.proofs.Objects.{spared_lines}
use Rattle.book_law.proofs.Replying.{in_aside}
use Rattle.world_rules.specs.Steps.{objects_after}
use Rattle.world_course.proofs.Begun.{views_same}
use Rattle.world_book.specs.Following.{HasCourse}
use Rattle.world_book.proofs.Kept.{Kept, Laws, book_kept, course_of, grouped_of, number_kept, stands_for, up_kept}

-- ---- replies

few_arrived : (n : ℕ) (o : Option Placed) → length (arrived n o) ≤ 1
few_arrived n None = omega arith
few_arrived n (Some r) = go (leb r.place n)
  where
    go : (b : Bool) → length (if b then r.line.reply ∷ [] else []) ≤ 1
    go true = omega arith
    go false = omega arith

replies_kept : (f : Frame) (w : World) (k : Kept f w) → (m i : ℕ) (r : Played) → (w.nodes m).played i ≡ Some r → IsReceived f w r (replies_of f.performs f.computes (applied_book f w m) i)
replies_kept f w k m i r here = record {
  more = arrived (c.applied one.runner.member) one.runner.answer;
  is = ap (λ (lines : List Line). replies_of f.performs f.computes lines i) (up_kept f w k h m)
      ∙ ap (λ (n : ℕ). replies_of f.performs f.computes (up_to (singles_in f w) f.performs c.list c.aside (c.applied n)) i) (sym one.member)
      ∙ replies_received (singles_in f w) f.performs f.computes c st.came i one.runner one.runs
      ∙ ap (λ (rs : List Reply). rs ++ arrived (c.applied one.runner.member) one.runner.answer) is.replies;
  few = few_arrived (c.applied one.runner.member) one.runner.answer;
  asks = go one.runner.answer refl;
}
  where
    h : HasCourse f (singles_in f w) w
    h = course_of f w k

    c : Course
    c = h.course

    st : Stands f (singles_in f w) w c
    st = stands_for f (singles_in f w) w h

    one : IsRun f c m i r
    one = run_of f (singles_in f w) w c m i r st here

    is : IsRunner f.computes i r one.runner
    is = one.is

    node : NodeStands f (singles_in f w) c m (w.nodes m)
    node = let g = h.follows in let e = g.errands in e.nodes m

    go : (o : Option Placed) → one.runner.answer ≡ o → (arrived (c.applied one.runner.member) one.runner.answer ≡ []) ⊎ ((o : ObjectId) × AsksFor r.stage o × (singles_in f w o ≡ true))
    go None none = inl (ap (arrived (c.applied one.runner.member)) none)
    go (Some a) some = inr (answered_asks f (singles_in f w) c st.came i one.runner r.stage a one.runs some is.stage (λ o waits. node.shares i r o here waits))

-- ---- copies

-- what no later line is about, the book left as early as this
left_early : (single : Test) (p : Performs) (q : Computes) (list : List Message) (aside : List Placed) (n : ℕ) (o : ObjectId) → Spares o (behind single p list aside n)
    → object_at (objects_of p q (up_to single p list aside n)) o ≡ object_at (objects_of p q (book single p list aside)) o
left_early single p q list aside n o spares =
    let early : List Line = up_to single p list aside n in
    let later : List Line = behind single p list aside n in
    sym (ap (λ (d : Configuration). object_at d.objects o) (ap (after_lines p (opening q)) (cut single p list aside n) ∙ after_lines-append p (opening q) early later)
    ∙ spared_lines p (after_lines p (opening q) early) later o spares)

-- the owner of a copy is its maker's member
owner_is : (f : Frame) (w : World) → Laws f → (h : HasCourse f (singles_in f w) w) → (i : ℕ) (x : Single) → slice_get h.course.owned i ≡ Some x → owner_in (processes_of f w) x.object ≡ x.owner
owner_is f w laws h i x there =
    let st = stands_for f (singles_in f w) w h in
    let c : Course = h.course in
    let fit : AllFit (singles_in f w) f.performs f.computes laws.fits_args laws.fits_text laws.fits_reply c = laws.fit (singles_in f w) c st.came in
    let r = fit.owners i x there in
    let b = get_some (processes_in f c.list) x.object.process (runs_below f (singles_in f w) c x.object.process r.0 st.came r.1) in
    let p = st.processes x.object.process b.0 b.1 in
    ap (λ (l : List Message). owner_in (processes_in f l) x.object) (sym h.list) ∙ ap home_or_first b.1
    ∙ sym p.member ∙ ap (λ (y : Runner). y.member) (one_of (c.runners x.object.process) p.runner r.0 p.runs r.1) ∙ r.2

-- without single objects the copies are the objects of the book up to what their member applied
whole_kept : (f : Frame) (w : World) (k : Kept f w) → (m : ℕ) → ((o : ObjectId) → singles_in f w o ≡ false) → (w.nodes m).copies.objects ≡ objects_of f.performs f.computes (applied_book f w m)
whole_kept f w k m none =
    ap (λ (z : Copied). z.objects) mem.copies ∙ ap (λ (z : Copied). z.objects) holds.shared
    ∙ ap (λ (z : Copied). z.objects) (plain_all f.performs opening_copies (take (c.applied m) c.list))
    ∙ sym (plain_copies f.performs f.computes c.list c.aside (c.applied m) (promised.copies (c.applied m)))
    ∙ ap (λ (lines : List Line). objects_of f.performs f.computes lines) (sym up)
  where
    same : singles_in f w ≡ all_replicated
    same = λ j o. none o j

    h : HasCourse f all_replicated w
    h = k.courses all_replicated (λ o lt. sym (none o))

    c : Course
    c = h.course

    st : Stands f all_replicated w c
    st = stands_for f all_replicated w h

    mem : IsMember f all_replicated c st.came m (w.nodes m)
    mem = st.members m

    holds : MemberHolds all_replicated f.performs c.list c.owned m (c.applied m) (copies_of all_replicated f.performs f.computes c st.came m)
    holds = members_hold all_replicated f.performs f.computes c st.came m

    promised : Promised all_replicated f.performs f.computes c.list c.aside c.owned c.applied c.runners
    promised = every_run all_replicated f.performs f.computes c st.came

    up : applied_book f w m ≡ up_to all_replicated f.performs c.list c.aside (c.applied m)
    up = ap (λ (single : Test). up_to single f.performs (agreed f w) w.aside (w.nodes m).member.applied) same
        ∙ ap (λ (l : List Message). up_to all_replicated f.performs l w.aside (w.nodes m).member.applied) (sym h.list)
        ∙ ap (λ (a : List Placed). up_to all_replicated f.performs c.list a (w.nodes m).member.applied) (sym st.beside)
        ∙ ap (λ (n : ℕ). up_to all_replicated f.performs c.list c.aside n) (number_kept f all_replicated w k h m)

copies_kept : (f : Frame) (w : World) → Laws f → (k : Kept f w) → (m : ℕ) → HasCopies f w m
copies_kept f w laws k m = record {
  replicated = λ o is. ap (λ (z : Copied). object_at z.objects o) mem.copies ∙ (follow.replicated o is).0
      ∙ ap (λ (lines : List Line). object_at (objects_of f.performs f.computes lines) o) (sym up);
  apart = λ o is. ap (λ (z : Copied). object_at z.objects o) mem.copies ∙ follow.others o is;
  own = λ o kept there.
      let at : object_at (copies_of (singles_in f w) f.performs f.computes c st.came m).own o ≡ Some kept = ap (λ (z : Copied). object_at z.own o) (sym mem.copies) ∙ there in
      let x = holds.only o kept at in
      let owns = sound.owns x.0 x.1 x.2 in
      record {
        single = ap (singles_in f w) (sym x.3) ∙ owns.is;
        owner = ap (owner_in (processes_of f w)) (sym x.3) ∙ owner_is f w laws h x.0 x.1 x.2 ∙ x.4.0;
        left = ap (λ (lines : List Line). object_at (objects_of f.performs f.computes lines) o) (book_kept f w h) ∙ follow.own o kept at;
        made = ap (object_at (objects_of f.performs f.computes (applied_book f w m))) (sym x.3)
            ∙ ap (λ (lines : List Line). object_at (objects_of f.performs f.computes lines) x.1.object) up
            ∙ left_early (singles_in f w) f.performs f.computes c.list c.aside (c.applied m) x.1.object (owns.last (c.applied m) x.4.1 (let e = ap c.applied x.4.0 in omega (arith, e)))
            ∙ ap (object_at (objects_of f.performs f.computes (book (singles_in f w) f.performs c.list c.aside))) x.3 ∙ follow.own o kept at;
      };
  owned = λ o was is owner there.
      let x = sound.known (c.applied m) o was is (ap (λ (lines : List Line). object_at (objects_of f.performs f.computes lines) o) (sym up) ∙ there) in
      let mine : x.1.owner ≡ m = sym (owner_is f w laws h x.0 x.1 x.2) ∙ ap (owner_in (processes_of f w)) x.3 ∙ owner in
      let keeps = holds.keeps x.0 x.1 x.2 (mine, x.4) in
      (x.1.kept, ap (λ (z : Copied). object_at z.own o) mem.copies ∙ ap (object_at (copies_of (singles_in f w) f.performs f.computes c st.came m).own) (sym x.3) ∙ keeps.state);
  whole = λ none. whole_kept f w k m none;
}
  where
    h : HasCourse f (singles_in f w) w
    h = course_of f w k

    c : Course
    c = h.course

    st : Stands f (singles_in f w) w c
    st = stands_for f (singles_in f w) w h

    mem : IsMember f (singles_in f w) c st.came m (w.nodes m)
    mem = st.members m

    follow : AreOfBook (singles_in f w) f.performs f.computes c m (copies_of (singles_in f w) f.performs f.computes c st.came m)
    follow = members_follow (singles_in f w) f.performs f.computes c st.came m

    holds : MemberHolds (singles_in f w) f.performs c.list c.owned m (c.applied m) (copies_of (singles_in f w) f.performs f.computes c st.came m)
    holds = members_hold (singles_in f w) f.performs f.computes c st.came m

    sound : KeptBook (singles_in f w) f.performs f.computes c.list c.aside c.owned c.entered c.applied c.runners
    sound = let s = came_sound (singles_in f w) f.performs f.computes c st.came in s.kept

    up : applied_book f w m ≡ up_to (singles_in f w) f.performs c.list c.aside (c.applied m)
    up = up_kept f w k h m

-- whole, but for what the member keeps alone
pub shared_kept : (f : Frame) (w : World) (k : Kept f w) (m : ℕ) → (w.nodes m).copies ≡ record (copies_at (singles_in f w) f.performs (agreed f w) (w.nodes m).member.applied) { own = (w.nodes m).copies.own; waits = (w.nodes m).copies.waits }
shared_kept f w k m =
    mem.copies ∙ holds.shared ∙ ap (λ (l : List Message). record (copies_at (singles_in f w) f.performs l (c.applied m)) { own = mine.own; waits = mine.waits }) h.list
    ∙ ap (λ (n : ℕ). record (copies_at (singles_in f w) f.performs (agreed f w) n) { own = mine.own; waits = mine.waits }) (sym (number_kept f (singles_in f w) w k h m))
    ∙ ap (λ (z : Copied). record (copies_at (singles_in f w) f.performs (agreed f w) (w.nodes m).member.applied) { own = z.own; waits = z.waits }) (sym mem.copies)
  where
    h : HasCourse f (singles_in f w) w
    h = course_of f w k

    c : Course
    c = h.course

    st : Stands f (singles_in f w) w c
    st = stands_for f (singles_in f w) w h

    mem : IsMember f (singles_in f w) c st.came m (w.nodes m)
    mem = st.members m

    mine : Copied
    mine = copies_of (singles_in f w) f.performs f.computes c st.came m

    holds : MemberHolds (singles_in f w) f.performs c.list c.owned m (c.applied m) mine
    holds = members_hold (singles_in f w) f.performs f.computes c st.came m

-- what a burst sees at a place that its member applied, by each test that agrees
pub viewed : (f : Frame) (single : Test) (w : World) → Laws f → Kept f w → HasCourse f single w → (m n : ℕ) → n ≤ (w.nodes m).member.applied →
    objects_after f (w.nodes m) n ≡ (copies_at single f.performs (agreed f w) n).objects
viewed f single w laws k h m n le =
    let st = stands_for f single w h in
    let grouped = grouped_of f w k in
    ap (λ (z : Copied). z.objects) (views_same f single w h.course laws.fits_args laws.fits_text laws.fits_reply st (laws.fit single h.course st.came) m n (subst (λ (a : ℕ). n ≤ a) (grouped.level m) le))
    ∙ ap (λ (l : List Message). (copies_at single f.performs l n).objects) h.list

view_kept : (f : Frame) (w : World) → Laws f → (k : Kept f w) (m : ℕ) → objects_after f (w.nodes m) (w.nodes m).copies.applied ≡ (w.nodes m).copies.objects
view_kept f w laws k m =
    let grouped = grouped_of f w k in
    ap (objects_after f (w.nodes m)) (sym (grouped.level m)) ∙ viewed f (singles_in f w) w laws k (course_of f w k) m (w.nodes m).member.applied (omega arith)
    ∙ sym (ap (λ (z : Copied). z.objects) (shared_kept f w k m))

-- ---- beside the list

beside_kept : (f : Frame) (w : World) (h : HasCourse f (singles_in f w) w) (r : Placed) → In r w.aside → (r.place ≤ length (agreed f w)) × In r.line (Book f w)
beside_kept f w h r is = (
  subst (λ (l : List Message). r.place ≤ length l) h.list (⊎_elim
      (λ (lt : length c.list < r.place). absurd (subst (λ (lines : List Line). In r.line lines) (sound.held r.place lt) (in_aside r c.aside among)))
      (λ le. le)
      (cases_lt (length c.list) r.place)),
  subst (λ (lines : List Line). In r.line lines) (sym (book_kept f w h)) (inside.beside r among),
)
  where
    c : Course
    c = h.course

    st : Stands f (singles_in f w) w c
    st = stands_for f (singles_in f w) w h

    among : In r c.aside
    among = subst (λ (a : List Placed). In r a) (sym st.beside) is

    inside : IsInBook (singles_in f w) f.performs c
    inside = all_in_book (singles_in f w) f.performs f.computes c st.came

    sound : KeptBook (singles_in f w) f.performs f.computes c.list c.aside c.owned c.entered c.applied c.runners
    sound = let s = came_sound (singles_in f w) f.performs f.computes c st.came in s.kept

-- ---- all of it

pub is_kept : (f : Frame) (w : World) → Laws f → Kept f w → IsKept f w
is_kept f w laws k =
    let h = course_of f w k in
    let st = stands_for f (singles_in f w) w h in
    let whole = book_kept f w h in
    let promised : Promised (singles_in f w) f.performs f.computes h.course.list h.course.aside h.course.owned h.course.applied h.course.runners = every_run (singles_in f w) f.performs f.computes h.course st.came in
    record {
      legal = subst (λ (lines : List Line). Legal f.performs f.computes lines) (sym whole) promised.legal;
      received = λ m i r here. replies_kept f w k m i r here;
      one_short = λ m i r here.
          let one : IsRun f h.course m i r = run_of f (singles_in f w) w h.course m i r st here in
          let is = one.is in
          subst (λ (lines : List Line). AtMostOneMore r.replies (replies_of f.performs f.computes lines i)) (sym whole)
          (subst (λ (had : List Reply). AtMostOneMore had (replies_of f.performs f.computes (book (singles_in f w) f.performs h.course.list h.course.aside) i)) is.replies
          (promised.replies i one.runner one.runs));
      processes = of_books f w k;
      copies = λ m. copies_kept f w laws k m;
      shared = λ m. shared_kept f w k m;
      views = λ m n le. viewed f (singles_in f w) w laws k h m n le;
      view = λ m. view_kept f w laws k m;
      beside = λ r is. beside_kept f w h r is;
    }
