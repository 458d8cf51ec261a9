-- What a burst asks of the view of its member's copies: wherever it comes by reads, a course comes to, in which they are read.
use Rattle.std.proofs.Common.{◌≡◌, ◌≤◌, ◌<◌, ◌+◌, ◌-◌, min, ℕ, List, [], ◌∷◌, ◌++◌, Option, Some, None, inl, refl, sym, ap, ◌∙◌, subst, arith}
use Rattle.std.specs.Prelude.{IsTrue, is_some, not}
use Rattle.orca_base.specs.declared.limits.TheConstants.{BURST_TURNS}
use Rattle.orca_base.specs.declared.ids.KindNo.{KindNo}
use Rattle.orca_base.specs.declared.ids.OpNo.{OpNo}
use Rattle.orca_base.specs.declared.ids.ObjectId.{ObjectId}
use Rattle.orca_base.specs.declared.ids.ProcessNo.{ProcessNo}
use Rattle.value_core.specs.Datum.{Data}
use Rattle.value_core.specs.History.{Objects, most_turns, object_at}
use Rattle.value_core.specs.declared.action.Action.TheVariants as action
use Rattle.value_core.specs.declared.action.Instance.{Instance}
use Rattle.value_core.specs.declared.action.Line.{Line}
use Rattle.value_core.specs.declared.action.Reply.{Reply}
use Rattle.value_core.specs.declared.processor.Halt.TheVariants as halt
use Rattle.guard_queue.specs.Settles.{is_blocked}
use Rattle.object_manager.specs.Viewed.{ReadFits, Viewed}
use Rattle.book_law.specs.Book.{copies_at}
use Rattle.book_law.specs.Course.{Came, Course, reading}
use Rattle.book_law.specs.Course.Came.{Then}
use Rattle.book_law.specs.Course.Next.{Reads_at}
use Rattle.book_law.specs.Events.{Reads, Runner, told}
use Rattle.book_law.specs.Fitness.{IsAtCall}
use Rattle.book_law.specs.Passes.{Test}
use Rattle.book_law.proofs.Courses.{at_own}
use Rattle.world_rules.specs.Bursts.{Halts, last_turn, read_line, read_on}
use Rattle.world_rules.specs.Frame.{Frame}
use Rattle.world_rules.specs.Played.{Played}
use Rattle.world_rules.specs.Played.Stage.{Computing}
use Rattle.world_rules.specs.Worlds.{World}
use Rattle.world_course.specs.Corresponds.{IsMember, Stands}
use Rattle.world_course.specs.Processes.{StageStands}
use Rattle.world_course.proofs.Bursts.{is_at, reads_there, shared_if_there}
use Rattle.world_course.proofs.Lifting.{Starts, starts}
use Rattle.world_course.proofs.Program.{Program, callable}
use Rattle.world_course.proofs.Tries.{objects_here}
use Rattle.node_rules.specs.Bursting.{BurstFits, IsNextRead, ReadsOn}
use Rattle.node_rules.specs.Conditions.{Fitness}
use Rattle.world_calls.specs.Law.{view_of}

-- process i of a course, which computes on these objects, those after so many entries, is this one
record Runs (f : Frame) (single : Test) (i : ProcessNo) (view : Viewed) (r : Played) : Type 0 where
  course : Course
  came : Came single f.performs f.computes course
  runner : Runner
  runs : course.runners i.0 ≡ Some runner
  free : runner.message ≡ None
  after : runner.place ≤ view.place
  before : view.place ≤ course.applied runner.member
  objects : view.objects ≡ (copies_at single f.performs course.list view.place).objects
  text : runner.text ≡ r.text
  args : runner.args ≡ r.args
  replies : runner.replies ≡ r.replies

-- a read leads on
reads_one : (f : Frame) (fitness : Fitness) (single : Test) (i : ProcessNo) (view : Viewed) (last : ℕ) (r u : Played) → Program f fitness.state fitness.args fitness.text fitness.reply → last ≤ most_turns → Runs f single i view r
    → IsNextRead f i view last r u → Runs f single i view u
reads_one f fitness single i view last r u program le h one = subst (Runs f single i view) (sym one.is) (record {
  course = d;
  came = Then c d h.came (Reads_at i.0 x n line h.runs asks refl);
  runner = told n line x;
  runs = at_own c.runners i.0 (Some (told n line x));
  free = refl;
  after = omega arith;
  before = h.before;
  objects = h.objects;
  text = h.text;
  args = h.args;
  replies = ap (λ (rs : List Reply). rs ++ line.reply ∷ []) h.replies;
})
  where
    c : Course
    c = h.course

    x : Runner
    x = h.runner

    n : ℕ
    n = view.place

    line : Line
    line = read_line i r one.act (read_on f.performs view.objects one.act)

    d : Course
    d = reading c i.0 x n line

    asks : Reads single f.performs f.computes c.list c.applied i.0 x n line
    asks = subst (λ (o : Objects). Reads single f.performs f.computes c.list c.applied i.0 x n (read_line i r one.act (read_on f.performs o one.act))) (sym h.objects)
        (reads_there single f.performs f.computes fitness.state fitness.args c i r x n one.act h.came (callable f fitness.state fitness.args fitness.text fitness.reply program single c h.came)
        h.runs h.free h.after h.before h.replies (is_at f program.settles i r x last one.used one.act (inl le) h.text h.args h.replies one.halts)
        (subst (λ (o : Objects). IsTrue (not (is_blocked (read_on f.performs o one.act)))) h.objects one.answered))

reads_all : (f : Frame) (fitness : Fitness) (single : Test) (i : ProcessNo) (view : Viewed) (last : ℕ) (r u : Played) → Program f fitness.state fitness.args fitness.text fitness.reply → last ≤ most_turns → Runs f single i view r
    → ReadsOn f i view last r u → Runs f single i view u
reads_all f fitness single i view last r u program le h (ReadsOn.Stays z) = h
reads_all f fitness single i view last r u program le h (ReadsOn.Then a b z one rest) = reads_all f fitness single i view last b u program le (reads_one f fitness single i view last a b program le h one) rest

-- a read of what is there may be tried
read_fits : (f : Frame) (fitness : Fitness) (single : Test) (i : ProcessNo) (view : Viewed) (last used : ℕ) (u : Played) (kind : KindNo) (op : OpNo) (object : ObjectId) (given : Data)
    → Program f fitness.state fitness.args fitness.text fitness.reply → last ≤ most_turns → Runs f single i view u → Halts f i u last used (halt.At (action.Call kind op object given))
    → IsTrue (is_some (object_at view.objects object)) → ReadFits fitness.state fitness.args view.objects kind op object given
read_fits f fitness single i view last used u kind op object given program le h halts there = go (object_at view.objects object) refl there
  where
    go : (o : Option Instance) → object_at view.objects object ≡ o → IsTrue (is_some o) → ReadFits fitness.state fitness.args view.objects kind op object given
    go None is some = absurd (cc some)
    go (Some kept) is some =
        let may = callable f fitness.state fitness.args fitness.text fitness.reply program single h.course h.came in
        let at : IsAtCall f.computes h.course.runners i h.runner view.place kind op object given = record {
          here = h.runs;
          place = h.after;
          next = is_at f program.settles i u h.runner last used (action.Call kind op object given) (inl le) h.text h.args h.replies halts;
        } in
        let shared = shared_if_there single f.performs f.computes h.course view.place object kept h.came (ap (λ (o : Objects). object_at o object) (sym h.objects) ∙ is) in
        subst (λ (o : Objects). ReadFits fitness.state fitness.args o kind op object given) (sym h.objects)
        (may.reads i h.runner view.place kind op object given at h.free shared)

some_left : (turns most : ℕ) → turns < most → turns < turns + min BURST_TURNS (most - turns)
some_left turns most lt = omega (arith, lt)

no_more : (turns most : ℕ) → turns < most → turns + min BURST_TURNS (most - turns) ≤ most
no_more turns most lt = omega (arith, lt)

-- on whichever place from the process's own on, up to what its member applied
pub burst_fits_on : (f : Frame) (fitness : Fitness) (single : Test) (w : World) (c : Course) (m : ℕ) (i : ProcessNo) (view : Viewed) (r : Played) → Program f fitness.state fitness.args fitness.text fitness.reply → Stands f single w c
    → (w.nodes m).played i.0 ≡ Some r → r.stage ≡ Computing → r.turns < f.settings.turns → r.place ≤ view.place → view.place ≤ (w.nodes m).copies.applied → view.objects ≡ (copies_at single f.performs c.list view.place).objects
    → BurstFits f fitness i view r
burst_fits_on f fitness single w c m i view r program h here computes some after before seen = record {
  computing = computes;
  place = after;
  some = some_left r.turns f.settings.turns some;
  turns = few;
  reads = λ u on used kind op object given halts there class.
      read_fits f fitness single i view (last_turn f r) used u kind op object given program few
      (reads_all f fitness single i view (last_turn f r) r u program few start on) halts there;
}
  where
    s : Starts f single w c i.0 m r
    s = starts f single w c i.0 m r h here

    mine : IsMember f single c h.came m (w.nodes m)
    mine = h.members m

    few : last_turn f r ≤ most_turns
    few = let set = program.settings in let le = set.turns in let most = no_more r.turns f.settings.turns some in omega (arith, le, most)

    start : Runs f single i view r
    start = record {
      course = c;
      came = h.came;
      runner = s.process.runner;
      runs = s.process.runs;
      free = subst (StageStands f.computes i.0 s.process.runner) computes s.is.stage;
      after = let e = s.is.place in omega (arith, after, e);
      before = let e : c.applied s.process.runner.member ≡ (w.nodes m).copies.applied = ap c.applied (s.process.member ∙ s.of.home) ∙ mine.applied in omega (arith, before, e);
      objects = seen;
      text = s.is.text;
      args = s.is.args;
      replies = s.is.replies;
    }

pub burst_fits : (f : Frame) (fitness : Fitness) (single : Test) (w : World) (c : Course) (m : ℕ) (i : ProcessNo) (r : Played) → Program f fitness.state fitness.args fitness.text fitness.reply → Stands f single w c
    → (w.nodes m).played i.0 ≡ Some r → r.stage ≡ Computing → r.turns < f.settings.turns → BurstFits f fitness i (view_of (w.nodes m)) r
burst_fits f fitness single w c m i r program h here computes some =
    let s = starts f single w c i.0 m r h here in
    burst_fits_on f fitness single w c m i (view_of (w.nodes m)) r program h here computes some s.reaches (omega arith)
    (objects_here f single c h.came m (w.nodes m) (h.members m))
