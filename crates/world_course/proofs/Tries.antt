-- A read that waits at its member is tried: where it is performed the course reads.
use Rattle.std.proofs.Common.{◌≡◌, ◌≤◌, ℕ, zero, suc, Bool, true, false, not, List, [], ◌∷◌, ◌++◌, Option, Some, None, refl, sym, ap, ◌∙◌, subst, arith, append_assoc, if◌then◌else◌}
use Rattle.std.specs.Prelude.{IsTrue}
use Rattle.orca_base.specs.declared.ids.ProcessNo.{ProcessNo}
use Rattle.value_core.specs.declared.action.Action.{Action}
use Rattle.value_core.specs.declared.action.Line.{Line}
use Rattle.value_core.specs.declared.action.Reply.{Reply}
use Rattle.value_core.specs.declared.meaning.Tried.{Tried}
use Rattle.value_core.specs.History.{Objects}
use Rattle.guard_queue.specs.Settles.{is_blocked}
use Rattle.object_manager.specs.After.{Copied}
use Rattle.book_law.specs.Passes.{Test}
use Rattle.book_law.specs.Book.{copies_at}
use Rattle.book_law.specs.declared.placing.Placed.{Placed}
use Rattle.book_law.specs.Course.{Came, Course, Next, reading}
use Rattle.book_law.specs.Course.Next.{Reads_at}
use Rattle.book_law.specs.Course.Came.{Then}
use Rattle.book_law.specs.Events.{Reads, Runner, told}
use Rattle.book_law.specs.Fitness.{ArgsFit, StateFits}
use Rattle.book_law.specs.Members.{Holds}
use Rattle.book_law.proofs.Courses.{at_other, at_own}
use Rattle.book_law.proofs.Fits.{ReplyFits, TextFits}
use Rattle.book_law.proofs.Members.{members_hold}
use Rattle.world_rules.specs.Applying.{tries_as, tries_of, tries_read, tries_reads}
use Rattle.world_rules.specs.Bursts.{read_line, read_on}
use Rattle.world_rules.specs.Frame.{Frame}
use Rattle.world_rules.specs.Nodes.{Node, NodeWork, aside_of, does, plays}
use Rattle.world_rules.specs.Nodes.Deed.{Performs}
use Rattle.world_rules.specs.Played.{Played, Stage, receives}
use Rattle.world_rules.specs.Played.Stage.{Computing, Acting, Submitted, Reading, Asking, Over}
use Rattle.world_rules.specs.Worlds.{World}
use Rattle.world_course.specs.Chain.Leads.{Stays, By}
use Rattle.world_course.specs.Corresponds.{Corresponds, IsMember, Lifts, Stands}
use Rattle.world_course.specs.Processes.{IsFreeAt, StageStands}
use Rattle.world_course.specs.Works.{at_work}
use Rattle.world_course.proofs.Bursts.{reads_there}
use Rattle.world_course.proofs.Changing.{Changed, NodeWith, OneProcess, asked_on, lifts_on, one_process, one_reached}
use Rattle.world_course.proofs.Lifting.{Starts, starts}
use Rattle.world_course.proofs.Program.{Program, callable}

pub stays : (f : Frame) (single : Test) (c : Course) (w : World) → Corresponds f single w c → Lifts f single c w
stays f single c w h = (c, Stays c, h)

-- the member's node at work
pub node_at : (f : Frame) (m : ℕ) (w : World) (v : NodeWork) → (at_work f m w v).nodes m ≡ v.node
node_at f m w v = at_own w.nodes m v.node

-- the objects of the member's copies are those of the list up to its number
pub objects_here : (f : Frame) (single : Test) (c : Course) (came : Came single f.performs f.computes c) (m : ℕ) (node : Node) → IsMember f single c came m node → node.copies.objects ≡ (copies_at single f.performs c.list node.copies.applied).objects
objects_here f single c came m node h =
    let holds : Holds single f.performs c.list c.owned m (c.applied m) node.copies = subst (λ (k : Copied). Holds single f.performs c.list c.owned m (c.applied m) k) (sym h.copies) (members_hold single f.performs f.computes c came m) in
    ap (λ (k : Copied). k.objects) holds.shared ∙ ap (λ (n : ℕ). (copies_at single f.performs c.list n).objects) h.applied

-- the work with a read performed
abbrev pub performing : ℕ → Played → Action → Tried → NodeWork → NodeWork
performing i r act t v =
    plays i (receives v.node.copies.applied (read_line (record { 0 = i }) r act t).reply r)
    (does (Performs (record { place = v.node.copies.applied; line = read_line (record { 0 = i }) r act t })) v)

-- a read that isn't blocked on the member's copies is performed
performing_lifts : (f : Frame) (single : Test) (fits_state : StateFits) (fits_args : ArgsFit) (fits_text : TextFits) (fits_reply : ReplyFits) (w : World) (c : Course) (m i : ℕ) (r : Played) (act : Action) (v : NodeWork)
    → Program f fits_state fits_args fits_text fits_reply → Corresponds f single (at_work f m w v) c → v.node.played i ≡ Some r → r.stage ≡ Reading act
    → IsTrue (not (is_blocked (read_on f.performs v.node.copies.objects act))) → Lifts f single c (at_work f m w (performing i r act (read_on f.performs v.node.copies.objects act) v))
performing_lifts f single fits_state fits_args fits_text fits_reply w c m i r act v program corresponds here reads answered = (
  d,
  By c d d step (Stays d),
  record {
    stands = one_process f single now next c d h later i m one changed aside (λ y is. asked_on single c d y refl (h.asked y is));
    reached = one_reached now next c d f i m changed refl corresponds.reached;
  },
)
  where
    h : Stands f single (at_work f m w v) c
    h = corresponds.stands

    now : World
    now = at_work f m w v

    number : ProcessNo
    number = record { 0 = i }

    t : Tried
    t = read_on f.performs v.node.copies.objects act

    line : Line
    line = read_line number r act t

    n : ℕ
    n = v.node.copies.applied

    next : World
    next = at_work f m w (performing i r act t v)

    node_is : (at_work f m w v).nodes m ≡ v.node
    node_is = node_at f m w v

    mine : IsMember f single c h.came m v.node
    mine = subst (λ (k : Node). IsMember f single c h.came m k) node_is (h.members m)

    s : Starts f single now c i m r
    s = starts f single now c i m r h (ap (λ (k : Node). k.played i) node_is ∙ here)

    x : Runner
    x = s.process.runner

    is_free : IsFreeAt f.computes i x act
    is_free = subst (StageStands f.computes i x) reads s.is.stage

    home : x.member ≡ m
    home = s.process.member ∙ s.of.home

    low : r.place ≤ n
    low = subst (λ (k : Node). r.place ≤ k.copies.applied) node_is s.reaches

    after : x.place ≤ n
    after = let e = s.is.place in omega (arith, e, low)

    before : n ≤ c.applied x.member
    before = let e : c.applied x.member ≡ n = ap c.applied home ∙ mine.applied in omega (arith, e)

    objects : v.node.copies.objects ≡ (copies_at single f.performs c.list n).objects
    objects = objects_here f single c h.came m v.node mine

    asks : Reads single f.performs f.computes c.list c.applied i x n line
    asks = subst (λ (o : Objects). Reads single f.performs f.computes c.list c.applied i x n (read_line number r act (read_on f.performs o act))) (sym objects)
        (reads_there single f.performs f.computes fits_state fits_args c number r x n act h.came (callable f fits_state fits_args fits_text fits_reply program single c h.came)
        s.process.runs is_free.0 after before s.is.replies is_free.1 (subst (λ (o : Objects). IsTrue (not (is_blocked (read_on f.performs o act)))) objects answered))

    d : Course
    d = reading c i x n line

    step : Next single f.performs f.computes c d
    step = Reads_at i x n line s.process.runs asks refl

    later : Came single f.performs f.computes d
    later = Then c d h.came step

    one : OneProcess f single c d h.came later i
    one = record { list = refl; applied = λ k. refl; others = λ k apart. at_other c.runners i (Some (told n line x)) k apart; copies = λ k. refl }

    after_it : Played
    after_it = receives n line.reply r

    with_it : NodeWith v.node (performing i r act t v).node i after_it
    with_it = record {
      same = record { copies = refl; entries = refl };
      plays = at_own v.node.played i (Some after_it);
      others = λ k apart. at_other v.node.played i (Some after_it) k apart;
    }

    changed : Changed f now next c d i m
    changed = record {
      begun = s.of.begun;
      played = after_it;
      runner = told n line x;
      there = s.of.there;
      home = s.of.home;
      place = s.begun;
      reaches = subst (λ (k : Node). n ≤ k.copies.applied) (sym node_is) (omega arith);
      node = subst (λ (k : Node). NodeWith k (next.nodes m) i after_it) (sym node_is)
          (subst (λ (k : Node). NodeWith v.node k i after_it) (sym (node_at f m w (performing i r act t v))) with_it);
      nodes = λ k apart. at_other w.nodes m (performing i r act t v).node k apart ∙ sym (at_other w.nodes m v.node k apart);
      runs = at_own c.runners i (Some (told n line x));
      member = s.process.member;
      is = record {
        text = s.is.text;
        args = s.is.args;
        replies = ap (λ (rs : List Reply). rs ++ line.reply ∷ []) s.is.replies;
        place = refl;
        stage = refl;
      };
    }

    aside : d.aside ≡ next.aside
    aside = ap (λ (l : List Placed). l ++ record { place = n; line = line } ∷ []) h.beside ∙ append_assoc w.aside (aside_of v.deeds) (record { place = n; line = line } ∷ [])

tried_lifts : (f : Frame) (single : Test) (fits_state : StateFits) (fits_args : ArgsFit) (fits_text : TextFits) (fits_reply : ReplyFits) (w : World) (c : Course) (m i : ℕ) (r : Played) (act : Action) (v : NodeWork)
    → Program f fits_state fits_args fits_text fits_reply → Corresponds f single (at_work f m w v) c → v.node.played i ≡ Some r → r.stage ≡ Reading act
    → (b : Bool) → is_blocked (read_on f.performs v.node.copies.objects act) ≡ b
    → Lifts f single c (at_work f m w (if b then v else performing i r act (read_on f.performs v.node.copies.objects act) v))
tried_lifts f single fits_state fits_args fits_text fits_reply w c m i r act v program h here reads true is = stays f single c (at_work f m w v) h
tried_lifts f single fits_state fits_args fits_text fits_reply w c m i r act v program h here reads false is =
    performing_lifts f single fits_state fits_args fits_text fits_reply w c m i r act v program h here reads (ap not is)

as_lifts : (f : Frame) (single : Test) (fits_state : StateFits) (fits_args : ArgsFit) (fits_text : TextFits) (fits_reply : ReplyFits) (w : World) (c : Course) (m i : ℕ) (r : Played) (stage : Stage) (v : NodeWork)
    → Program f fits_state fits_args fits_text fits_reply → Corresponds f single (at_work f m w v) c → v.node.played i ≡ Some r → r.stage ≡ stage → Lifts f single c (at_work f m w (tries_as f i r stage v))
as_lifts f single fits_state fits_args fits_text fits_reply w c m i r (Reading act) v program h here is =
    tried_lifts f single fits_state fits_args fits_text fits_reply w c m i r act v program h here is (is_blocked (read_on f.performs v.node.copies.objects act)) refl
as_lifts f single fits_state fits_args fits_text fits_reply w c m i r Computing v program h here is = stays f single c (at_work f m w v) h
as_lifts f single fits_state fits_args fits_text fits_reply w c m i r (Acting act) v program h here is = stays f single c (at_work f m w v) h
as_lifts f single fits_state fits_args fits_text fits_reply w c m i r (Submitted act) v program h here is = stays f single c (at_work f m w v) h
as_lifts f single fits_state fits_args fits_text fits_reply w c m i r (Asking act) v program h here is = stays f single c (at_work f m w v) h
as_lifts f single fits_state fits_args fits_text fits_reply w c m i r (Over act) v program h here is = stays f single c (at_work f m w v) h

of_lifts : (f : Frame) (single : Test) (fits_state : StateFits) (fits_args : ArgsFit) (fits_text : TextFits) (fits_reply : ReplyFits) (w : World) (c : Course) (m i : ℕ) (o : Option Played) (v : NodeWork)
    → Program f fits_state fits_args fits_text fits_reply → Corresponds f single (at_work f m w v) c → v.node.played i ≡ o → Lifts f single c (at_work f m w (tries_of f i o v))
of_lifts f single fits_state fits_args fits_text fits_reply w c m i None v program h is = stays f single c (at_work f m w v) h
of_lifts f single fits_state fits_args fits_text fits_reply w c m i (Some r) v program h is = as_lifts f single fits_state fits_args fits_text fits_reply w c m i r r.stage v program h is refl

-- a read that waits is tried
pub read_lifts : (f : Frame) (single : Test) (fits_state : StateFits) (fits_args : ArgsFit) (fits_text : TextFits) (fits_reply : ReplyFits) (w : World) (c : Course) (m i : ℕ) (v : NodeWork)
    → Program f fits_state fits_args fits_text fits_reply → Corresponds f single (at_work f m w v) c → Lifts f single c (at_work f m w (tries_read f i v))
read_lifts f single fits_state fits_args fits_text fits_reply w c m i v program h = of_lifts f single fits_state fits_args fits_text fits_reply w c m i (v.node.played i) v program h refl

-- and so is each
pub reads_lift : (f : Frame) (single : Test) (fits_state : StateFits) (fits_args : ArgsFit) (fits_text : TextFits) (fits_reply : ReplyFits) (w : World) (c : Course) (m n : ℕ) (v : NodeWork)
    → Program f fits_state fits_args fits_text fits_reply → Corresponds f single (at_work f m w v) c → Lifts f single c (at_work f m w (tries_reads f n v))
reads_lift f single fits_state fits_args fits_text fits_reply w c m zero v program h = stays f single c (at_work f m w v) h
reads_lift f single fits_state fits_args fits_text fits_reply w c m (suc i) v program h =
    let u = reads_lift f single fits_state fits_args fits_text fits_reply w c m i v program h in
    lifts_on f single c u.0 (at_work f m w (tries_reads f (suc i) v)) u.1
    (read_lifts f single fits_state fits_args fits_text fits_reply w u.0 m i (tries_reads f i v) program u.2)
