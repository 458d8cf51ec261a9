-- An Answer whose place is reached: its process hears it.
use Rattle.std.proofs.Common.{◌≡◌, ◌≤◌, ◌==◌, ℕ, Bool, true, false, List, [], ◌∷◌, ◌++◌, Option, Some, None, refl, sym, ap, ◌∙◌, subst, arith, length, if◌then◌else◌}
use Rattle.std.proofs.lemmas.Bool.{eqb-true}
use Rattle.orca_base.specs.declared.ids.CallNo.{CallNo}
use Rattle.orca_base.specs.declared.ids.ProcessNo.{ProcessNo}
use Rattle.value_core.specs.declared.action.Reply.{Reply}
use Rattle.book_law.specs.Passes.{Test}
use Rattle.book_law.specs.declared.placing.Placed.{Placed}
use Rattle.book_law.specs.Course.{Came, Course, Next, hearing}
use Rattle.book_law.specs.Course.Next.{Hears_answer}
use Rattle.book_law.specs.Course.Came.{Then}
use Rattle.book_law.specs.Events.{Runner, told}
use Rattle.book_law.proofs.Courses.{at_other, at_own}
use Rattle.book_law.proofs.Replying.{answers_stand}
use Rattle.world_rules.specs.Frame.{Frame}
use Rattle.world_rules.specs.Nodes.{Node, NodeWork, plays}
use Rattle.world_rules.specs.Owners.{hears_as, hears_of, takes_answer}
use Rattle.world_rules.specs.Played.{Played, Stage, receives}
use Rattle.world_rules.specs.Played.Stage.{Computing, Acting, Submitted, Reading, Asking, Over}
use Rattle.world_rules.specs.Worlds.{World}
use Rattle.world_course.specs.Chain.Leads.{Stays, By}
use Rattle.world_course.specs.Corresponds.{Corresponds, IsMember, Lifts, Stands}
use Rattle.world_course.specs.Errands.{IsAnswer}
use Rattle.world_course.specs.Works.{at_work}
use Rattle.world_course.proofs.Changing.{Changed, NodeWith, OneProcess, asked_on, one_process, one_reached}
use Rattle.world_course.proofs.Lifting.{Starts, starts}
use Rattle.world_course.proofs.Tries.{node_at, stays}

-- it is the reply to its process's next call
replied_lifts : (f : Frame) (single : Test) (w : World) (c : Course) (m place : ℕ) (i : ProcessNo) (number : CallNo) (reply : Reply) (r : Played) (v : NodeWork) → Corresponds f single (at_work f m w v) c
    → IsAnswer c place i number reply → place ≤ v.node.copies.applied → v.node.played i.0 ≡ Some r → number.0 ≡ length r.replies → Lifts f single c (at_work f m w (plays i.0 (receives place reply r) v))
replied_lifts f single w c m place i number reply r v corresponds answer low here next = (
  d,
  By c d d step (Stays d),
  record {
    stands = one_process f single now then_on c d h later i.0 m one changed h.beside (λ y is. asked_on single c d y refl (h.asked y is));
    reached = one_reached now then_on c d f i.0 m changed refl corresponds.reached;
  },
)
  where
    h : Stands f single (at_work f m w v) c
    h = corresponds.stands

    now : World
    now = at_work f m w v

    then_on : World
    then_on = at_work f m w (plays i.0 (receives place reply r) v)

    node_is : now.nodes m ≡ v.node
    node_is = node_at f m w v

    mine : IsMember f single c h.came m v.node
    mine = subst (λ (k : Node). IsMember f single c h.came m k) node_is (h.members m)

    s : Starts f single now c i.0 m r
    s = starts f single now c i.0 m r h (ap (λ (k : Node). k.played i.0) node_is ∙ here)

    x : Runner
    x = s.process.runner

    home : x.member ≡ m
    home = s.process.member ∙ s.of.home

    line : Placed
    line = answer.line

    has : x.answer ≡ Some line
    has =
        let u = answers_stand single f.performs f.computes c h.came i.0 x s.process.runs in
        let e : line.line.call.0 ≡ number.0 = ap (λ (n : CallNo). n.0) answer.call in
        let g : length x.replies ≡ length r.replies = ap length s.is.replies in
        u.only line answer.there (ap (λ (n : ProcessNo). n.0) answer.process) (omega (arith, e, g, next))

    d : Course
    d = hearing c i.0 x line

    step : Next single f.performs f.computes c d
    step = Hears_answer i.0 x line s.process.runs has
        (let e : c.applied x.member ≡ v.node.copies.applied = ap c.applied home ∙ mine.applied in let g = answer.place in omega (arith, e, g, low)) refl

    later : Came single f.performs f.computes d
    later = Then c d h.came step

    one : OneProcess f single c d h.came later i.0
    one = record { list = refl; applied = λ k. refl; others = λ k apart. at_other c.runners i.0 (Some (told line.place line.line x)) k apart; copies = λ k. refl }

    after : Played
    after = receives place reply r

    with_it : NodeWith v.node (plays i.0 after v).node i.0 after
    with_it = record {
      same = record { copies = refl; entries = refl };
      plays = at_own v.node.played i.0 (Some after);
      others = λ k apart. at_other v.node.played i.0 (Some after) k apart;
    }

    changed : Changed f now then_on c d i.0 m
    changed = record {
      begun = s.of.begun;
      played = after;
      runner = told line.place line.line x;
      there = s.of.there;
      home = s.of.home;
      place = s.begun;
      reaches = subst (λ (k : Node). place ≤ k.copies.applied) (sym node_is) low;
      node = subst (λ (k : Node). NodeWith k (then_on.nodes m) i.0 after) (sym node_is) (subst (λ (k : Node). NodeWith v.node k i.0 after) (sym (node_at f m w (plays i.0 after v))) with_it);
      nodes = λ k apart. at_other w.nodes m (plays i.0 after v).node k apart ∙ sym (at_other w.nodes m v.node k apart);
      runs = at_own c.runners i.0 (Some (told line.place line.line x));
      member = s.process.member;
      is = record {
        text = s.is.text;
        args = s.is.args;
        replies = ap (λ (rs : List Reply). rs ++ line.line.reply ∷ []) s.is.replies ∙ ap (λ (z : Reply). r.replies ++ z ∷ []) answer.reply;
        place = answer.place;
        stage = refl;
      };
    }

as_lifts : (f : Frame) (single : Test) (w : World) (c : Course) (m place : ℕ) (i : ProcessNo) (number : CallNo) (reply : Reply) (r : Played) (stage : Stage) (v : NodeWork) → Corresponds f single (at_work f m w v) c
    → IsAnswer c place i number reply → place ≤ v.node.copies.applied → v.node.played i.0 ≡ Some r → Lifts f single c (at_work f m w (hears_as place i.0 number reply r stage v))
as_lifts f single w c m place i number reply r (Asking act) v h answer low here = go (number.0 == length r.replies) refl
  where
    go : (b : Bool) → (number.0 == length r.replies) ≡ b → Lifts f single c (at_work f m w (if b then plays i.0 (receives place reply r) v else v))
    go true is = replied_lifts f single w c m place i number reply r v h answer low here (eqb-true number.0 (length r.replies) is)
    go false is = stays f single c (at_work f m w v) h
as_lifts f single w c m place i number reply r Computing v h answer low here = stays f single c (at_work f m w v) h
as_lifts f single w c m place i number reply r (Acting act) v h answer low here = stays f single c (at_work f m w v) h
as_lifts f single w c m place i number reply r (Submitted act) v h answer low here = stays f single c (at_work f m w v) h
as_lifts f single w c m place i number reply r (Reading act) v h answer low here = stays f single c (at_work f m w v) h
as_lifts f single w c m place i number reply r (Over act) v h answer low here = stays f single c (at_work f m w v) h

of_lifts : (f : Frame) (single : Test) (w : World) (c : Course) (m place : ℕ) (i : ProcessNo) (number : CallNo) (reply : Reply) (o : Option Played) (v : NodeWork) → Corresponds f single (at_work f m w v) c
    → IsAnswer c place i number reply → place ≤ v.node.copies.applied → v.node.played i.0 ≡ o → Lifts f single c (at_work f m w (hears_of place i.0 number reply o v))
of_lifts f single w c m place i number reply None v h answer low here = stays f single c (at_work f m w v) h
of_lifts f single w c m place i number reply (Some r) v h answer low here = as_lifts f single w c m place i number reply r r.stage v h answer low here

-- an Answer is taken
pub answer_lifts : (f : Frame) (single : Test) (w : World) (c : Course) (m place : ℕ) (i : ProcessNo) (number : CallNo) (reply : Reply) (v : NodeWork) → Corresponds f single (at_work f m w v) c
    → IsAnswer c place i number reply → place ≤ v.node.copies.applied → Lifts f single c (at_work f m w (takes_answer place i number reply v))
answer_lifts f single w c m place i number reply v h answer low = of_lifts f single w c m place i number reply (v.node.played i.0) v h answer low refl
