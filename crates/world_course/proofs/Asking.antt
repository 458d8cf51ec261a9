-- A process calls a single object whose owner is its own member: it submits the call, the owner takes it, and it may hear it at once.
use Rattle.std.proofs.Common.{◌≡◌, ◌≤◌, ℕ, inr, true, List, Some, refl, sym, ap, ◌∙◌, subst, arith, length}
use Rattle.std.specs.Prelude.{slice_get}
use Rattle.orca_base.specs.declared.ids.CallNo.{CallNo}
use Rattle.orca_base.specs.declared.ids.ProcessNo.{ProcessNo}
use Rattle.value_core.specs.declared.message.Message.{Message}
use Rattle.value_core.specs.History.{most_turns}
use Rattle.guard_queue.specs.declared.queue.Suspended.{Suspended}
use Rattle.object_manager.specs.State.{message_of}
use Rattle.book_law.specs.Passes.{Test}
use Rattle.book_law.specs.Course.{Came, Course, Next, submitted}
use Rattle.book_law.specs.Course.Next.{Submits}
use Rattle.book_law.specs.Course.Came.{Then}
use Rattle.book_law.specs.Events.{Asks, In, Runner, asking}
use Rattle.book_law.specs.Fitness.{ArgsFit, StateFits}
use Rattle.book_law.proofs.Asked.{entered_asked}
use Rattle.book_law.proofs.Courses.{at_other, at_own, one_of}
use Rattle.book_law.proofs.Fits.{ReplyFits, TextFits}
use Rattle.world_rules.specs.Frame.{Frame}
use Rattle.world_rules.specs.Nodes.{Node, NodeWork}
use Rattle.world_rules.specs.Owners.{performs_call}
use Rattle.world_rules.specs.Played.{Played, next_call}
use Rattle.world_rules.specs.Played.Stage.{Asking}
use Rattle.world_rules.specs.Processes.{processes_in}
use Rattle.world_rules.specs.Worlds.{World}
use Rattle.world_course.specs.Chain.{Leads}
use Rattle.world_course.specs.Chain.Leads.{Stays, By}
use Rattle.world_course.specs.Corresponds.{Corresponds, IsOf, Lifts, Stands}
use Rattle.world_course.specs.Errands.{MayTake}
use Rattle.world_course.specs.Processes.{IsFreeAt, StageStands}
use Rattle.world_course.specs.Works.{at_work}
use Rattle.world_course.proofs.Acting.{IsActing, changes_to, moving}
use Rattle.world_course.proofs.Changing.{Changed, OneProcess, lifts_on, one_process, one_reached}
use Rattle.world_course.proofs.Later.{submitted_new}
use Rattle.world_course.proofs.Lifting.{Starts, starts}
use Rattle.world_course.proofs.Program.{Program}
use Rattle.world_course.proofs.Taking.{call_lifts}
use Rattle.world_course.proofs.Tries.{node_at}

-- the call is the next one of process i, which is at it
pub record IsCall (i : ℕ) (r : Played) (call : Suspended) : Type 0 where
  pub process : call.process ≡ record { 0 = i }
  pub number : call.call ≡ next_call r

-- it asks: in the course its message is out, and hasn't entered
pub record HasAsked (f : Frame) (single : Test) (w : World) (c : Course) (m i : ℕ) (r : Played) (call : Suspended) (v : NodeWork) : Type 0 where
  pub course : Course
  pub leads : Leads single f.performs f.computes c course
  pub corresponds : Corresponds f single (at_work f m w (moving i (Asking (message_of call).action) r v)) course
  pub runner : Runner
  pub runs : course.runners call.process.0 ≡ Some runner
  pub out : runner.message ≡ Some (message_of call)
  pub new : In (message_of call) course.entered → ⊥
  pub place : runner.place ≡ r.place
  pub list : course.list ≡ c.list

pub asks_out : (f : Frame) (single : Test) (w : World) (c : Course) (m i : ℕ) (r : Played) (call : Suspended) (v : NodeWork) → IsActing f single w c m i r (message_of call).action v → IsCall i r call → HasAsked f single w c m i r call v
asks_out f single w c m i r call v a is = record {
  course = d;
  leads = By c d d step (Stays d);
  corresponds = record {
    stands = one_process f single now next c d h later i m one changed h.beside (λ y there. let u = h.asked y there in record { among = inr u.among; shared = u.shared });
    reached = one_reached now next c d f i m changed refl corresponds.reached;
  };
  runner = asking x y;
  runs = ap d.runners (ap (λ (n : ProcessNo). n.0) is.process) ∙ at_own c.runners i (Some (asking x y));
  out = refl;
  new = λ entered. submitted_new single f.performs f.computes c i y x x h.came s.process.runs free.0 asks (let all = entered_asked single f.performs f.computes c h.came in all.entered x entered) refl;
  place = s.is.place;
  list = refl;
}
  where
    corresponds : Corresponds f single (at_work f m w v) c
    corresponds = a.corresponds

    h : Stands f single (at_work f m w v) c
    h = corresponds.stands

    x : Message
    x = message_of call

    now : World
    now = at_work f m w v

    next : World
    next = at_work f m w (moving i (Asking (message_of call).action) r v)

    s : Starts f single now c i m r
    s = starts f single now c i m r h (ap (λ (k : Node). k.played i) (node_at f m w v) ∙ a.here)

    y : Runner
    y = s.process.runner

    free : IsFreeAt f.computes i y (message_of call).action
    free = subst (StageStands f.computes i y) a.acts s.is.stage

    asks : Asks f.computes i y (message_of call)
    asks = record {
      process = ap (λ (n : ProcessNo). n.0) is.process;
      call = ap (λ (n : CallNo). n.0) is.number ∙ ap length (sym s.is.replies);
      next = ap (λ (n : ProcessNo). f.computes.doing y.text n y.args y.replies most_turns) is.process ∙ free.1;
    }

    d : Course
    d = submitted c i y (message_of call)

    step : Next single f.performs f.computes c d
    step = Submits i y (message_of call) s.process.runs free.0 asks refl

    later : Came single f.performs f.computes d
    later = Then c d h.came step

    one : OneProcess f single c d h.came later i
    one = record { list = refl; applied = λ k. refl; others = λ k apart. at_other c.runners i (Some (asking (message_of call) y)) k apart; copies = λ k. refl }

    changed : Changed f now next c d i m
    changed = changes_to f single w c d m i r (Asking (message_of call).action) v (moving i (Asking (message_of call).action) r v) (asking (message_of call) y) h a.here refl (at_own c.runners i (Some (asking (message_of call) y)))
        (λ z. (
          ap (λ (o : Runner). o.member) (one_of (c.runners i) y z.process.runner s.process.runs z.process.runs),
          record {
            text = s.is.text;
            args = s.is.args;
            replies = s.is.replies;
            place = s.is.place;
            stage = (message_of call, refl, refl);
          },
        ))

-- where the owner is its own member, which may take the call at once
pub own_may : (f : Frame) (single : Test) (w : World) (c : Course) (m i : ℕ) (r : Played) (call : Suspended) (v : NodeWork) → IsActing f single w c m i r (message_of call).action v → single call.object ≡ true → IsOf f c m call.object.process
    → (o : HasAsked f single w c m i r call v) → MayTake f single o.course m call (moving i (Asking (message_of call).action) r v)
own_may f single w c m i r call v a alone owner o =
    let corresponds = a.corresponds in
    let s = starts f single (at_work f m w v) c i m r corresponds.stands (ap (λ (k : Node). k.played i) (node_at f m w v) ∙ a.here) in
    let low : r.place ≤ v.node.copies.applied = subst (λ (k : Node). r.place ≤ k.copies.applied) (node_at f m w v) s.reaches in
    record {
      runner = o.runner;
      runs = o.runs;
      out = o.out;
      new = o.new;
      alone = alone;
      owner = record { begun = owner.begun; there = ap (λ (l : List Message). slice_get (processes_in f l) call.object.process) o.list ∙ owner.there; home = owner.home };
      reached = let e = o.place in omega (arith, e, low);
    }

-- and it takes it
pub own_call_lifts : (f : Frame) (single : Test) (fits_state : StateFits) (fits_args : ArgsFit) (fits_text : TextFits) (fits_reply : ReplyFits) (w : World) (c : Course) (m i : ℕ) (r : Played) (call : Suspended) (v : NodeWork)
    → Program f fits_state fits_args fits_text fits_reply → IsActing f single w c m i r (message_of call).action v → IsCall i r call → single call.object ≡ true → IsOf f c m call.object.process
    → Lifts f single c (at_work f m w (performs_call f m (message_of call) (moving i (Asking (message_of call).action) r v)))
own_call_lifts f single fits_state fits_args fits_text fits_reply w c m i r call v program a is alone owner =
    let u : NodeWork = moving i (Asking (message_of call).action) r v in
    let o = asks_out f single w c m i r call v a is in
    lifts_on f single c o.course (at_work f m w (performs_call f m (message_of call) u)) o.leads
    (call_lifts f single fits_state fits_args fits_text fits_reply w o.course m call u program o.corresponds (own_may f single w c m i r call v a alone owner o))
