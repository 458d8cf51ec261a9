-- A call that an owner takes lifts: in the course it is taken, and the owner's own processes hear their lines at once.
use Rattle.std.proofs.Common.{◌≡◌, ◌≤◌, ◌<◌, ◌==◌, ℕ, ◌⊎◌, inl, inr, Bool, true, false, List, ◌++◌, Option, Some, None, refl, sym, ap, ◌∙◌, subst, length, take, append_assoc, if◌then◌else◌}
use Rattle.std.proofs.lemmas.Bool.{cases_eq, eq-eqb, ne_eqb}
use Rattle.std.specs.Prelude.{option_map, slice_get}
use Rattle.value_core.specs.declared.action.Line.{Line}
use Rattle.value_core.specs.declared.message.Message.{Message}
use Rattle.guard_queue.specs.declared.queue.Suspended.{Suspended}
use Rattle.group_rules.specs.Member.{Member}
use Rattle.group_rules.specs.Sets.{In as IsIn}
use Rattle.group_rules.specs.World.{Past}
use Rattle.object_manager.specs.After.{Copied}
use Rattle.object_manager.specs.Singles.{after_single, lines_single}
use Rattle.object_manager.specs.State.{message_of}
use Rattle.book_law.specs.Passes.{Test}
use Rattle.book_law.specs.declared.placing.Placed.{Placed}
use Rattle.book_law.specs.Course.{Came, Course, Next, taking}
use Rattle.book_law.specs.Course.Next.{Takes_call}
use Rattle.book_law.specs.Course.Came.{Then}
use Rattle.book_law.specs.Events.{Runner, answering, lines_by}
use Rattle.book_law.specs.Fitness.{ArgsFit, StateFits}
use Rattle.book_law.specs.Members.{copies_of}
use Rattle.book_law.specs.Performed.{placed}
use Rattle.book_law.specs.Singles.{lines_on}
use Rattle.book_law.proofs.Courses.{at_other}
use Rattle.book_law.proofs.Fits.{ReplyFits, TextFits}
use Rattle.world_rules.specs.Frame.{Frame}
use Rattle.world_rules.specs.Nodes.{Node, NodeWork, aside_of, becomes, known}
use Rattle.world_rules.specs.Owners.{performs_call}
use Rattle.world_rules.specs.Played.{Played}
use Rattle.world_rules.specs.Processes.{Begun, home_in, processes_in}
use Rattle.world_rules.specs.Worlds.{World}
use Rattle.world_course.specs.Chain.{Leads}
use Rattle.world_course.specs.Chain.Leads.{By}
use Rattle.world_course.specs.Corresponds.{Agrees, Corresponds, IsMember, IsOf, Lifts, Stands}
use Rattle.world_course.specs.Processes.{IsProcess, StandsHere}
use Rattle.world_course.specs.Errands.{MayTake}
use Rattle.world_course.specs.Works.{at_work}
use Rattle.world_course.proofs.Applied.{received}
use Rattle.world_course.proofs.Changing.{asked_on}
use Rattle.world_course.proofs.Handing.{HandsOn, HeardBy, hands_on, heard}
use Rattle.world_course.proofs.Owning.{OwnLines, TakesHere, heard_member, hears_lines, other_stands, own_lines, own_stands, takes_here}
use Rattle.world_course.proofs.Program.{Program}
use Rattle.world_course.proofs.Tries.{node_at}

-- the work of a call before its lines are handed on
abbrev pub begun_call : Frame → Suspended → NodeWork → NodeWork
begun_call f call v = becomes (record v.node { copies = after_single f.performs v.node.copies (message_of call) }) v

-- all that a taken call comes to, in the course and in the world
pub record Parts (f : Frame) (single : Test) (c : Course) (came : Came single f.performs f.computes c) (m : ℕ) (call : Suspended) (v : NodeWork) : Type 0 where
  pub here : TakesHere f single c m call v
  pub own : OwnLines f c (known f v.node) (lines_on f.performs here.copy call)
  pub later : Came single f.performs f.computes (taking f.performs c here.at here.copy call)
  pub copies : (k : ℕ) → copies_of single f.performs f.computes (taking f.performs c here.at here.copy call) later k
      ≡ (if here.copy.owner == k then after_single f.performs (copies_of single f.performs f.computes c came k) (message_of call) else copies_of single f.performs f.computes c came k)
  pub done : HeardBy f single (taking f.performs c here.at here.copy call) later (c.applied here.copy.owner) (λ j. home_in (known f v.node) j == m) (lines_on f.performs here.copy call)
  pub given : HandsOn f m v.node.copies.applied (known f v.node) (lines_on f.performs here.copy call) (begun_call f call v) (performs_call f m (message_of call) v)

parts : (f : Frame) (single : Test) (w : World) (c : Course) (m : ℕ) (call : Suspended) (v : NodeWork) (h : Stands f single (at_work f m w v) c) → IsMember f single c h.came m v.node → TakesHere f single c m call v → Parts f single c h.came m call v
parts f single w c m call v h mine t =
    let d : Course = taking f.performs c t.at t.copy call in
    let step : Next single f.performs f.computes c d = Takes_call t.at t.copy t.runner call t.takes refl in
    let own = own_lines f single w c m call v h mine t in
    record {
      here = t;
      own = own;
      later = Then c d h.came step;
      copies = λ k. refl;
      done = hears_lines f single w c m call v h t own (Then c d h.came step);
      given = subst (λ (k : List Line). HandsOn f m v.node.copies.applied (known f v.node) k (begun_call f call v) (performs_call f m (message_of call) v)) t.lines
          (hands_on f m v.node.copies.applied (known f v.node) (lines_single f.performs v.node.copies (message_of call)) (begun_call f call v) refl refl);
    }

-- ---- members

own_member : (f : Frame) (single : Test) (c : Course) (came : Came single f.performs f.computes c) (m : ℕ) (call : Suspended) (v : NodeWork) → IsMember f single c came m v.node → (q : Parts f single c came m call v)
    → IsMember f single q.done.course q.done.later m (performs_call f m (message_of call) v).node
own_member f single c came m call v mine q = record {
  applied = q.done.applied m ∙ mine.applied ∙ sym applied_same;
  entries = subst (λ (i : ℕ). take i (performs_call f m (message_of call) v).node.member.log ≡ take i q.done.course.list) (sym applied_same)
      (ap (λ (i : Member Message). take v.node.copies.applied i.log) q.given.member ∙ mine.entries ∙ ap (take v.node.copies.applied) (sym q.done.list));
  copies = q.given.copies ∙ ap (λ (i : Copied). after_single f.performs i (message_of call)) mine.copies
      ∙ sym (ap (λ (b : Bool). if b then after_single f.performs (copies_of single f.performs f.computes c came m) (message_of call) else copies_of single f.performs f.computes c came m) (eq-eqb q.here.copy.owner m q.here.owner))
      ∙ sym (q.copies m) ∙ sym (q.done.copies m);
}
  where
    applied_same : (performs_call f m (message_of call) v).node.copies.applied ≡ v.node.copies.applied
    applied_same = ap (λ (k : Copied). k.applied) q.given.copies

other_member : (f : Frame) (single : Test) (c : Course) (came : Came single f.performs f.computes c) (m : ℕ) (call : Suspended) (v : NodeWork) (k : ℕ) (node : Node) → (k ≡ m → ⊥) → IsMember f single c came k node → (q : Parts f single c came m call v)
    → IsMember f single q.done.course q.done.later k node
other_member f single c came m call v k node apart i q = record {
  applied = q.done.applied k ∙ i.applied;
  entries = i.entries ∙ ap (take node.copies.applied) (sym q.done.list);
  copies = i.copies
      ∙ sym (ap (λ (b : Bool). if b then after_single f.performs (copies_of single f.performs f.computes c came k) (message_of call) else copies_of single f.performs f.computes c came k) (ne_eqb q.here.copy.owner k (λ e. apart (sym e ∙ q.here.owner))))
      ∙ sym (q.copies k) ∙ sym (q.done.copies k);
}

-- ---- processes

-- process j after that
abbrev after_call : (f : Frame) (single : Test) (c : Course) (came : Came single f.performs f.computes c) (m : ℕ) (call : Suspended) (v : NodeWork) → Parts f single c came m call v → ℕ → Runner → Runner
after_call f single c came m call v q j y =
    heard (c.applied q.here.copy.owner) (home_in (known f v.node) j == m) (lines_by j (lines_on f.performs q.here.copy call)) (answering (c.applied q.here.copy.owner) (lines_by j (lines_on f.performs q.here.copy call)) y)

now_at : (f : Frame) (single : Test) (c : Course) (came : Came single f.performs f.computes c) (m : ℕ) (call : Suspended) (v : NodeWork) (q : Parts f single c came m call v) (j : ℕ) (y : Runner) → c.runners j ≡ Some y
    → q.done.course.runners j ≡ Some (after_call f single c came m call v q j y)
now_at f single c came m call v q j y is =
    let n : ℕ = c.applied q.here.copy.owner in
    let lines : List Line = lines_by j (lines_on f.performs q.here.copy call) in
    q.done.runners j ∙ ap (λ (o : Option Runner). option_map (heard n (home_in (known f v.node) j == m) lines) (option_map (answering n lines) o)) is

own_process : (f : Frame) (single : Test) (c : Course) (came : Came single f.performs f.computes c) (m : ℕ) (call : Suspended) (v : NodeWork) (q : Parts f single c came m call v) (j : ℕ) (b : Begun) → slice_get (processes_in f c.list) j ≡ Some b → b.home ≡ m
    → IsProcess f.computes j b (c.runners j) v.node → IsProcess f.computes j b (q.done.course.runners j) (performs_call f m (message_of call) v).node
own_process f single c came m call v q j b is home p = record {
  runner = after_call f single c came m call v q j p.runner;
  runs = now_at f single c came m call v q j p.runner p.runs;
  member = heard_member (c.applied q.here.copy.owner) (home_in (known f v.node) j == m) (lines_by j (lines_on f.performs q.here.copy call)) p.runner ∙ p.member;
  stands = subst (λ (i : ℕ). StandsHere f.computes j b (after_call f single c came m call v q j p.runner) i ((performs_call f m (message_of call) v).node.played j)) (sym (ap (λ (k : Copied). k.applied) q.given.copies))
      (subst (λ (o : Option Played). StandsHere f.computes j b (after_call f single c came m call v q j p.runner) v.node.copies.applied o) (sym (q.given.plays j))
      (own_stands f c m (c.applied q.here.copy.owner) v.node.copies.applied (known f v.node) (lines_on f.performs q.here.copy call) q.own q.here.number j b p.runner
      (lines_by j (lines_on f.performs q.here.copy call)) (v.node.played j) is home p.runs refl p.stands));
}

other_process : (f : Frame) (single : Test) (c : Course) (came : Came single f.performs f.computes c) (m : ℕ) (call : Suspended) (v : NodeWork) (q : Parts f single c came m call v) (j : ℕ) (b : Begun) (node : Node) → slice_get (processes_in f c.list) j ≡ Some b → (b.home ≡ m → ⊥)
    → IsProcess f.computes j b (c.runners j) node → IsProcess f.computes j b (q.done.course.runners j) node
other_process f single c came m call v q j b node is apart p = record {
  runner = after_call f single c came m call v q j p.runner;
  runs = now_at f single c came m call v q j p.runner p.runs;
  member = heard_member (c.applied q.here.copy.owner) (home_in (known f v.node) j == m) (lines_by j (lines_on f.performs q.here.copy call)) p.runner ∙ p.member;
  stands = other_stands f c m (c.applied q.here.copy.owner) (known f v.node) (lines_on f.performs q.here.copy call) q.own j b p.runner (lines_by j (lines_on f.performs q.here.copy call)) node.copies.applied (node.played j) is apart p.runs refl p.stands;
}

was_played : (k : ℕ) (b : Bool) (ls : List Line) (o : Option Played) (r : Played) → (if b then option_map (received k ls) o else o) ≡ Some r → (s : Played) × (o ≡ Some s)
was_played k true ls None r is = absurd (cc is)
was_played k true ls (Some s) r is = (s, refl)
was_played k false ls o r is = (r, is)

-- ---- together

call_stands : (f : Frame) (single : Test) (w : World) (c : Course) (m : ℕ) (call : Suspended) (v : NodeWork) (h : Stands f single (at_work f m w v) c) → IsMember f single c h.came m v.node → (q : Parts f single c h.came m call v)
    → Stands f single (at_work f m w (performs_call f m (message_of call) v)) q.done.course
call_stands f single w c m call v h mine q = record {
  came = q.done.later;
  test = subst (Agrees f single) (sym q.done.list) h.test;
  beside = q.done.aside
      ∙ ap (λ (l : List Placed). l ++ placed (c.applied q.here.copy.owner) lines) h.beside
      ∙ append_assoc w.aside (aside_of v.deeds) (placed (c.applied q.here.copy.owner) lines)
      ∙ ap (λ (i : ℕ). w.aside ++ (aside_of v.deeds ++ placed i lines)) q.here.number
      ∙ ap (λ (l : List Placed). w.aside ++ l) (sym q.given.aside);
  asked = λ y is. asked_on single c q.done.course y q.done.asked (h.asked y (subst (λ (p : Past Message). IsIn y (p.submitted y.process.0)) (q.given.past w.past) is));
  callers = λ i y is. subst (λ (l : List Message). y.process.0 < length (processes_in f (take i l))) (sym q.done.list) (h.callers i y (ap (λ (l : List Message). slice_get l i) (sym q.done.list) ∙ is));
  members = λ k. member k (cases_eq k m);
  processes = λ j b is. process j b (ap (λ (l : List Message). slice_get (processes_in f l) j) (sym q.done.list) ∙ is) (cases_eq b.home m);
  played = λ k j r is. plays k j r is (cases_eq k m);
}
  where
    lines : List Line
    lines = lines_on f.performs q.here.copy call

    u : NodeWork
    u = performs_call f m (message_of call) v

    next : World
    next = at_work f m w u

    stays : (k : ℕ) → (k ≡ m → ⊥) → (at_work f m w v).nodes k ≡ next.nodes k
    stays k apart = at_other w.nodes m v.node k apart ∙ sym (at_other w.nodes m u.node k apart)

    member : (k : ℕ) → (k ≡ m) ⊎ (k ≡ m → ⊥) → IsMember f single q.done.course q.done.later k (next.nodes k)
    member k (inl e) = subst (λ (i : ℕ). IsMember f single q.done.course q.done.later i (next.nodes i)) (sym e)
        (subst (λ (i : Node). IsMember f single q.done.course q.done.later m i) (sym (node_at f m w u)) (own_member f single c h.came m call v mine q))
    member k (inr apart) = subst (λ (o : Node). IsMember f single q.done.course q.done.later k o) (stays k apart) (other_member f single c h.came m call v k ((at_work f m w v).nodes k) apart (h.members k) q)

    process : (j : ℕ) (b : Begun) → slice_get (processes_in f c.list) j ≡ Some b → (b.home ≡ m) ⊎ (b.home ≡ m → ⊥) → IsProcess f.computes j b (q.done.course.runners j) (next.nodes b.home)
    process j b is (inl home) =
        let was : IsProcess f.computes j b (c.runners j) v.node = subst (λ (k : Node). IsProcess f.computes j b (c.runners j) k) (ap (at_work f m w v).nodes home ∙ node_at f m w v) (h.processes j b is) in
        subst (λ (k : Node). IsProcess f.computes j b (q.done.course.runners j) k) (sym (ap next.nodes home ∙ node_at f m w u)) (own_process f single c h.came m call v q j b is home was)
    process j b is (inr apart) = subst (λ (k : Node). IsProcess f.computes j b (q.done.course.runners j) k) (stays b.home apart) (other_process f single c h.came m call v q j b ((at_work f m w v).nodes b.home) is apart (h.processes j b is))

    moved : (k j : ℕ) → IsOf f c k j → IsOf f q.done.course k j
    moved k j o = record { begun = o.begun; there = ap (λ (l : List Message). slice_get (processes_in f l) j) q.done.list ∙ o.there; home = o.home }

    plays : (k j : ℕ) (r : Played) → (next.nodes k).played j ≡ Some r → (k ≡ m) ⊎ (k ≡ m → ⊥) → IsOf f q.done.course k j
    plays k j r is (inl e) =
        let own : u.node.played j ≡ Some r = ap (λ (i : Node). i.played j) (sym (ap next.nodes e ∙ node_at f m w u)) ∙ is in
        let s = was_played v.node.copies.applied (home_in (known f v.node) j == m) (lines_by j lines) (v.node.played j) r (sym (q.given.plays j) ∙ own) in
        moved k j (subst (λ (i : ℕ). IsOf f c i j) (sym e) (h.played m j s.0 (ap (λ (i : Node). i.played j) (node_at f m w v) ∙ s.1)))
    plays k j r is (inr apart) = moved k j (h.played k j r (ap (λ (i : Node). i.played j) (stays k apart) ∙ is))

call_reached : (f : Frame) (single : Test) (w : World) (c : Course) (came : Came single f.performs f.computes c) (m : ℕ) (call : Suspended) (v : NodeWork) (q : Parts f single c came m call v) → ((k : ℕ) × (length c.list ≤ ((at_work f m w v).nodes k).copies.applied))
    → (k : ℕ) × (length q.done.course.list ≤ ((at_work f m w (performs_call f m (message_of call) v)).nodes k).copies.applied)
call_reached f single w c came m call v q (k, le) = (k, subst (λ (l : List Message). length l ≤ ((at_work f m w u).nodes k).copies.applied) (sym q.done.list) (subst (λ (i : ℕ). length c.list ≤ i) (same (cases_eq k m)) le))
  where
    u : NodeWork
    u = performs_call f m (message_of call) v

    same : (k ≡ m) ⊎ (k ≡ m → ⊥) → ((at_work f m w v).nodes k).copies.applied ≡ ((at_work f m w u).nodes k).copies.applied
    same (inl e) =
        ap (λ (i : ℕ). ((at_work f m w v).nodes i).copies.applied) e ∙ ap (λ (i : Node). i.copies.applied) (node_at f m w v)
        ∙ sym (ap (λ (i : ℕ). ((at_work f m w u).nodes i).copies.applied) e ∙ ap (λ (i : Node). i.copies.applied) (node_at f m w u) ∙ ap (λ (i : Copied). i.applied) q.given.copies)
    same (inr apart) = ap (λ (i : Node). i.copies.applied) (at_other w.nodes m v.node k apart ∙ sym (at_other w.nodes m u.node k apart))

-- a call that an owner took
pub record Taken (f : Frame) (single : Test) (w : World) (c : Course) (m : ℕ) (call : Suspended) (v : NodeWork) : Type 0 where
  pub came : Came single f.performs f.computes c
  pub parts : Parts f single c came m call v
  pub leads : Leads single f.performs f.computes c parts.done.course
  pub corresponds : Corresponds f single (at_work f m w (performs_call f m (message_of call) v)) parts.done.course

-- a call that an owner may take
pub call_taken : (f : Frame) (single : Test) (fits_state : StateFits) (fits_args : ArgsFit) (fits_text : TextFits) (fits_reply : ReplyFits) (w : World) (c : Course) (m : ℕ) (call : Suspended) (v : NodeWork)
    → Program f fits_state fits_args fits_text fits_reply → Corresponds f single (at_work f m w v) c → MayTake f single c m call v → Taken f single w c m call v
call_taken f single fits_state fits_args fits_text fits_reply w c m call v program corresponds z = go corresponds.stands corresponds.reached
  where
    go : (h : Stands f single (at_work f m w v) c) → ((k : ℕ) × (length c.list ≤ ((at_work f m w v).nodes k).copies.applied)) → Taken f single w c m call v
    go h reached =
        let mine : IsMember f single c h.came m v.node = subst (λ (k : Node). IsMember f single c h.came m k) (node_at f m w v) (h.members m) in
        let t = takes_here f single fits_state fits_args fits_text fits_reply w c m call v program h mine z in
        let q = parts f single w c m call v h mine t in
        record {
          came = h.came;
          parts = q;
          leads = By c (taking f.performs c q.here.at q.here.copy call) q.done.course (Takes_call q.here.at q.here.copy q.here.runner call q.here.takes refl) q.done.leads;
          corresponds = record { stands = call_stands f single w c m call v h mine q; reached = call_reached f single w c h.came m call v q reached };
        }

pub call_lifts : (f : Frame) (single : Test) (fits_state : StateFits) (fits_args : ArgsFit) (fits_text : TextFits) (fits_reply : ReplyFits) (w : World) (c : Course) (m : ℕ) (call : Suspended) (v : NodeWork)
    → Program f fits_state fits_args fits_text fits_reply → Corresponds f single (at_work f m w v) c → MayTake f single c m call v → Lifts f single c (at_work f m w (performs_call f m (message_of call) v))
call_lifts f single fits_state fits_args fits_text fits_reply w c m call v program corresponds z =
    let t = call_taken f single fits_state fits_args fits_text fits_reply w c m call v program corresponds z in (t.parts.done.course, t.leads, t.corresponds)
