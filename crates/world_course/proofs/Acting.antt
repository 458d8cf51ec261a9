-- A process's action is carried out: its message is submitted, or its read is tried.
use Rattle.std.proofs.Common.{◌≡◌, ◌≤◌, ◌<◌, ℕ, ◌⊎◌, inl, inr, Bool, true, false, List, ◌∷◌, Some, refl, sym, ap, ◌∙◌, subst, arith, length, take}
use Rattle.std.proofs.lemmas.Bool.{cases_eq}
use Rattle.orca_base.specs.declared.ids.CallNo.{CallNo}
use Rattle.orca_base.specs.declared.ids.KindNo.{KindNo}
use Rattle.orca_base.specs.declared.ids.ObjectId.{ObjectId}
use Rattle.orca_base.specs.declared.ids.OpNo.{OpNo}
use Rattle.orca_base.specs.declared.ids.ProcessNo.{ProcessNo}
use Rattle.value_core.specs.Datum.{Data}
use Rattle.value_core.specs.declared.action.Action.{Action}
use Rattle.value_core.specs.declared.action.Action.TheVariants as action
use Rattle.value_core.specs.declared.message.Message.{Message}
use Rattle.value_core.specs.declared.meaning.Doing.TheVariants as doing
use Rattle.value_core.specs.History.{most_turns}
use Rattle.group_rules.specs.Sets.{In as IsIn, with_at}
use Rattle.book_law.specs.Passes.{Test}
use Rattle.book_law.specs.Course.{Came, Course, Next, submitted}
use Rattle.book_law.specs.Course.Next.{Submits as CourseSubmits}
use Rattle.book_law.specs.Course.Came.{Then}
use Rattle.book_law.specs.Events.{Asks, Calls, In, Makes, Runner, asking}
use Rattle.book_law.specs.Fitness.{ArgsFit, IsAtCall, StateFits}
use Rattle.book_law.proofs.Courses.{at_other, at_own, one_of}
use Rattle.book_law.proofs.Fits.{ReplyFits, TextFits}
use Rattle.book_law.proofs.Lists.{in_at}
use Rattle.book_law.proofs.Makers.{copies_made}
use Rattle.world_rules.specs.Frame.{Frame}
use Rattle.world_rules.specs.Nodes.{Node, NodeWork, does, known, plays}
use Rattle.world_rules.specs.Nodes.Deed.{Submits}
use Rattle.world_rules.specs.Played.{Played, Stage, moves_to, next_call}
use Rattle.world_rules.specs.Played.Stage.{Acting, Submitted, Reading}
use Rattle.world_rules.specs.Processes.{Begun, processes_in, singles_of}
use Rattle.world_rules.specs.Worlds.{World}
use Rattle.world_course.specs.Chain.Leads.{Stays, By}
use Rattle.world_course.specs.Corresponds.{Corresponds, IsAsked, IsMember, Lifts, Stands}
use Rattle.world_course.specs.Processes.{IsFreeAt, IsRunner, StageStands}
use Rattle.world_course.specs.Works.{at_work}
use Rattle.world_course.proofs.Begun.{known_agrees, maker_known}
use Rattle.world_course.proofs.Changing.{Changed, NodeWith, OneProcess, one_process, one_reached}
use Rattle.world_course.proofs.Lifting.{Starts, starts}
use Rattle.world_course.proofs.Listing.{get_take}
use Rattle.world_course.proofs.Program.{Program, callable, fitting}
use Rattle.world_course.proofs.Tries.{node_at}

-- ---- a process at work

-- process i of the member at work is at an action that wasn't carried out
pub record IsActing (f : Frame) (single : Test) (w : World) (c : Course) (m i : ℕ) (r : Played) (act : Action) (v : NodeWork) : Type 0 where
  pub corresponds : Corresponds f single (at_work f m w v) c
  pub here : v.node.played i ≡ Some r
  pub acts : r.stage ≡ Acting act

-- the work with a process that stands elsewhere
abbrev pub moving : ℕ → Stage → Played → NodeWork → NodeWork
moving i stage r v = plays i (moves_to stage r) v

moved_node : (i : ℕ) (stage : Stage) (r : Played) (v : NodeWork) → NodeWith v.node (moving i stage r v).node i (moves_to stage r)
moved_node i stage r v = record {
  same = record { copies = refl; entries = refl };
  plays = at_own v.node.played i (Some (moves_to stage r));
  others = λ k apart. at_other v.node.played i (Some (moves_to stage r)) k apart;
}

-- it stands elsewhere in the world, and as this one in the course
pub changes_to : (f : Frame) (single : Test) (w : World) (c d : Course) (m i : ℕ) (r : Played) (stage : Stage) (v u : NodeWork) (y : Runner) → (h : Stands f single (at_work f m w v) c) → v.node.played i ≡ Some r → u.node ≡ (moving i stage r v).node
    → d.runners i ≡ Some y → ((z : Starts f single (at_work f m w v) c i m r) → (y.member ≡ z.process.runner.member) × IsRunner f.computes i (moves_to stage r) y) → Changed f (at_work f m w v) (at_work f m w u) c d i m
changes_to f single w c d m i r stage v u y h here node runs is =
    let s = starts f single (at_work f m w v) c i m r h (ap (λ (k : Node). k.played i) (node_at f m w v) ∙ here) in
    let k = is s in
    record {
      begun = s.of.begun;
      played = moves_to stage r;
      runner = y;
      there = s.of.there;
      home = s.of.home;
      place = s.begun;
      reaches = s.reaches;
      node = subst (λ (n : Node). NodeWith n ((at_work f m w u).nodes m) i (moves_to stage r)) (sym (node_at f m w v))
          (subst (λ (n : Node). NodeWith v.node n i (moves_to stage r)) (sym (node_at f m w u ∙ node)) (moved_node i stage r v));
      nodes = λ n apart. at_other w.nodes m u.node n apart ∙ sym (at_other w.nodes m v.node n apart);
      runs = runs;
      member = k.0 ∙ s.process.member;
      is = k.1;
    }

-- ---- its message is submitted

-- the work with a message submitted
abbrev pub submitting : ℕ → Played → Action → Message → NodeWork → NodeWork
submitting i r act x v = does (Submits x) (plays i (moves_to (Submitted act) r) v)

-- a message is the next action of process i, and calls no single object
pub record IsMessage (single : Test) (i : ℕ) (r : Played) (act : Action) (x : Message) : Type 0 where
  pub process : x.process ≡ record { 0 = i }
  pub call : x.call ≡ next_call r
  pub action : x.action ≡ act
  pub shared : (o : ObjectId) → Calls act o → single o ≡ false

pub submitting_lifts : (f : Frame) (single : Test) (w : World) (c : Course) (m i : ℕ) (r : Played) (act : Action) (x : Message) (v : NodeWork) → IsActing f single w c m i r act v → IsMessage single i r act x
    → Lifts f single c (at_work f m w (submitting i r act x v))
submitting_lifts f single w c m i r act x v a is = (
  d,
  By c d d step (Stays d),
  record {
    stands = one_process f single now next c d h later i m one changed h.beside asked;
    reached = one_reached now next c d f i m changed refl corresponds.reached;
  },
)
  where
    corresponds : Corresponds f single (at_work f m w v) c
    corresponds = a.corresponds

    h : Stands f single (at_work f m w v) c
    h = corresponds.stands

    now : World
    now = at_work f m w v

    next : World
    next = at_work f m w (submitting i r act x v)

    s : Starts f single now c i m r
    s = starts f single now c i m r h (ap (λ (k : Node). k.played i) (node_at f m w v) ∙ a.here)

    y : Runner
    y = s.process.runner

    free : IsFreeAt f.computes i y act
    free = subst (StageStands f.computes i y) a.acts s.is.stage

    asks : Asks f.computes i y x
    asks = record {
      process = ap (λ (n : ProcessNo). n.0) is.process;
      call = ap (λ (n : CallNo). n.0) is.call ∙ ap length (sym s.is.replies);
      next = ap (λ (n : ProcessNo). f.computes.doing y.text n y.args y.replies most_turns) is.process ∙ free.1 ∙ ap doing.At (sym is.action);
    }

    d : Course
    d = submitted c i y x

    step : Next single f.performs f.computes c d
    step = CourseSubmits i y x s.process.runs free.0 asks refl

    later : Came single f.performs f.computes d
    later = Then c d h.came step

    one : OneProcess f single c d h.came later i
    one = record { list = refl; applied = λ k. refl; others = λ k apart. at_other c.runners i (Some (asking x y)) k apart; copies = λ k. refl }

    changed : Changed f now next c d i m
    changed = changes_to f single w c d m i r (Submitted act) v (submitting i r act x v) (asking x y) h a.here refl (at_own c.runners i (Some (asking x y)))
        (λ z. (
          ap (λ (o : Runner). o.member) (one_of (c.runners i) y z.process.runner s.process.runs z.process.runs),
          record {
            text = s.is.text;
            args = s.is.args;
            replies = s.is.replies;
            place = s.is.place;
            stage = (x, refl, is.action);
          },
        ))

    old : (z : Message) → IsIn z (now.past.submitted z.process.0) → IsAsked single d z
    old z there = let u = h.asked z there in record { among = inr u.among; shared = u.shared }

    new : IsAsked single d x
    new = record { among = inl refl; shared = λ o calls. is.shared o (subst (λ (n : Action). Calls n o) is.action calls) }

    asked : (z : Message) → IsIn z (next.past.submitted z.process.0) → IsAsked single d z
    asked z there = by (cases_eq z.process.0 x.process.0)
      where
        by : (z.process.0 ≡ x.process.0) ⊎ (z.process.0 ≡ x.process.0 → ⊥) → IsAsked single d z
        by (inl e) = first (subst (λ (l : List Message). IsIn z l) (ap (with_at now.past.submitted x.process.0 (x ∷ now.past.submitted x.process.0)) e ∙ at_own now.past.submitted x.process.0 (x ∷ now.past.submitted x.process.0)) there)
          where
            first : IsIn z (x ∷ now.past.submitted x.process.0) → IsAsked single d z
            first (inl same) = subst (IsAsked single d) (sym same) new
            first (inr among) = old z (subst (λ (n : ℕ). IsIn z (now.past.submitted n)) (sym e) among)
        by (inr apart) = old z (subst (λ (l : List Message). IsIn z l) (at_other now.past.submitted x.process.0 (x ∷ now.past.submitted x.process.0) z.process.0 apart) there)

-- ---- its read is tried

pub reading_lifts : (f : Frame) (single : Test) (w : World) (c : Course) (m i : ℕ) (r : Played) (act : Action) (v : NodeWork) → IsActing f single w c m i r act v → Corresponds f single (at_work f m w (moving i (Reading act) r v)) c
reading_lifts f single w c m i r act v a = record {
  stands = one_process f single now next c c h h.came i m (record { list = refl; applied = λ k. refl; others = λ k apart. refl; copies = λ k. refl }) changed h.beside h.asked;
  reached = one_reached now next c c f i m changed refl corresponds.reached;
}
  where
    corresponds : Corresponds f single (at_work f m w v) c
    corresponds = a.corresponds

    h : Stands f single (at_work f m w v) c
    h = corresponds.stands

    now : World
    now = at_work f m w v

    next : World
    next = at_work f m w (moving i (Reading act) r v)

    s : Starts f single now c i m r
    s = starts f single now c i m r h (ap (λ (k : Node). k.played i) (node_at f m w v) ∙ a.here)

    changed : Changed f now next c c i m
    changed = changes_to f single w c c m i r (Reading act) v (moving i (Reading act) r v) s.process.runner h a.here refl s.process.runs
        (λ z. (
          ap (λ (o : Runner). o.member) (one_of (c.runners i) s.process.runner z.process.runner s.process.runs z.process.runs),
          record {
            text = s.is.text;
            args = s.is.args;
            replies = s.is.replies;
            place = s.is.place;
            stage = subst (StageStands f.computes i s.process.runner) a.acts s.is.stage;
          },
        ))

-- ---- what a member finds replicated is so

pub shared_if_known : (f : Frame) (single : Test) (fits_state : StateFits) (fits_args : ArgsFit) (fits_text : TextFits) (fits_reply : ReplyFits) (w : World) (c : Course) (m i : ℕ) (r : Played) (kind : KindNo) (op : OpNo) (object : ObjectId) (args : Data) (v : NodeWork)
    → Program f fits_state fits_args fits_text fits_reply → IsActing f single w c m i r (action.Call kind op object args) v → singles_of f (known f v.node) object ≡ false → single object ≡ false
shared_if_known f single fits_state fits_args fits_text fits_reply w c m i r kind op object args v program a none = go (single object) refl
  where
    corresponds : Corresponds f single (at_work f m w v) c
    corresponds = a.corresponds

    h : Stands f single (at_work f m w v) c
    h = corresponds.stands

    s : Starts f single (at_work f m w v) c i m r
    s = starts f single (at_work f m w v) c i m r h (ap (λ (k : Node). k.played i) (node_at f m w v) ∙ a.here)

    x : Runner
    x = s.process.runner

    mine : IsMember f single c h.came m v.node
    mine = subst (λ (k : Node). IsMember f single c h.came m k) (node_at f m w v) (h.members m)

    free : IsFreeAt f.computes i x (action.Call kind op object args)
    free = subst (StageStands f.computes i x) a.acts s.is.stage

    low : x.place ≤ v.node.copies.applied
    low = let le = subst (λ (k : Node). r.place ≤ k.copies.applied) (node_at f m w v) s.reaches in let e = s.is.place in omega (arith, e, le)

    go : (b : Bool) → single object ≡ b → single object ≡ false
    go false is = is
    go true is =
        let may = callable f fits_state fits_args fits_text fits_reply program single c h.came in
        let at : IsAtCall f.computes c.runners (record { 0 = i }) x x.place kind op object args = record { here = s.process.runs; place = omega arith; next = free.1 } in
        let copy = may.calls (record { 0 = i }) x x.place kind op object args at (inl free.0) is in
        let made = copies_made single f.performs f.computes c h.came copy.at copy.copy copy.there in
        let place = made.place in
        let most = copy.place in
        let early : made.before < v.node.copies.applied = omega (arith, place, most, low) in
        let among : In made.entry (take v.node.copies.applied c.list) = in_at made.entry (take v.node.copies.applied c.list) made.before (get_take c.list v.node.copies.applied made.before early ∙ made.there) in
        let makes : Makes made.entry.action object = subst (λ (n : Action). Makes n object) (sym made.makes) (sym copy.is) in
        let lt = maker_known f single (at_work f m w v) c fits_args fits_text fits_reply h (fitting f fits_state fits_args fits_text fits_reply program single c h.came) v.node.copies.applied v.node.copies.applied (omega arith) made.entry object among makes in
        let known_is : known f v.node ≡ processes_in f (take v.node.copies.applied c.list) = ap (processes_in f) mine.entries in
        let same = ap (λ (ps : List Begun). singles_of f ps object) known_is ∙ known_agrees f single c.list v.node.copies.applied h.test object lt in
        let e : true ≡ false = sym is ∙ sym same ∙ none in
        absurd (cc e)
