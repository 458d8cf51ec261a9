-- A burst of a world lifts to its course.
use Rattle.std.proofs.Common.{◌≡◌, ◌≤◌, ◌<◌, ℕ, ◌⊎◌, inl, inr, ⊎_elim, false, List, [], ◌∷◌, ◌++◌, Option, Some, None, refl, sym, ap, ◌∙◌, subst, arith, append_assoc, append-nil}
use Rattle.std.proofs.lemmas.Bool.{cases_lt}
use Rattle.orca_base.specs.declared.ids.ObjectId.{ObjectId}
use Rattle.orca_base.specs.declared.ids.ProcessNo.{ProcessNo}
use Rattle.orca_base.specs.declared.limits.TheConstants.{TURNS}
use Rattle.value_core.specs.declared.action.Line.{Line}
use Rattle.value_core.specs.declared.message.Message.{Message}
use Rattle.value_core.specs.History.{most_turns}
use Rattle.group_rules.specs.Messages.{Group}
use Rattle.group_rules.specs.Sets.{In as IsIn, with_at}
use Rattle.group_rules.specs.World.{Past}
use Rattle.object_manager.specs.After.{Copied}
use Rattle.book_law.specs.Passes.{Test}
use Rattle.book_law.specs.Book.{copies_at}
use Rattle.book_law.specs.declared.placing.Placed.{Placed}
use Rattle.book_law.specs.Course.{Course}
use Rattle.book_law.specs.Events.{Calls, In, Runner}
use Rattle.book_law.specs.Fitness.{ArgsFit, StateFits}
use Rattle.book_law.specs.Performed.{placed}
use Rattle.book_law.proofs.Courses.{at_other, at_own}
use Rattle.book_law.proofs.Fits.{ReplyFits, TextFits}
use Rattle.world_rules.specs.Bursts.{Ran, last_turn}
use Rattle.world_rules.specs.Frame.{Frame, group}
use Rattle.world_rules.specs.Nodes.{Node, NodeWork, aside_of, does, idle, past_after}
use Rattle.world_rules.specs.Nodes.Deed.{Performs}
use Rattle.world_rules.specs.Parts.{performs_all}
use Rattle.world_rules.specs.Played.{Played}
use Rattle.world_rules.specs.Steps.{Burst, IsBurst, bursts}
use Rattle.world_rules.specs.Worlds.{World, home_of}
use Rattle.world_course.specs.Corresponds.{Corresponds, IsAsked, IsMember, IsOf, Lifts, Stands}
use Rattle.world_course.specs.Processes.{IsProcess, IsRunner, StageStands, StandsHere}
use Rattle.world_course.proofs.Begun.{views_same}
use Rattle.world_course.proofs.Bursts.{RanTo, ran_to}
use Rattle.world_course.proofs.Program.{Program, callable, fitting}
use Rattle.world_course.proofs.Changing.{Changed, NodeWith, asked_on, one_process, one_reached}

-- ---- the work of a burst

pub performs_node : (n : ℕ) (lines : List Line) (v : NodeWork) → (performs_all n lines v).node ≡ v.node
performs_node n [] v = refl
performs_node n (line ∷ lines) v = performs_node n lines (does (Performs (record { place = n; line = line })) v)

pub performs_aside : (n : ℕ) (lines : List Line) (v : NodeWork) → aside_of (performs_all n lines v).deeds ≡ aside_of v.deeds ++ placed n lines
performs_aside n [] v = sym (append-nil (aside_of v.deeds))
performs_aside n (line ∷ lines) v =
    performs_aside n lines (does (Performs (record { place = n; line = line })) v) ∙ append_assoc (aside_of v.deeds) (record { place = n; line = line } ∷ []) (placed n lines)

performs_past : (g : Group Message) (m n : ℕ) (lines : List Line) (v : NodeWork) (past : Past Message) → past_after g m (performs_all n lines v).deeds past ≡ past_after g m v.deeds past
performs_past g m n [] v past = refl
performs_past g m n (line ∷ lines) v past = performs_past g m n lines (does (Performs (record { place = n; line = line })) v) past

-- ---- its turns

few_turns : (f : Frame) (r : Played) → f.settings.turns ≤ TURNS → (last_turn f r ≤ most_turns) ⊎ (last_turn f r ≤ r.turns)
few_turns f r few = ⊎_elim (λ (lt : r.turns < f.settings.turns). inl (omega (arith, few, lt))) (λ (le : f.settings.turns ≤ r.turns). inr (omega (arith, le))) (cases_lt r.turns f.settings.turns)

-- ---- a burst

-- process i computes at its member m
pub record Starts (f : Frame) (single : Test) (w : World) (c : Course) (i m : ℕ) (r : Played) : Type 0 where
  pub of : IsOf f c m i
  pub process : IsProcess f.computes i of.begun (c.runners i) (w.nodes m)
  pub begun : of.begun.place ≤ (w.nodes m).copies.applied
  pub reaches : r.place ≤ (w.nodes m).copies.applied
  pub is : IsRunner f.computes i r process.runner

pub starts : (f : Frame) (single : Test) (w : World) (c : Course) (i m : ℕ) (r : Played) → Stands f single w c → (w.nodes m).played i ≡ Some r → Starts f single w c i m r
starts f single w c i m r h here =
    let of : IsOf f c m i = h.played m i r here in
    let process : IsProcess f.computes i of.begun (c.runners i) (w.nodes m) = subst (λ (k : ℕ). IsProcess f.computes i of.begun (c.runners i) (w.nodes k)) of.home (h.processes i of.begun of.there) in
    let stands : StandsHere f.computes i of.begun process.runner (w.nodes m).copies.applied (Some r) =
    subst (λ (o : Option Played). StandsHere f.computes i of.begun process.runner (w.nodes m).copies.applied o) here process.stands in
    record { of = of; process = process; begun = stands.0; reaches = stands.1; is = stands.2 }

-- a burst lifts, and reads no single object
pub record BurstLifts (f : Frame) (single : Test) (c : Course) (v : World) (lines : List Line) : Type 0 where
  pub lifts : Lifts f single c v
  pub shared : (l : Line) (o : ObjectId) → In l lines → Calls l.action o → single o ≡ false

pub burst_lifts : (f : Frame) (single : Test) (fits_state : StateFits) (fits_args : ArgsFit) (fits_text : TextFits) (fits_reply : ReplyFits) (w : World) (c : Course) (i : ProcessNo) (place turns : ℕ) (burst : Burst)
    → Program f fits_state fits_args fits_text fits_reply → Corresponds f single w c → (w.nodes (home_of f w i.0)).member.applied ≤ (w.nodes (home_of f w i.0)).copies.applied → IsBurst f w i place turns burst
    → BurstLifts f single c (bursts f w i place burst).world burst.reads
burst_lifts f single fits_state fits_args fits_text fits_reply w c i place turns burst program corresponds noted b =
    record {
      lifts = (done.course, done.leads, record { stands = one_process f single w v c done.course h done.later i.0 m done.one changed aside asked; reached = one_reached w v c done.course f i.0 m changed done.one.list corresponds.reached });
      shared = done.shared;
    }
  where
    h : Stands f single w c
    h = corresponds.stands

    m : ℕ
    m = home_of f w i.0

    v : World
    v = (bursts f w i place burst).world

    s : Starts f single w c i.0 m b.start
    s = starts f single w c i.0 m b.start h b.here

    x : Runner
    x = s.process.runner

    here : IsMember f single c h.came m (w.nodes m)
    here = h.members m

    free : x.message ≡ None
    free = subst (StageStands f.computes i.0 x) b.computing s.is.stage

    low : place ≤ (w.nodes m).copies.applied
    low = let one = b.before in omega (arith, one, noted)

    home : x.member ≡ m
    home = s.process.member ∙ s.of.home

    reached : place ≤ c.applied x.member
    reached = subst (λ (k : ℕ). place ≤ c.applied k) (sym home) (subst (λ (k : ℕ). place ≤ k) (sym here.applied) low)

    ran : Ran f (copies_at single f.performs c.list place).objects place i (last_turn f b.start) b.start burst.reads burst.end
    ran = subst (λ (k : Copied). Ran f k.objects place i (last_turn f b.start) b.start burst.reads burst.end)
        (views_same f single w c fits_args fits_text fits_reply h (fitting f fits_state fits_args fits_text fits_reply program single c h.came) m place low) b.ran

    after : x.place ≤ place
    after = let e = s.is.place in let le = b.after in omega (arith, e, le)

    done : RanTo f single c h.came i.0 place x.member burst.reads burst.end
    done = ran_to f single fits_state fits_args program.settles (callable f fits_state fits_args fits_text fits_reply program) c h.came i b.start x place (last_turn f b.start) burst.reads burst.end (few_turns f b.start program.settings.turns) s.process.runs
        free after reached s.is.text s.is.args s.is.replies s.is.place ran

    reaches : place ≤ (w.nodes m).copies.applied
    reaches = low

    now : Node
    now = record (w.nodes m) { played = with_at (w.nodes m).played i.0 (Some burst.end) }

    at_node : v.nodes m ≡ now
    at_node = at_own w.nodes m (record (performs_all place burst.reads (idle (w.nodes m))).node { played = with_at (performs_all place burst.reads (idle (w.nodes m))).node.played i.0 (Some burst.end) })
        ∙ ap (λ (n : Node). record n { played = with_at n.played i.0 (Some burst.end) }) (performs_node place burst.reads (idle (w.nodes m)))

    with_end : NodeWith (w.nodes m) now i.0 burst.end
    with_end = record {
      same = record { copies = refl; entries = refl };
      plays = at_own (w.nodes m).played i.0 (Some burst.end);
      others = λ k apart. at_other (w.nodes m).played i.0 (Some burst.end) k apart;
    }

    changed : Changed f w v c done.course i.0 m
    changed = record {
      begun = s.of.begun;
      played = burst.end;
      runner = done.runner;
      there = s.of.there;
      home = s.of.home;
      place = s.begun;
      reaches = let e = done.is.place in let le = done.below in omega (arith, e, le, reaches);
      node = subst (λ (n : Node). NodeWith (w.nodes m) n i.0 burst.end) (sym at_node) with_end;
      nodes = λ k apart. at_other w.nodes m (record (performs_all place burst.reads (idle (w.nodes m))).node { played = with_at (performs_all place burst.reads (idle (w.nodes m))).node.played i.0 (Some burst.end) }) k apart;
      runs = done.runs;
      member = done.home ∙ s.process.member;
      is = done.is;
    }

    aside : done.course.aside ≡ v.aside
    aside = done.aside ∙ ap (λ (l : List Placed). l ++ placed place burst.reads) h.beside ∙ ap (λ (l : List Placed). w.aside ++ l) (sym (performs_aside place burst.reads (idle (w.nodes m))))

    asked : (y : Message) → IsIn y (v.past.submitted y.process.0) → IsAsked single done.course y
    asked y is = asked_on single c done.course y done.asked
        (h.asked y (subst (λ (p : Past Message). IsIn y (p.submitted y.process.0)) (performs_past (group f) m place burst.reads (idle (w.nodes m)) w.past) is))
