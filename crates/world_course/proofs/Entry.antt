-- A member applies its accepted entries, one by one.
use Rattle.std.proofs.Common.{◌≡◌, ◌≤◌, ◌<◌, ◌==◌, ℕ, zero, suc, ◌⊎◌, inl, inr, Bool, true, false, List, Option, Some, None, refl, sym, ap, ◌∙◌, subst, arith, length, take, if◌then◌else◌}
use Rattle.std.proofs.lemmas.Bool.{cases_eq}
use Rattle.std.specs.Prelude.{slice_get}
use Rattle.value_core.specs.declared.action.Action.{Action}
use Rattle.value_core.specs.declared.meaning.Tried.{Tried}
use Rattle.value_core.specs.declared.message.Message.{Message}
use Rattle.guard_queue.specs.Settles.{is_blocked}
use Rattle.group_rules.specs.Messages.{Group}
use Rattle.group_rules.specs.Member.{Member}
use Rattle.group_rules.specs.Sets.{In as IsIn}
use Rattle.group_rules.specs.World.{Past}
use Rattle.object_manager.specs.After.{Copied}
use Rattle.book_law.specs.Passes.{Test}
use Rattle.book_law.specs.Course.{Course, Next, applying}
use Rattle.book_law.specs.Course.Next.{Applies}
use Rattle.book_law.specs.Fitness.{ArgsFit, StateFits}
use Rattle.book_law.proofs.Courses.{at_other}
use Rattle.book_law.proofs.Fits.{ReplyFits, TextFits}
use Rattle.world_rules.specs.Applying.{applies_one, copies_take, tries_as, tries_of, tries_read, tries_reads}
use Rattle.world_rules.specs.Bursts.{read_on}
use Rattle.world_rules.specs.Frame.{Frame, group}
use Rattle.world_rules.specs.Nodes.{Deed, Node, NodeWork, known, past_after}
use Rattle.world_rules.specs.Played.{Played, Stage}
use Rattle.world_rules.specs.Played.Stage.{Computing, Acting, Submitted, Reading, Asking, Over}
use Rattle.world_rules.specs.Processes.{Begun, home_in, singles_of, single_by}
use Rattle.world_rules.specs.Worlds.{World}
use Rattle.world_course.specs.Chain.Leads.{Stays, By}
use Rattle.world_course.specs.Corresponds.{Agrees, Corresponds, Lifts}
use Rattle.world_course.specs.Group.{IsAccepted, IsAgreed}
use Rattle.world_course.specs.Works.{at_work}
use Rattle.world_course.proofs.Applied.{Applied, applied, entry_applied}
use Rattle.world_course.proofs.Begun.{whole_fewer, whole_same}
use Rattle.world_course.proofs.Changing.{leads_on, lifts_on}
use Rattle.world_course.proofs.Listing.{Listed, listed}
use Rattle.world_course.proofs.Program.{Program, fitting}
use Rattle.world_course.proofs.Tries.{node_at, performing, reads_lift}
use Rattle.world_course.proofs.Working.{OnlyPlays, entry_applies, entry_only, takes_entry}

-- ---- what stays of a work

-- the member, what the group remembers, and how many entries were applied
pub record Stills (g : Group Message) (m : ℕ) (v u : NodeWork) : Type 0 where
  pub member : u.node.member ≡ v.node.member
  pub applied : u.node.copies.applied ≡ v.node.copies.applied
  pub past : (p : Past Message) → past_after g m u.deeds p ≡ past_after g m v.deeds p

pub still : (g : Group Message) (m : ℕ) (v : NodeWork) → Stills g m v v
still g m v = record { member = refl; applied = refl; past = λ p. refl }

pub still_on : (g : Group Message) (m : ℕ) (v u t : NodeWork) → Stills g m v u → Stills g m u t → Stills g m v t
still_on g m v u t one two = record { member = two.member ∙ one.member; applied = two.applied ∙ one.applied; past = λ p. two.past p ∙ one.past p }

still_if : (g : Group Message) (m i : ℕ) (r : Played) (act : Action) (t : Tried) (v : NodeWork) (b : Bool) → Stills g m v (if b then v else performing i r act t v)
still_if g m i r act t v true = still g m v
still_if g m i r act t v false = record { member = refl; applied = refl; past = λ p. refl }

still_as : (f : Frame) (g : Group Message) (m i : ℕ) (r : Played) (stage : Stage) (v : NodeWork) → Stills g m v (tries_as f i r stage v)
still_as f g m i r (Reading act) v = still_if g m i r act (read_on f.performs v.node.copies.objects act) v (is_blocked (read_on f.performs v.node.copies.objects act))
still_as f g m i r Computing v = still g m v
still_as f g m i r (Acting act) v = still g m v
still_as f g m i r (Submitted act) v = still g m v
still_as f g m i r (Asking act) v = still g m v
still_as f g m i r (Over act) v = still g m v

still_of : (f : Frame) (g : Group Message) (m i : ℕ) (o : Option Played) (v : NodeWork) → Stills g m v (tries_of f i o v)
still_of f g m i None v = still g m v
still_of f g m i (Some r) v = still_as f g m i r r.stage v

pub still_reads : (f : Frame) (g : Group Message) (m n : ℕ) (v : NodeWork) → Stills g m v (tries_reads f n v)
still_reads f g m zero v = still g m v
still_reads f g m (suc i) v =
    still_on g m v (tries_reads f i v) (tries_read f i (tries_reads f i v)) (still_reads f g m i v) (still_of f g m i ((tries_reads f i v).node.played i) (tries_reads f i v))

-- ---- tests

-- a test that agrees after entries agrees after fewer
pub agrees_take : (f : Frame) (single : Test) (list : List Message) (n : ℕ) → Agrees f single list → Agrees f single (take n list)
agrees_take f single list n agrees o lt =
    let more = whole_fewer f list n in
    agrees o (omega (arith, lt, more)) ∙ ap (λ (b : Option Begun). single_by f b o.number) (whole_same f list n o.process lt)

-- ---- the facts of the group stay where only copies change

pub agreed_on : (w v : World) → IsAgreed w → ((k : ℕ) → (v.nodes k).member ≡ (w.nodes k).member) → ((i : ℕ) → v.past.submitted i ≡ w.past.submitted i) → ((k : ℕ) → (v.nodes k).copies.applied ≤ (w.nodes k).member.accepted) → IsAgreed v
agreed_on w v h same submitted within = record {
  within = λ k. subst (λ (s : Member Message). (v.nodes k).copies.applied ≤ s.accepted) (sym (same k)) (within k);
  same = λ m k n x y one two. h.same m k n x y (back m n x one) (back k n y two);
  once = λ m n k x one two. h.once m n k x (back m n x one) (back m k x two);
  submitted = λ m n x one. subst (λ (l : List Message). IsIn x l) (sym (submitted x.process.0)) (h.submitted m n x (back m n x one));
}
  where
    back : (k n : ℕ) (x : Message) → IsAccepted (v.nodes k) n x → IsAccepted (w.nodes k) n x
    back k n x one = record {
      accepted = subst (λ (s : Member Message). n < s.accepted) (same k) one.accepted;
      there = subst (λ (s : Member Message). slice_get s.log n ≡ Some x) (same k) one.there;
    }

-- at work, where the member stays
pub agreed_at : (f : Frame) (m : ℕ) (w : World) (v u : NodeWork) → IsAgreed (at_work f m w v) → u.node.member ≡ v.node.member → ((p : Past Message) → past_after (group f) m u.deeds p ≡ past_after (group f) m v.deeds p)
    → u.node.copies.applied ≤ v.node.member.accepted → IsAgreed (at_work f m w u)
agreed_at f m w v u h member past within = agreed_on (at_work f m w v) (at_work f m w u) h (λ k. same k (cases_eq k m)) (λ i. ap (λ (p : Past Message). p.submitted i) (past w.past)) (λ k. low k (cases_eq k m))
  where
    same : (k : ℕ) → (k ≡ m) ⊎ (k ≡ m → ⊥) → ((at_work f m w u).nodes k).member ≡ ((at_work f m w v).nodes k).member
    same k (inl e) = subst (λ (n : ℕ). ((at_work f m w u).nodes n).member ≡ ((at_work f m w v).nodes n).member) (sym e)
        (ap (λ (n : Node). n.member) (node_at f m w u) ∙ member ∙ ap (λ (n : Node). n.member) (sym (node_at f m w v)))
    same k (inr apart) = ap (λ (n : Node). n.member) (at_other w.nodes m u.node k apart ∙ sym (at_other w.nodes m v.node k apart))

    low : (k : ℕ) → (k ≡ m) ⊎ (k ≡ m → ⊥) → ((at_work f m w u).nodes k).copies.applied ≤ ((at_work f m w v).nodes k).member.accepted
    low k (inl e) = subst (λ (n : ℕ). ((at_work f m w u).nodes n).copies.applied ≤ ((at_work f m w v).nodes n).member.accepted) (sym e)
        (subst (λ (n : Node). n.copies.applied ≤ ((at_work f m w v).nodes m).member.accepted) (sym (node_at f m w u))
        (subst (λ (n : Node). u.node.copies.applied ≤ n.member.accepted) (sym (node_at f m w v)) within))
    low k (inr apart) =
        let le = h.within k in
        subst (λ (n : Node). n.copies.applied ≤ ((at_work f m w v).nodes k).member.accepted) (at_other w.nodes m v.node k apart ∙ sym (at_other w.nodes m u.node k apart)) le

-- ---- one entry

-- the work of one entry: one more is applied, and the group sees nothing
pub record OneMore (g : Group Message) (m : ℕ) (v u : NodeWork) : Type 0 where
  pub member : u.node.member ≡ v.node.member
  pub applied : u.node.copies.applied ≡ suc v.node.copies.applied
  pub past : (p : Past Message) → past_after g m u.deeds p ≡ past_after g m v.deeds p

pub one_more : (f : Frame) (m : ℕ) (x : Message) (v : NodeWork) → OneMore (group f) m v (applies_one f m x v)
one_more f m x v = record {
  member = reads.member ∙ only.member;
  applied = reads.applied ∙ ap (λ (k : Copied). k.applied) only.copies ∙ entry_applied (singles_of f (known f v.node)) f.performs v.node.copies x (home_in (known f v.node) x.process.0 == m);
  past = λ p. reads.past p ∙ ap (λ (ds : List Deed). past_after (group f) m ds p) only.deeds;
}
  where
    u : NodeWork
    u = takes_entry f m (known f v.node) v.node.copies.processes (suc v.node.copies.applied) x v

    only : OnlyPlays (copies_take f m (known f v.node) x v) u
    only = entry_only f m (known f v.node) v.node.copies.processes (suc v.node.copies.applied) x v

    reads : Stills (group f) m u (applies_one f m x v)
    reads = still_reads f (group f) m u.node.copies.processes u

-- the copies take the entry, its lines are answered, and its process begins
pub taken_lifts : (f : Frame) (single : Test) (fits_state : StateFits) (fits_args : ArgsFit) (fits_text : TextFits) (fits_reply : ReplyFits) (w : World) (c : Course) (m : ℕ) (x : Message) (v : NodeWork)
    → Program f fits_state fits_args fits_text fits_reply → Corresponds f single (at_work f m w v) c → IsAgreed (at_work f m w v) → IsAccepted v.node v.node.copies.applied x
    → Agrees f single (take (suc v.node.copies.applied) v.node.member.log)
    → Lifts f single c (at_work f m w (takes_entry f m (known f v.node) v.node.copies.processes (suc v.node.copies.applied) x v))
taken_lifts f single fits_state fits_args fits_text fits_reply w c m x v program corresponds agreed here agrees =
    (d, leads_on single f.performs f.computes c l.course d l.leads (By l.course d d step (Stays d)), now)
  where
    before : World
    before = at_work f m w v

    node_is : before.nodes m ≡ v.node
    node_is = node_at f m w v

    u : NodeWork
    u = takes_entry f m (known f v.node) v.node.copies.processes (suc v.node.copies.applied) x v

    there : IsAccepted (before.nodes m) (before.nodes m).copies.applied x
    there = subst (λ (n : Node). IsAccepted n n.copies.applied x) (sym node_is) here

    l : Listed f single before c m x
    l = listed f single fits_state fits_args fits_text fits_reply before c m x program corresponds.stands corresponds.reached agreed there
        (subst (λ (n : Node). Agrees f single (take (suc n.copies.applied) n.member.log)) (sym node_is) agrees)

    d : Course
    d = applying single f.performs l.course m x

    step : Next single f.performs f.computes l.course d
    step = Applies m x l.next refl

    done : Applied f before (at_work f m w u) m x
    done = entry_applies f single w l.course m x v l.stands

    applied_there : ((at_work f m w u).nodes m).copies.applied ≡ suc ((before.nodes m).copies.applied)
    applied_there = ap (λ (k : Copied). k.applied) done.node.copies
        ∙ entry_applied (singles_of f (known f (before.nodes m))) f.performs (before.nodes m).copies x (home_in (known f (before.nodes m)) x.process.0 == m)

    reached : (l.course.list ≡ c.list) ⊎ (length l.course.list ≤ suc ((before.nodes m).copies.applied)) → (k : ℕ) × (length d.list ≤ ((at_work f m w u).nodes k).copies.applied)
    reached (inl same) = (corresponds.reached.0, grown (cases_eq corresponds.reached.0 m))
      where
        low : length d.list ≤ (before.nodes corresponds.reached.0).copies.applied
        low = subst (λ (z : List Message). length z ≤ (before.nodes corresponds.reached.0).copies.applied) (sym same) corresponds.reached.1

        grown : (corresponds.reached.0 ≡ m) ⊎ (corresponds.reached.0 ≡ m → ⊥) → length d.list ≤ ((at_work f m w u).nodes corresponds.reached.0).copies.applied
        grown (inl e) = subst (λ (k : ℕ). length d.list ≤ ((at_work f m w u).nodes k).copies.applied) (sym e)
            (let le : length d.list ≤ (before.nodes m).copies.applied = subst (λ (k : ℕ). length d.list ≤ (before.nodes k).copies.applied) e low in
            let more = applied_there in omega (arith, le, more))
        grown (inr apart) = subst (λ (n : Node). length d.list ≤ n.copies.applied) (sym (done.nodes corresponds.reached.0 apart)) low
    reached (inr le) = (m, let more = applied_there in omega (arith, le, more))

    now : Corresponds f single (at_work f m w u) d
    now = record {
      stands = applied f single fits_args fits_text fits_reply before (at_work f m w u) l.course m x l.stands (fitting f fits_state fits_args fits_text fits_reply program single l.course (let z = l.stands in z.came)) l.next there.there done;
      reached = reached l.long;
    }

-- and then the reads that wait are tried
pub entry_lifts : (f : Frame) (single : Test) (fits_state : StateFits) (fits_args : ArgsFit) (fits_text : TextFits) (fits_reply : ReplyFits) (w : World) (c : Course) (m : ℕ) (x : Message) (v : NodeWork)
    → Program f fits_state fits_args fits_text fits_reply → Corresponds f single (at_work f m w v) c → IsAgreed (at_work f m w v) → IsAccepted v.node v.node.copies.applied x
    → Agrees f single (take (suc v.node.copies.applied) v.node.member.log) → Lifts f single c (at_work f m w (applies_one f m x v))
entry_lifts f single fits_state fits_args fits_text fits_reply w c m x v program corresponds agreed here agrees =
    let u : NodeWork = takes_entry f m (known f v.node) v.node.copies.processes (suc v.node.copies.applied) x v in
    let l = taken_lifts f single fits_state fits_args fits_text fits_reply w c m x v program corresponds agreed here agrees in
    lifts_on f single c l.0 (at_work f m w (applies_one f m x v)) l.1
    (reads_lift f single fits_state fits_args fits_text fits_reply w l.0 m u.node.copies.processes u program l.2)
