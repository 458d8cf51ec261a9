-- At each moment of a member's part the world stands for a course, beside a run of the group: piece by piece.
use Rattle.std.proofs.Common.{◌≡◌, ◌<◌, ◌==◌, ℕ, suc, Bool, true, false, nat_lt, if◌then◌else◌, List, [], inl, inr, refl, sym, ap, ◌∙◌, subst, arith, take, ◌++◌, ◌∷◌, append-nil, append_assoc}
use Rattle.value_core.specs.declared.message.Message.{Message}
use Rattle.group_rules.specs.Member.{Member}
use Rattle.group_rules.specs.Steps.{note}
use Rattle.object_manager.specs.After.{Copied}
use Rattle.value_core.specs.Meaning.{Computes, Performs}
use Rattle.book_law.specs.Course.{Course, Next}
use Rattle.book_law.specs.Course.Next.{Submits, Orders, Forks, Applies, Reads_at, Takes_call, Hears_answer}
use Rattle.book_law.specs.Events.{In}
use Rattle.book_law.specs.Passes.{Test}
use Rattle.world_rules.specs.Applying.{copies_take, notes, tries_read}
use Rattle.world_rules.specs.Frame.{Frame, group}
use Rattle.world_rules.specs.Mail.{Errand}
use Rattle.world_rules.specs.Nodes.{Deed, NodeWork, entries_of, joins, past_after}
use Rattle.world_rules.specs.Nodes.{known as known_by}
use Rattle.world_rules.specs.Owners.{holds, takes}
use Rattle.world_rules.specs.Parts.{asks_again_of}
use Rattle.world_rules.specs.Processes.{home_in, singles_of}
use Rattle.world_rules.specs.Steps.{untouched}
use Rattle.world_rules.specs.Worlds.{World}
use Rattle.world_law.specs.Grouped.{Grouped}
use Rattle.world_law.specs.Moments.{IsMoment, Knows, LeadsOn, Lives, MembersAgree, MomentsHold, Others}
use Rattle.world_law.proofs.AtWork.{at_still}
use Rattle.world_law.proofs.Events.{world_is}
use Rattle.world_law.proofs.Still.{Still, still_again_of, still_read, still_takes}
use Rattle.world_course.specs.Chain.{Leads}
use Rattle.world_course.specs.Chain.Leads.{Stays, By}
use Rattle.world_course.specs.Corresponds.{Agrees, Corresponds, Lifts}
use Rattle.world_course.specs.Errands.{ErrandStands}
use Rattle.world_course.specs.Group.{IsAccepted, IsAgreed}
use Rattle.world_course.specs.Works.{at_work}
use Rattle.world_course.proofs.Applied.{entry_applied}
use Rattle.world_course.proofs.Carrying.{Carries, held_carries, holds_carries, own_node, silent_lifts}
use Rattle.world_course.proofs.Catching.{joins_on}
use Rattle.world_course.proofs.Entry.{taken_lifts}
use Rattle.world_course.proofs.Later.{Later, errand_later, leads_later}
use Rattle.world_course.proofs.Program.{Program}
use Rattle.world_course.proofs.Reaching.{again_of, errand_taken}
use Rattle.world_course.proofs.Silent.{Silent, silent_entry, silent_notes, silent_read}
use Rattle.world_course.proofs.Tries.{read_lifts}
use Rattle.world_course.proofs.Working.{OnlyPlays, entry_only}
use Rattle.node_rules.specs.Conditions.{Fitness}
use Rattle.node_rules.specs.Moments.{Goes, Moment, holds_none, takes_entry, works}
use Rattle.node_rules.specs.Moments.Goes.{Takes_entry, Tries_read, Notes, Opens, Takes, Holds, Asks_again}

-- what is known of a member's part: the program and the group
pub record Known (f : Frame) (fitness : Fitness) (w : World) (m : ℕ) : Type 0 where
  pub program : Program f fitness.state fitness.args fitness.text fitness.reply
  pub group : MomentsHold f
  pub grouped : Grouped f w
  pub lives : Lives f w m

-- at this moment the world stands for the course, and so do the Asks and Answers at hand
pub record At (f : Frame) (single : Test) (w : World) (m : ℕ) (u : Moment) : Type 0 where
  pub course : Course
  pub carries : Carries f single w course m u.work
  pub hand : (errand : Errand) → In errand u.hand → ErrandStands f single course m errand
  pub moment : IsMoment f w m u.work

-- and its list is this one, which may have grown
pub record Gone (f : Frame) (single : Test) (w : World) (m : ℕ) (base : List Message) (u : Moment) : Type 0 where
  pub at : At f single w m u
  pub more : List Message
  pub grew : at.course.list ≡ base ++ more

next_grows : (single : Test) (p : Performs) (q : Computes) (c d : Course) → Next single p q c d → (more : List Message) × (d.list ≡ c.list ++ more)
next_grows single p q c d (Submits j x y here free asks is) = ([], ap (λ (z : Course). z.list) is ∙ sym (append-nil c.list))
next_grows single p q c d (Orders x r here was new may plain is) = (x ∷ [], ap (λ (z : Course). z.list) is)
next_grows single p q c d (Forks x born member was new forks is) = (x ∷ [], ap (λ (z : Course). z.list) is)
next_grows single p q c d (Applies k y here is) = ([], ap (λ (z : Course). z.list) is ∙ sym (append-nil c.list))
next_grows single p q c d (Reads_at j x n line here reads is) = ([], ap (λ (z : Course). z.list) is ∙ sym (append-nil c.list))
next_grows single p q c d (Takes_call i x r call takes is) = ([], ap (λ (z : Course). z.list) is ∙ sym (append-nil c.list))
next_grows single p q c d (Hears_answer j x r here has reached is) = ([], ap (λ (z : Course). z.list) is ∙ sym (append-nil c.list))

-- a list only grows
leads_grow : (single : Test) (p : Performs) (q : Computes) (c d : Course) → Leads single p q c d → (more : List Message) × (d.list ≡ c.list ++ more)
leads_grow single p q c d (Stays e) = ([], sym (append-nil c.list))
leads_grow single p q c d (By e g h next rest) =
    let one = next_grows single p q c g next in
    let more = leads_grow single p q g d rest in
    (one.0 ++ more.0, more.1 ∙ ap (λ (l : List Message). l ++ more.0) one.1 ∙ append_assoc c.list one.0 more.0)

-- ---- what the group says

knows : (w : World) (m n : ℕ) (x : Message) → IsAccepted (w.nodes m) n x → Knows (w.nodes m).member n x
knows w m n x h = record { accepted = h.accepted; there = h.there }

agreed_of : (w : World) → MembersAgree w → IsAgreed w
agreed_of w h = record {
  within = h.within;
  same = λ m k n x y one two. h.same m k n x y (knows w m n x one) (knows w k n y two);
  once = λ m n k x one two. h.once m n k x (knows w m n x one) (knows w m k x two);
  submitted = λ m n x one. h.submitted m n x (knows w m n x one);
}

pub agreed_at : (f : Frame) (fitness : Fitness) (single : Test) (w : World) (m : ℕ) (v : NodeWork) → Known f fitness w m → IsMoment f w m v → IsAgreed (at_work f m w v)
agreed_at f fitness single w m v known moment = let g = known.group in agreed_of (at_work f m w v) (g.facts w m v known.grouped moment)

pub entry_number : (f : Frame) (m : ℕ) (x : Message) (v : NodeWork) → (takes_entry f m x v).node.copies.applied ≡ suc v.node.copies.applied
entry_number f m x v = ap (λ (c : Copied). c.applied) only.copies
    ∙ entry_applied (singles_of f (known_by f v.node)) f.performs v.node.copies x (home_in (known_by f v.node) x.process.0 == m)
  where
    only : OnlyPlays (copies_take f m (known_by f v.node) x v) (takes_entry f m x v)
    only = entry_only f m (known_by f v.node) v.node.copies.processes (suc v.node.copies.applied) x v

-- an entry more is applied
entry_moment : (f : Frame) (w : World) (m : ℕ) (x : Message) (v : NodeWork) → IsMoment f w m v → v.node.copies.applied < v.node.member.accepted → IsMoment f w m (takes_entry f m x v)
entry_moment f w m x v h less = record {
  events = h.events;
  run = world_is f m u (untouched w) ∙ at_still (group f) w m v u only.member (ap (λ (ds : List Deed). past_after (group f) m ds w.past) only.deeds)
      ∙ sym (world_is f m v (untouched w)) ∙ h.run;
  noted = let a = h.noted in omega (arith, a, applied, same_applied);
  below = omega (arith, less, applied, same_accepted);
  others = subst Others (sym only.deeds) h.others;
}
  where
    u : NodeWork
    u = takes_entry f m x v

    only : OnlyPlays (copies_take f m (known_by f v.node) x v) u
    only = entry_only f m (known_by f v.node) v.node.copies.processes (suc v.node.copies.applied) x v

    applied : u.node.copies.applied ≡ suc v.node.copies.applied
    applied = ap (λ (c : Copied). c.applied) only.copies
        ∙ entry_applied (singles_of f (known_by f v.node)) f.performs v.node.copies x (home_in (known_by f v.node) x.process.0 == m)

    same_applied : u.node.member.applied ≡ v.node.member.applied
    same_applied = ap (λ (s : Member Message). s.applied) only.member

    same_accepted : u.node.member.accepted ≡ v.node.member.accepted
    same_accepted = ap (λ (s : Member Message). s.accepted) only.member

-- what was applied then
pub entry_entries : (f : Frame) (m : ℕ) (x : Message) (v : NodeWork) → entries_of (takes_entry f m x v).node ≡ take (suc v.node.copies.applied) v.node.member.log
entry_entries f m x v =
    ap (λ (n : ℕ). take n (takes_entry f m x v).node.member.log) (entry_number f m x v) ∙ ap (λ (s : Member Message). take (suc v.node.copies.applied) s.log) only.member
  where
    only : OnlyPlays (copies_take f m (known_by f v.node) x v) (takes_entry f m x v)
    only = entry_only f m (known_by f v.node) v.node.copies.processes (suc v.node.copies.applied) x v

still_moment : (f : Frame) (w : World) (m : ℕ) (v u : NodeWork) → MomentsHold f → IsMoment f w m v → Still (group f) m v u → IsMoment f w m u
still_moment f w m v u group h s = let l = group.stays w m v u h s.member (s.past w.past) s.applied (s.others h.others) in l.moment

-- ---- piece by piece

later_of : (f : Frame) (single : Test) (w : World) (c d : Course) (m : ℕ) (v : NodeWork) → Carries f single w c m v → Leads single f.performs f.computes c d → Later f c d
later_of f single w c d m v h leads = let k = h.corresponds in let st = k.stands in leads_later f single c d st.came leads

pub carried_at : (f : Frame) (single : Test) (w : World) (c d : Course) (m : ℕ) (v t : NodeWork) (hand : List Errand) → Carries f single w c m v → Leads single f.performs f.computes c d → Carries f single w d m t
    → ((e : Errand) → In e hand → ErrandStands f single c m e) → IsMoment f w m t → Gone f single w m c.list (record { work = t; hand = hand })
carried_at f single w c d m v t hand h leads k stand moment =
    let g = leads_grow single f.performs f.computes c d leads in
    record {
      at = record {
        course = d;
        carries = k;
        hand = λ e is. errand_later f single c d m e (later_of f single w c d m v h leads) (stand e is);
        moment = moment;
      };
      more = g.0;
      grew = g.1;
    }

notes_on : (f : Frame) (single : Test) (m : ℕ) (w : World) (c : Course) (v : NodeWork) → take v.node.copies.applied (notes f m v).node.member.log ≡ take v.node.copies.applied v.node.member.log → Corresponds f single (at_work f m w v) c
    → Corresponds f single (at_work f m w (notes f m v)) c
notes_on f single m w c v kept h = go (nat_lt v.node.member.applied v.node.copies.applied) kept
  where
    u : NodeWork
    u = joins (note (group f) m v.node.copies.applied v.node.member) v

    go : (b : Bool) → take v.node.copies.applied (if b then u else v).node.member.log ≡ take v.node.copies.applied v.node.member.log → Corresponds f single (at_work f m w (if b then u else v)) c
    go true keeps = joins_on f single m w c (note (group f) m v.node.copies.applied v.node.member) v keeps h
    go false keeps = h

silent_at : (f : Frame) (single : Test) (w : World) (m : ℕ) (u : Moment) (v : NodeWork) → (a : At f single w m u) → Silent u.work v → Lifts f single a.course (at_work f m w v) → IsMoment f w m v → Gone f single w m a.course.list (works v u)
silent_at f single w m u v a s l moment =
    let k = silent_lifts f single w a.course m u.work v a.carries s l in
    carried_at f single w a.course k.0 m u.work v u.hand a.carries k.1 k.2 a.hand moment

pub same_at : (f : Frame) (single : Test) (w : World) (m : ℕ) (v : Moment) → (a : At f single w m v) → Gone f single w m a.course.list v
same_at f single w m v a = record { at = a; more = []; grew = sym (append-nil a.course.list) }

pub goes : (f : Frame) (fitness : Fitness) (single : Test) (w : World) (m : ℕ) (u v : Moment) → Known f fitness w m → (a : At f single w m u) → Goes f m u v → Agrees f single (entries_of v.work.node) → Gone f single w m a.course.list v
goes f fitness single w m u v known a (Takes_entry x due within is) agrees =
    let p = known.program in
    let k = a.carries in
    let here : IsAccepted u.work.node u.work.node.copies.applied x = record { accepted = due.accepted; there = due.there } in
    subst (Gone f single w m a.course.list) (sym is)
    (silent_at f single w m u (takes_entry f m x u.work) a
    (silent_entry f m (known_by f u.work.node) u.work.node.copies.processes (suc u.work.node.copies.applied) x u.work)
    (taken_lifts f single fitness.state fitness.args fitness.text fitness.reply w a.course m x u.work p k.corresponds (agreed_at f fitness single w m u.work known a.moment) here
    (subst (Agrees f single) (entry_entries f m x u.work) (subst (λ (z : Moment). Agrees f single (entries_of z.work.node)) is agrees)))
    (entry_moment f w m x u.work a.moment due.accepted))
goes f fitness single w m u v known a (Tries_read i is) agrees =
    let k = a.carries in
    subst (Gone f single w m a.course.list) (sym is)
    (silent_at f single w m u (tries_read f i u.work) a (silent_read f i u.work)
    (read_lifts f single fitness.state fitness.args fitness.text fitness.reply w a.course m i u.work known.program k.corresponds)
    (still_moment f w m u.work (tries_read f i u.work) known.group a.moment (still_read f (group f) m i u.work)))
goes f fitness single w m u v known a (Notes is) agrees =
    let g = known.group in
    let k = a.carries in
    let n : LeadsOn f w m u.work (notes f m u.work) = g.notes w m u.work known.lives a.moment in
    subst (Gone f single w m a.course.list) (sym is)
    (silent_at f single w m u (notes f m u.work) a (silent_notes f m u.work)
    (a.course, Stays a.course, notes_on f single m w a.course u.work n.kept k.corresponds) n.moment)
goes f fitness single w m u v known a (Opens none inside is) agrees =
    let n = own_node f single w a.course m u.work a.carries in
    subst (Gone f single w m a.course.list) (sym is) (same_at f single w m (record { work = holds_none u.work; hand = u.work.node.held }) (record {
      course = a.course;
      carries = held_carries f single w a.course m [] u.work a.carries (λ e is. absurd is);
      hand = n.held;
      moment = still_moment f w m u.work (holds_none u.work) known.group a.moment (record { member = refl; past = λ p. refl; applied = refl; letters = refl; others = λ h. h });
    }))
goes f fitness single w m u v known a (Takes e es hand reached is) agrees =
    let first : ErrandStands f single a.course m e = a.hand e (subst (In e) (sym hand) (inl refl)) in
    let l = errand_taken f single fitness.state fitness.args fitness.text fitness.reply w a.course m e u.work known.program a.carries first reached in
    subst (Gone f single w m a.course.list) (sym is)
    (carried_at f single w a.course l.0 m u.work (takes f m e u.work) es a.carries l.1 l.2 (λ one there. a.hand one (subst (In one) (sym hand) (inr there)))
    (still_moment f w m u.work (takes f m e u.work) known.group a.moment (still_takes f (group f) m m e u.work)))
goes f fitness single w m u v known a (Holds e es hand is) agrees =
    let first : ErrandStands f single a.course m e = a.hand e (subst (In e) (sym hand) (inl refl)) in
    subst (Gone f single w m a.course.list) (sym is) (same_at f single w m (record { work = holds e u.work; hand = es }) (record {
      course = a.course;
      carries = holds_carries f single w a.course m e u.work a.carries first;
      hand = λ one there. a.hand one (subst (In one) (sym hand) (inr there));
      moment = still_moment f w m u.work (holds e u.work) known.group a.moment (record { member = refl; past = λ p. refl; applied = refl; letters = refl; others = λ h. h });
    }))
goes f fitness single w m u v known a (Asks_again i is) agrees =
    subst (Gone f single w m a.course.list) (sym is) (same_at f single w m (works (asks_again_of f m i (u.work.node.played i) u.work) u) (record {
      course = a.course;
      carries = again_of f single w a.course m i (u.work.node.played i) u.work a.carries refl;
      hand = a.hand;
      moment = still_moment f w m u.work (asks_again_of f m i (u.work.node.played i) u.work) known.group a.moment
          (still_again_of f (group f) m m i (u.work.node.played i) u.work);
    }))
