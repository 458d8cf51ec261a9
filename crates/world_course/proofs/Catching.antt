-- A member catches up: it applies its accepted entries, notes that to its group, and goes on.
use Rattle.std.proofs.Common.{◌≡◌, ◌≤◌, ◌<◌, ◌+◌, nat_lt, ℕ, zero, suc, ◌⊎◌, inl, inr, Bool, true, false, List, [], ◌∷◌, ◌++◌, Option, Some, refl, sym, ap, ◌∙◌, subst, arith, length, take, drop, map, if◌then◌else◌}
use Rattle.std.proofs.lemmas.Bool.{cases_eq}
use Rattle.std.proofs.lemmas.List.{length-take, take-take}
use Rattle.std.specs.Prelude.{slice_get}
use Rattle.value_core.specs.declared.message.Message.{Message}
use Rattle.group_rules.specs.Messages.{Group}
use Rattle.group_rules.specs.Member.{Member, Waiting}
use Rattle.group_rules.specs.Sets.{In as IsIn}
use Rattle.group_rules.specs.Steps.{note}
use Rattle.group_rules.specs.Work.{Act, Work}
use Rattle.group_rules.specs.World.{Past, remembers}
use Rattle.object_manager.specs.After.{Copied}
use Rattle.book_law.specs.Passes.{Test}
use Rattle.book_law.specs.Course.{Course}
use Rattle.book_law.specs.declared.placing.Placed.{Placed}
use Rattle.book_law.specs.Fitness.{ArgsFit, StateFits}
use Rattle.book_law.proofs.Courses.{at_other}
use Rattle.book_law.proofs.Fits.{ReplyFits, TextFits}
use Rattle.world_rules.specs.Applying.{applies, applies_all, applies_each, applies_one, due_entries, notes, passes_limit, round, rounds}
use Rattle.world_rules.specs.Frame.{Frame, group}
use Rattle.world_rules.specs.Nodes.{Deed, Node, NodeWork, aside_of, entries_of, joins, past_after}
use Rattle.world_rules.specs.Nodes.Deed.{Acts}
use Rattle.world_rules.specs.Played.{Played}
use Rattle.world_rules.specs.Worlds.{World}
use Rattle.world_course.specs.Corresponds.{Agrees, Corresponds, Lifts, Stands}
use Rattle.world_course.specs.Group.{AreNotes, IsAccepted, IsAgreed, IsGroupStep, KeepsEntries}
use Rattle.world_course.specs.Processes.{StandsHere}
use Rattle.world_course.specs.Works.{at_work}
use Rattle.world_course.proofs.Changing.{SameCopies, lifts_on, member_stays}
use Rattle.world_course.proofs.Entry.{OneMore, agreed_at, agrees_take, entry_lifts, one_more}
use Rattle.world_course.proofs.Listing.{get_take, got_less}
use Rattle.world_course.proofs.Program.{Program}
use Rattle.world_course.proofs.Tries.{node_at, stays}

-- ---- the entries that are due

get_drop : {A : Type 0} (n : ℕ) (xs : List A) (k : ℕ) → slice_get (drop n xs) k ≡ slice_get xs (n + k)
get_drop zero xs k = ap (slice_get xs) (let e : k ≡ 0 + k = omega arith in e)
get_drop (suc n) [] k = refl
get_drop (suc n) (x ∷ xs) k = get_drop n xs k ∙ ap (slice_get (x ∷ xs)) (let e : suc (n + k) ≡ suc n + k = omega arith in e)

-- they are the accepted ones from the copies' number on
abbrev pub AreDue : Node → List Message → Type 0
AreDue node xs = (k : ℕ) (x : Message) → slice_get xs k ≡ Some x → IsAccepted node (node.copies.applied + k) x

pub are_due : (node : Node) → AreDue node (due_entries node)
are_due node k x is =
    let at : slice_get (take node.member.accepted node.member.log) (node.copies.applied + k) ≡ Some x = sym (get_drop node.copies.applied (take node.member.accepted node.member.log) k) ∙ is in
    let less = got_less (take node.member.accepted node.member.log) (node.copies.applied + k) x at in
    let e = length-take node.member.accepted node.member.log in
    let low : node.copies.applied + k < node.member.accepted = omega (arith, less, e) in
    record { accepted = low; there = sym (get_take node.member.log node.member.accepted (node.copies.applied + k) low) ∙ at }

due_first : (node : Node) (x : Message) (xs : List Message) → AreDue node (x ∷ xs) → IsAccepted node node.copies.applied x
due_first node x xs due = subst (λ (n : ℕ). IsAccepted node n x) (let e : node.copies.applied + 0 ≡ node.copies.applied = omega arith in e) (due 0 x refl)

due_rest : (node more : Node) (x : Message) (xs : List Message) → more.member ≡ node.member → more.copies.applied ≡ suc node.copies.applied → AreDue node (x ∷ xs) → AreDue more xs
due_rest node more x xs member applied due k y is =
    let u = due (suc k) y is in
    let e : node.copies.applied + suc k ≡ more.copies.applied + k = omega (arith, applied) in
    record {
      accepted = subst (λ (s : Member Message). more.copies.applied + k < s.accepted) (sym member) (subst (λ (n : ℕ). n < node.member.accepted) e u.accepted);
      there = ap (λ (s : Member Message). slice_get s.log (more.copies.applied + k)) member ∙ ap (slice_get node.member.log) (sym e) ∙ u.there;
    }

-- ---- entry by entry

-- the member stays, and no fewer are applied
record Further (g : Group Message) (m : ℕ) (v u : NodeWork) : Type 0 where
  member : u.node.member ≡ v.node.member
  applied : v.node.copies.applied ≤ u.node.copies.applied
  past : (p : Past Message) → past_after g m u.deeds p ≡ past_after g m v.deeds p

further_each : (f : Frame) (m : ℕ) (xs : List Message) (v : NodeWork) → Further (group f) m v (applies_each f m xs v)
further_each f m [] v = record { member = refl; applied = omega arith; past = λ p. refl }
further_each f m (x ∷ xs) v = go (passes_limit f v.node x) (further_each f m xs (applies_one f m x v))
  where
    go : (b : Bool) → Further (group f) m (applies_one f m x v) (applies_each f m xs (applies_one f m x v)) → Further (group f) m v (if b then v else applies_each f m xs (applies_one f m x v))
    go true rest = record { member = refl; applied = omega arith; past = λ p. refl }
    go false rest =
        let one = one_more f m x v in
        record {
          member = rest.member ∙ one.member;
          applied = let a = rest.applied in let b = one.applied in omega (arith, a, b);
          past = λ p. rest.past p ∙ one.past p;
        }

-- the entries of a work begin those of a further one
further_agrees : (f : Frame) (single : Test) (m n : ℕ) (v u : NodeWork) → Further (group f) m v u → n ≤ u.node.copies.applied → Agrees f single (entries_of u.node) → Agrees f single (take n v.node.member.log)
further_agrees f single m n v u more le agrees =
    subst (Agrees f single) (take-take n u.node.copies.applied u.node.member.log le ∙ ap (λ (s : Member Message). take n s.log) more.member)
    (agrees_take f single (entries_of u.node) n agrees)

-- the work so far corresponds, and the group's facts hold
record LiftsTo (f : Frame) (single : Test) (c : Course) (m : ℕ) (w : World) (v : NodeWork) : Type 0 where
  lifts : Lifts f single c (at_work f m w v)
  agreed : IsAgreed (at_work f m w v)

each_lifts : (f : Frame) (single : Test) (fits_state : StateFits) (fits_args : ArgsFit) (fits_text : TextFits) (fits_reply : ReplyFits) (w : World) (c : Course) (m : ℕ) (xs : List Message) (v : NodeWork)
    → Program f fits_state fits_args fits_text fits_reply → Corresponds f single (at_work f m w v) c → IsAgreed (at_work f m w v) → AreDue v.node xs
    → Agrees f single (entries_of (applies_each f m xs v).node) → LiftsTo f single c m w (applies_each f m xs v)
each_lifts f single fits_state fits_args fits_text fits_reply w c m [] v program h agreed due agrees = record { lifts = stays f single c (at_work f m w v) h; agreed = agreed }
each_lifts f single fits_state fits_args fits_text fits_reply w c m (x ∷ xs) v program h agreed due agrees =
    go (passes_limit f v.node x) agrees (λ d k g a. each_lifts f single fits_state fits_args fits_text fits_reply w d m xs u program k g rest a)
  where
    u : NodeWork
    u = applies_one f m x v

    one : OneMore (group f) m v u
    one = one_more f m x v

    first : IsAccepted v.node v.node.copies.applied x
    first = due_first v.node x xs due

    rest : AreDue u.node xs
    rest = due_rest v.node u.node x xs one.member one.applied due

    again : IsAgreed (at_work f m w u)
    again = agreed_at f m w v u agreed one.member one.past (let lt = first.accepted in let e = one.applied in omega (arith, lt, e))

    go : (b : Bool) → Agrees f single (entries_of (if b then v else applies_each f m xs u).node)
        → ((d : Course) → Corresponds f single (at_work f m w u) d → IsAgreed (at_work f m w u) → Agrees f single (entries_of (applies_each f m xs u).node) → LiftsTo f single d m w (applies_each f m xs u))
        → LiftsTo f single c m w (if b then v else applies_each f m xs u)
    go true agrees more = record { lifts = stays f single c (at_work f m w v) h; agreed = agreed }
    go false agrees more =
        let far = further_each f m xs u in
        let low = far.applied in
        let e = one.applied in
        let now = further_agrees f single m (suc v.node.copies.applied) u (applies_each f m xs u) far (omega (arith, low, e)) agrees in
        let l = entry_lifts f single fits_state fits_args fits_text fits_reply w c m x v program h agreed first (subst (λ (s : Member Message). Agrees f single (take (suc v.node.copies.applied) s.log)) one.member now) in
        let k = more l.0 l.2 again agrees in
        record { lifts = lifts_on f single c l.0 (at_work f m w (applies_each f m xs u)) l.1 k.lifts; agreed = k.agreed }

-- all that is due
applies_lift : (f : Frame) (single : Test) (fits_state : StateFits) (fits_args : ArgsFit) (fits_text : TextFits) (fits_reply : ReplyFits) (w : World) (c : Course) (m : ℕ) (v : NodeWork)
    → Program f fits_state fits_args fits_text fits_reply → Corresponds f single (at_work f m w v) c → IsAgreed (at_work f m w v)
    → Agrees f single (entries_of (applies f m v).node) → LiftsTo f single c m w (applies f m v)
applies_lift f single fits_state fits_args fits_text fits_reply w c m v program h agreed agrees =
    each_lifts f single fits_state fits_args fits_text fits_reply w c m (due_entries v.node) v program h agreed (are_due v.node) agrees

-- ---- a member changes in its group

-- the node's copies and processes stay, and what was applied of its log; and nothing else is seen
pub record MemberSteps (m : ℕ) (w v : World) : Type 0 where
  pub same : SameCopies (w.nodes m) (v.nodes m)
  pub plays : (v.nodes m).played ≡ (w.nodes m).played
  pub nodes : (k : ℕ) → (k ≡ m → ⊥) → v.nodes k ≡ w.nodes k
  pub aside : v.aside ≡ w.aside
  pub submitted : (i : ℕ) → v.past.submitted i ≡ w.past.submitted i

pub steps_on : (f : Frame) (single : Test) (m : ℕ) (w v : World) (c : Course) → MemberSteps m w v → Corresponds f single w c → Corresponds f single v c
steps_on f single m w v c z corresponds = record {
  stands = record {
    came = h.came;
    test = h.test;
    beside = h.beside ∙ sym z.aside;
    asked = λ x is. h.asked x (subst (λ (l : List Message). IsIn x l) (z.submitted x.process.0) is);
    callers = h.callers;
    members = λ k. member_stays f single c c h.came h.came k (w.nodes k) (v.nodes k) refl refl refl (copies_stay k (cases_eq k m)) (h.members k);
    processes = λ j b is. let u = h.processes j b is in record {
      runner = u.runner;
      runs = u.runs;
      member = u.member;
      stands = subst (λ (n : ℕ). StandsHere f.computes j b u.runner n ((v.nodes b.home).played j)) (sym (applied_at b.home (cases_eq b.home m)))
          (subst (λ (o : Option Played). StandsHere f.computes j b u.runner (w.nodes b.home).copies.applied o) (sym (plays b.home j (cases_eq b.home m))) u.stands);
    };
    played = λ k j r is. h.played k j r (sym (plays k j (cases_eq k m)) ∙ is);
  };
  reached = (corresponds.reached.0, let le = corresponds.reached.1 in subst (λ (n : ℕ). length c.list ≤ n) (sym (applied_at corresponds.reached.0 (cases_eq corresponds.reached.0 m))) le);
}
  where
    h : Stands f single w c
    h = corresponds.stands

    copies_stay : (k : ℕ) → (k ≡ m) ⊎ (k ≡ m → ⊥) → SameCopies (w.nodes k) (v.nodes k)
    copies_stay k (inl e) = subst (λ (n : ℕ). SameCopies (w.nodes n) (v.nodes n)) (sym e) z.same
    copies_stay k (inr apart) = record { copies = ap (λ (n : Node). n.copies) (z.nodes k apart); entries = ap (λ (n : Node). take (w.nodes k).copies.applied n.member.log) (z.nodes k apart) }

    plays : (k j : ℕ) → (k ≡ m) ⊎ (k ≡ m → ⊥) → (v.nodes k).played j ≡ (w.nodes k).played j
    plays k j (inl e) = subst (λ (n : ℕ). (v.nodes n).played j ≡ (w.nodes n).played j) (sym e) (ap (λ (p : ℕ → Option Played). p j) z.plays)
    plays k j (inr apart) = ap (λ (n : Node). n.played j) (z.nodes k apart)

    applied_at : (k : ℕ) → (k ≡ m) ⊎ (k ≡ m → ⊥) → (v.nodes k).copies.applied ≡ (w.nodes k).copies.applied
    applied_at k at = let s = copies_stay k at in ap (λ (n : Copied). n.applied) s.copies

-- a step in the group leaves what was performed, and what was submitted
acts_aside : (acts : List (Act Message)) (deeds : List Deed) → aside_of (map Acts acts ++ deeds) ≡ aside_of deeds
acts_aside [] deeds = refl
acts_aside (act ∷ acts) deeds = acts_aside acts deeds

act_submitted : (act : Act Message) (p : Past Message) → (remembers act p).submitted ≡ p.submitted
act_submitted (Act.Sends letter) p = refl
act_submitted (Act.Keeps packet) p = refl
act_submitted (Act.Orders k x) p = refl
act_submitted (Act.Begins k log answers) p = refl

acts_submitted : (g : Group Message) (m : ℕ) (acts : List (Act Message)) (deeds : List Deed) (p : Past Message) → (past_after g m (map Acts acts ++ deeds) p).submitted ≡ (past_after g m deeds p).submitted
acts_submitted g m [] deeds p = refl
acts_submitted g m (act ∷ acts) deeds p = act_submitted act (past_after g m (map Acts acts ++ deeds) p) ∙ acts_submitted g m acts deeds p

pub joins_on : (f : Frame) (single : Test) (m : ℕ) (w : World) (c : Course) (work : Work Message) (v : NodeWork) → KeepsEntries v.node (joins work v).node → Corresponds f single (at_work f m w v) c → Corresponds f single (at_work f m w (joins work v)) c
joins_on f single m w c work v entries h = steps_on f single m (at_work f m w v) (at_work f m w (joins work v)) c (record {
  same = subst (λ (n : Node). SameCopies n ((at_work f m w (joins work v)).nodes m)) (sym (node_at f m w v))
      (subst (λ (n : Node). SameCopies v.node n) (sym (node_at f m w (joins work v))) (record { copies = refl; entries = entries }));
  plays = ap (λ (n : Node). n.played) (node_at f m w (joins work v)) ∙ ap (λ (n : Node). n.played) (sym (node_at f m w v));
  nodes = λ k apart. at_other w.nodes m (joins work v).node k apart ∙ sym (at_other w.nodes m v.node k apart);
  aside = ap (λ (l : List Placed). w.aside ++ l) (acts_aside work.acts v.deeds);
  submitted = λ i. ap (λ (s : ℕ → List Message). s i) (acts_submitted (group f) m work.acts v.deeds w.past);
}) h

-- ---- rounds

notes_on : (f : Frame) (single : Test) (m : ℕ) (w : World) (c : Course) (v : NodeWork) → KeepsEntries v.node (notes f m v).node → Corresponds f single (at_work f m w v) c → Corresponds f single (at_work f m w (notes f m v)) c
notes_on f single m w c v entries h = go (nat_lt v.node.member.applied v.node.copies.applied) entries
  where
    u : NodeWork
    u = joins (note (group f) m v.node.copies.applied v.node.member) v

    go : (b : Bool) → KeepsEntries v.node (if b then u else v).node → Corresponds f single (at_work f m w (if b then u else v)) c
    go true keeps = joins_on f single m w c (note (group f) m v.node.copies.applied v.node.member) v keeps h
    go false keeps = h

-- a note leaves the copies
notes_copies : (f : Frame) (m : ℕ) (v : NodeWork) → (notes f m v).node.copies ≡ v.node.copies
notes_copies f m v = go (nat_lt v.node.member.applied v.node.copies.applied)
  where
    go : (b : Bool) → (if b then joins (note (group f) m v.node.copies.applied v.node.member) v else v).node.copies ≡ v.node.copies
    go true = refl
    go false = refl

-- what a round applied stays what was applied
round_entries : (f : Frame) (m : ℕ) (w : World) (v : NodeWork) → IsGroupStep f m w (applies f m v) (round f m v) → entries_of (round f m v).node ≡ entries_of (applies f m v).node
round_entries f m w v step = ap (λ (k : Copied). take k.applied (round f m v).node.member.log) (notes_copies f m (applies f m v)) ∙ step.entries

round_lifts : (f : Frame) (single : Test) (fits_state : StateFits) (fits_args : ArgsFit) (fits_text : TextFits) (fits_reply : ReplyFits) (w : World) (c : Course) (m : ℕ) (v : NodeWork)
    → Program f fits_state fits_args fits_text fits_reply → Corresponds f single (at_work f m w v) c → IsAgreed (at_work f m w v) → IsGroupStep f m w (applies f m v) (round f m v)
    → Agrees f single (entries_of (round f m v).node) → Lifts f single c (at_work f m w (round f m v))
round_lifts f single fits_state fits_args fits_text fits_reply w c m v program h agreed step agrees =
    let l = applies_lift f single fits_state fits_args fits_text fits_reply w c m v program h agreed (subst (Agrees f single) (round_entries f m w v step) agrees) in
    let k = l.lifts in
    (k.0, k.1, notes_on f single m w k.0 (applies f m v) step.entries k.2)

-- the entries of a round begin those of later ones
later_agrees : (f : Frame) (single : Test) (w : World) (m : ℕ) (waiting : List (Waiting Message)) (v : NodeWork) → AreNotes f m w waiting v → Agrees f single (entries_of (rounds f m waiting v).node) → Agrees f single (entries_of v.node)
later_agrees f single w m [] v step agrees =
    let far = further_each f m (due_entries v.node) v in
    further_agrees f single m v.node.copies.applied v (applies f m v) far far.applied (subst (Agrees f single) (round_entries f m w v step) agrees)
later_agrees f single w m (waiting ∷ more) v (step, steps) agrees =
    let far = further_each f m (due_entries v.node) v in
    further_agrees f single m v.node.copies.applied v (applies f m v) far far.applied
    (subst (Agrees f single) (round_entries f m w v step) (later_agrees f single w m more (round f m v) steps agrees))

rounds_lift : (f : Frame) (single : Test) (fits_state : StateFits) (fits_args : ArgsFit) (fits_text : TextFits) (fits_reply : ReplyFits) (w : World) (c : Course) (m : ℕ) (waiting : List (Waiting Message)) (v : NodeWork)
    → Program f fits_state fits_args fits_text fits_reply → Corresponds f single (at_work f m w v) c → IsAgreed (at_work f m w v) → AreNotes f m w waiting v
    → Agrees f single (entries_of (rounds f m waiting v).node) → Lifts f single c (at_work f m w (rounds f m waiting v))
rounds_lift f single fits_state fits_args fits_text fits_reply w c m [] v program h agreed step agrees = round_lifts f single fits_state fits_args fits_text fits_reply w c m v program h agreed step agrees
rounds_lift f single fits_state fits_args fits_text fits_reply w c m (waiting ∷ more) v program h agreed (step, steps) agrees =
    let l = round_lifts f single fits_state fits_args fits_text fits_reply w c m v program h agreed step (later_agrees f single w m more (round f m v) steps agrees) in
    lifts_on f single c l.0 (at_work f m w (rounds f m more (round f m v))) l.1
    (rounds_lift f single fits_state fits_args fits_text fits_reply w l.0 m more (round f m v) program l.2 step.agreed steps agrees)

-- a member applies all that it may
pub all_lifts : (f : Frame) (single : Test) (fits_state : StateFits) (fits_args : ArgsFit) (fits_text : TextFits) (fits_reply : ReplyFits) (w : World) (c : Course) (m : ℕ) (v : NodeWork)
    → Program f fits_state fits_args fits_text fits_reply → Corresponds f single (at_work f m w v) c → IsAgreed (at_work f m w v) → AreNotes f m w v.node.member.waiting v
    → Agrees f single (entries_of (applies_all f m v).node) → Lifts f single c (at_work f m w (applies_all f m v))
all_lifts f single fits_state fits_args fits_text fits_reply w c m v program h agreed steps agrees =
    rounds_lift f single fits_state fits_args fits_text fits_reply w c m v.node.member.waiting v program h agreed steps agrees
