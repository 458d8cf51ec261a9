-- Places never fall, in each act of a member.
use Rattle.std.proofs.Common.{◌≡◌, ◌==◌, ◌||◌, ◌+◌, ◌≤◌, if◌then◌else◌, ℕ, zero, suc, List, [], ◌∷◌, length, length-append, Option, None, Some, refl, sym, ap, ◌∙◌, arith, subst, inl, inr, nat_lt, nat_le}
use Rattle.std.proofs.lemmas.Bool.{cond_both, eqb-true, leb-true}
use Rattle.std.specs.List.{AllByRecursion as Each}
use Rattle.orca_base.specs.declared.ids.CallNo.{CallNo}
use Rattle.orca_base.specs.declared.ids.ProcessNo.{ProcessNo}
use Rattle.value_core.specs.History.{Objects}
use Rattle.value_core.specs.declared.action.Action.{Action}
use Rattle.value_core.specs.declared.action.Action.TheVariants as action
use Rattle.value_core.specs.declared.action.Class.{Class}
use Rattle.value_core.specs.declared.action.Class.TheVariants.{Reads, Writes}
use Rattle.value_core.specs.declared.action.Line.{Line}
use Rattle.value_core.specs.declared.action.Reply.{Reply}
use Rattle.value_core.specs.declared.meaning.Tried.{Tried}
use Rattle.value_core.specs.declared.message.Message.{Message}
use Rattle.guard_queue.specs.Settles.{is_blocked}
use Rattle.guard_queue.specs.declared.queue.Suspended.{Suspended}
use Rattle.object_manager.specs.Singles.{after_single, lines_single}
use Rattle.object_manager.specs.State.{message_of}
use Rattle.book_law.specs.Passes.{lines_after}
use Rattle.group_rules.specs.Member.{Waiting}
use Rattle.group_rules.specs.Reset.{coordinate}
use Rattle.group_rules.specs.Steps.{deliver, note, submit, timer}
use Rattle.group_rules.specs.Work.{Work}
use Rattle.net_rules.specs.Flights.{ready_copy, ticked, without}
use Rattle.net_rules.specs.declared.flight.Flight.{Flight}
use Rattle.world_rules.specs.declared.event.Event as world
use Rattle.world_rules.specs.declared.event.Event.TheVariants as event
use Rattle.world_rules.specs.declared.event.Step.{Step}
use Rattle.world_rules.specs.Applying.{answers, applies, applies_all, applies_each, applies_one, begins, copies_take, due_entries, passes_limit, performs_read, round, rounds, tries_as, tries_of, tries_read, tries_reads}
use Rattle.world_rules.specs.Bursts.{Ran, read_line, reads_on}
use Rattle.world_rules.specs.Frame.{Frame, group}
use Rattle.world_rules.specs.Mail.{Carried, Errand, Mail, is_whole, place_of, receiver_of}
use Rattle.world_rules.specs.Mail.Errand.{Ask, Answer}
use Rattle.world_rules.specs.Nodes.{Given, Node, NodeWork, becomes, changes, does, idle, if_played, joins, known, plays}
use Rattle.world_rules.specs.Nodes.Deed.{Performs, Submits}
use Rattle.world_rules.specs.Owners.{arrives, hands, hands_all, hands_to, hears_as, hears_of, holds, is_held, performs_call, takes, takes_asked, takes_call, takes_each, takes_reached, waits_here}
use Rattle.world_rules.specs.Parts.{acts, acts_at, acts_by, acts_of, asks, asks_again, asks_again_at, asks_again_by, asks_again_of, asks_below, asks_owner, calls_as, catches_up, computes, performs_all, submits, suspects, ticks}
use Rattle.world_rules.specs.Parts.{receives as receives_part}
use Rattle.world_rules.specs.Played.{Played, Stage, moves_to, newborn, next_call, receives}
use Rattle.world_rules.specs.Played.Stage.{Computing, Acting, Submitted, Reading, Asking, Over}
use Rattle.world_rules.specs.Processes.{Begun, begun_by, home_in, owner_in, singles_of}
use Rattle.world_rules.specs.Steps.{AtWork, Burst, IsBurst, Known, Leads, Next, Possible, after_part, closes, comes_whole, happens, lives_in, ticks_below, untouched}
use Rattle.world_rules.specs.Worlds.{World, home_of, opening_world}
use Rattle.world_law.specs.Going.{Later}
use Rattle.world_law.specs.Packets.{PlacesWithin}
use Rattle.world_law.specs.Places.{AnswersReach, MailReaches, PlacesRise, Reaches, ReachesOne}
use Rattle.world_law.proofs.Ages.{Fresh, On, ages_by, ages_rounds, goes_acts, goes_joins, goes_mail, leads_later, opening_fresh, posted_nodes}
use Rattle.world_law.proofs.Applied.{one_more}
use Rattle.world_law.proofs.Flying.{each_append, each_found}
use Rattle.world_law.proofs.Going.{Goes, goes_again, goes_on, goes_takes, later_on, later_receives, later_same}
use Rattle.world_law.proofs.Maps.{at_both}
use Rattle.world_law.proofs.Sending.{applied_answers, applied_if}
use Rattle.world_law.proofs.Walking.{performed_node}

-- ---- a node at work

-- no process has a place beyond what its member applied
abbrev Low : Node → Type 0
Low node = (i : ℕ) (r : Played) → node.played i ≡ Some r → r.place ≤ node.copies.applied

-- each process has no lower a place, and the same Asks and Answers wait
record Climbs (v u : NodeWork) : Type 0 where
  rise : (i : ℕ) (r : Played) → v.node.played i ≡ Some r → (t : Played) × (u.node.played i ≡ Some t) × (r.place ≤ t.place)
  low : Low u.node
  held : u.node.held ≡ v.node.held

climbs_on : (v u t : NodeWork) → Climbs v u → (Low u.node → Climbs u t) → Climbs v t
climbs_on v u t one two =
    let k = two one.low in
    record {
      rise = λ i r found.
          let a = one.rise i r found in
          let b = k.rise i a.0 a.1 in
          let first = a.2 in
          let second = b.2 in
          (b.0, b.1, omega (arith, first, second));
      low = k.low;
      held = k.held ∙ one.held;
    }

-- where processes and what was applied stay
same : (v u : NodeWork) → u.node.played ≡ v.node.played → v.node.copies.applied ≤ u.node.copies.applied → u.node.held ≡ v.node.held → Low v.node →
    Climbs v u
same v u played more held h = record {
  rise = λ i r found. (r, ap (λ p. p i) played ∙ found, omega arith);
  low = λ i r found. let low = h i r (ap (λ p. p i) (sym played) ∙ found) in omega (arith, low, more);
  held = held;
}

stays : (v : NodeWork) → Low v.node → Climbs v v
stays v h = same v v refl (omega arith) refl h

climbs_plays : (i : ℕ) (t : Played) (v : NodeWork) → ((r : Played) → v.node.played i ≡ Some r → r.place ≤ t.place) → t.place ≤ v.node.copies.applied →
    Low v.node → Climbs v (plays i t v)
climbs_plays i t v above below h = record {
  rise = λ j r found. at_both v.node.played i (Some t) j (λ z. (x : Played) × (z ≡ Some x) × (r.place ≤ x.place))
      (λ e. (t, refl, above r (ap v.node.played (sym e) ∙ found))) (λ no. (r, found, omega arith));
  low = λ j r. at_both v.node.played i (Some t) j (λ z. z ≡ Some r → r.place ≤ v.node.copies.applied)
      (λ e found. let same_one : t ≡ r = cc found in subst (λ (z : Played). z.place ≤ v.node.copies.applied) same_one below)
      (λ no found. h j r found);
  held = refl;
}

-- at the number of entries that were applied
climbs_now : (i place : ℕ) (t : Played) (v : NodeWork) → t.place ≡ place → place ≡ v.node.copies.applied → Low v.node → Climbs v (plays i t v)
climbs_now i place t v is now h = climbs_plays i t v (λ r found. let low = h i r found in omega (arith, low, is, now)) (omega (arith, is, now)) h

-- ---- reads and entries

climbs_if : (place : ℕ) (reply : Reply) (i : ℕ) (o : Option Played) (v : NodeWork) → place ≡ v.node.copies.applied → Low v.node →
    Climbs v (if_played (receives place reply) i o v)
climbs_if place reply i None v now h = stays v h
climbs_if place reply i (Some r) v now h = climbs_now i place (receives place reply r) v refl now h

climbs_performs : (i : ℕ) (r : Played) (act : Action) (t : Tried) (v : NodeWork) → Low v.node → Climbs v (performs_read i r act t v)
climbs_performs i r act t v h = cond_both (is_blocked t) _ _ (Climbs v) (λ e. stays v h)
    (λ e.
    let line : Line = read_line (record { 0 = i }) r act t in
    let u : NodeWork = does (Performs (record { place = v.node.copies.applied; line = line })) v in
    let end : Played = receives v.node.copies.applied line.reply r in
    climbs_on v u (plays i end u) (same v u refl (omega arith) refl h) (λ k. climbs_now i v.node.copies.applied end u refl refl k))

climbs_read_as : (f : Frame) (i : ℕ) (r : Played) (stage : Stage) (v : NodeWork) → Low v.node → Climbs v (tries_as f i r stage v)
climbs_read_as f i r (Reading act) v h = climbs_performs i r act _ v h
climbs_read_as f i r Computing v h = stays v h
climbs_read_as f i r (Acting act) v h = stays v h
climbs_read_as f i r (Submitted act) v h = stays v h
climbs_read_as f i r (Asking act) v h = stays v h
climbs_read_as f i r (Over act) v h = stays v h

climbs_tries : (f : Frame) (i : ℕ) (o : Option Played) (v : NodeWork) → Low v.node → Climbs v (tries_of f i o v)
climbs_tries f i None v h = stays v h
climbs_tries f i (Some r) v h = climbs_read_as f i r r.stage v h

climbs_reads : (f : Frame) (n : ℕ) (v : NodeWork) → Low v.node → Climbs v (tries_reads f n v)
climbs_reads f zero v h = stays v h
climbs_reads f (suc i) v h = climbs_on v (tries_reads f i v) (tries_read f i (tries_reads f i v)) (climbs_reads f i v h)
    (λ k. climbs_tries f i ((tries_reads f i v).node.played i) (tries_reads f i v) k)

climbs_answers : (place : ℕ) (lines : List Line) (v : NodeWork) → place ≡ v.node.copies.applied → Low v.node → Climbs v (answers place lines v)
climbs_answers place [] v now h = stays v h
climbs_answers place (l ∷ ls) v now h =
    let u : NodeWork = changes (receives place l.reply) l.process.0 v in
    let applied = applied_if (receives place l.reply) l.process.0 (v.node.played l.process.0) v in
    climbs_on v u (answers place ls u) (climbs_if place l.reply l.process.0 (v.node.played l.process.0) v now h)
    (λ k. climbs_answers place ls u (omega (arith, now, applied)) k)

-- a process that begins stands at this entry
abbrev AreAt : ℕ → List Begun → Type 0
AreAt place [] = Unit {0}
AreAt place (process ∷ processes) = process.place ≡ place

born_at : (nodes parent place : ℕ) (act : Action) → AreAt place (begun_by nodes parent place act)
born_at nodes parent place (action.Fork text args place_on) = refl
born_at nodes parent place (action.Make kind object) = tt
born_at nodes parent place (action.Call kind op object args) = tt
born_at nodes parent place action.Ended = tt
born_at nodes parent place (action.Faulted fault) = tt

climbs_begins : (m i place : ℕ) (born : List Begun) (v : NodeWork) → AreAt place born → place ≡ v.node.copies.applied → Low v.node →
    Climbs v (begins m i born v)
climbs_begins m i place [] v is now h = stays v h
climbs_begins m i place (process ∷ processes) v is now h = cond_both (process.home == m) _ _ (Climbs v)
    (λ e. climbs_now i place (newborn process) v is now h) (λ e. stays v h)

climbs_one : (f : Frame) (m : ℕ) (x : Message) (v : NodeWork) → Low v.node → Climbs v (applies_one f m x v)
climbs_one f m x v h =
    let ps : List Begun = known f v.node in
    let place : ℕ = suc v.node.copies.applied in
    let taken : NodeWork = copies_take f m ps x v in
    let lines : List Line = lines_after (singles_of f ps) f.performs v.node.copies x in
    let told : NodeWork = answers place lines taken in
    let born : List Begun = begun_by f.settings.nodes (home_in ps x.process.0) place x.action in
    let u : NodeWork = begins m v.node.copies.processes born told in
    let new : taken.node.copies.applied ≡ v.node.copies.applied + 1 =
    one_more (singles_of f ps) f.performs v.node.copies x (home_in ps x.process.0 == m) in
    let applied = applied_answers place lines taken in
    climbs_on v taken (tries_reads f u.node.copies.processes u) (same v taken refl (omega (arith, new)) refl h)
    (λ a. climbs_on taken told (tries_reads f u.node.copies.processes u) (climbs_answers place lines taken (omega (arith, new)) a)
    (λ b. climbs_on told u (tries_reads f u.node.copies.processes u)
    (climbs_begins m v.node.copies.processes place born told (born_at f.settings.nodes (home_in ps x.process.0) place x.action) (omega (arith, new, applied)) b)
    (λ c. climbs_reads f u.node.copies.processes u c)))

climbs_each : (f : Frame) (m : ℕ) (xs : List Message) (v : NodeWork) → Low v.node → Climbs v (applies_each f m xs v)
climbs_each f m [] v h = stays v h
climbs_each f m (x ∷ xs) v h = cond_both (passes_limit f v.node x) _ _ (Climbs v) (λ e. stays v h)
    (λ e. climbs_on v (applies_one f m x v) (applies_each f m xs (applies_one f m x v)) (climbs_one f m x v h) (λ k. climbs_each f m xs (applies_one f m x v) k))

climbs_joins : (work : Work Message) (v : NodeWork) → Low v.node → Climbs v (joins work v)
climbs_joins work v h = same v (joins work v) refl (omega arith) refl h

climbs_round : (f : Frame) (m : ℕ) (v : NodeWork) → Low v.node → Climbs v (round f m v)
climbs_round f m v h = climbs_on v (applies f m v) (round f m v) (climbs_each f m (due_entries v.node) v h)
    (λ k. cond_both (nat_lt (applies f m v).node.member.applied (applies f m v).node.copies.applied) _ _ (Climbs (applies f m v))
    (λ e. climbs_joins (note (group f) m (applies f m v).node.copies.applied (applies f m v).node.member) (applies f m v) k)
    (λ e. stays (applies f m v) k))

climbs_rounds : (f : Frame) (m : ℕ) (waiting : List (Waiting Message)) (v : NodeWork) → Low v.node → Climbs v (rounds f m waiting v)
climbs_rounds f m [] v h = climbs_round f m v h
climbs_rounds f m (one ∷ more) v h = climbs_on v (round f m v) (rounds f m more (round f m v)) (climbs_round f m v h) (λ k. climbs_rounds f m more (round f m v) k)

-- ---- owners

climbs_hands_to : (m home place : ℕ) (l : Line) (v : NodeWork) → place ≡ v.node.copies.applied → Low v.node → Climbs v (hands_to m home place l v)
climbs_hands_to m home place l v now h = cond_both (home == m) _ _ (Climbs v)
    (λ e. climbs_if place l.reply l.process.0 (v.node.played l.process.0) v now h) (λ e. same v _ refl (omega arith) refl h)

climbs_hands : (f : Frame) (m : ℕ) (ls : List Line) (v : NodeWork) → Low v.node → Climbs v (hands_all f m ls v)
climbs_hands f m [] v h = stays v h
climbs_hands f m (l ∷ ls) v h =
    let u : NodeWork = does (Performs (record { place = v.node.copies.applied; line = l })) v in
    climbs_on v u (hands_all f m (l ∷ ls) v) (same v u refl (omega arith) refl h)
    (λ a. climbs_on u (hands f m l v) (hands_all f m ls (hands f m l v))
    (climbs_hands_to m (home_in (known f v.node) l.process.0) v.node.copies.applied l u refl a)
    (λ b. climbs_hands f m ls (hands f m l v) b))

climbs_call : (f : Frame) (m : ℕ) (x : Message) (v : NodeWork) → Low v.node → Climbs v (performs_call f m x v)
climbs_call f m x v h =
    let u : NodeWork = becomes (record v.node { copies = after_single f.performs v.node.copies x }) v in
    climbs_on v u (performs_call f m x v) (same v u refl (omega arith) refl h) (λ k. climbs_hands f m (lines_single f.performs v.node.copies x) u k)

climbs_takes_call : (f : Frame) (m : ℕ) (x : Message) (v : NodeWork) → Low v.node → Climbs v (takes_call f m x v)
climbs_takes_call f m x v h = cond_both (waits_here x v.node.copies.waits) _ _ (Climbs v) (λ e. stays v h) (λ e. climbs_call f m x v h)

climbs_asked : (f : Frame) (m : ℕ) (x : Message) (o : Option Given) (v : NodeWork) → Low v.node → Climbs v (takes_asked f m x o v)
climbs_asked f m x None v h = climbs_takes_call f m x v h
climbs_asked f m x (Some given) v h = cond_both (nat_lt given.call.0 x.call.0) _ _ (Climbs v) (λ e. climbs_takes_call f m x v h)
    (λ e. cond_both (given.call.0 == x.call.0) _ _ (Climbs v) (λ d. same v _ refl (omega arith) refl h) (λ d. stays v h))

-- ---- what waits for its place, since these processes

record Since (start : ℕ → Option Played) (v : NodeWork) : Type 0 where
  up : (i : ℕ) (r : Played) → start i ≡ Some r → (t : Played) × (v.node.played i ≡ Some t) × Later r t × (r.place ≤ t.place)
  low : Low v.node

since_on : (start : ℕ → Option Played) (v u : NodeWork) → On v u → Climbs v u → Since start v → Since start u
since_on start v u on climbs h = record {
  up = λ i r found.
      let a = h.up i r found in
      let b = on i a.0 a.1 in
      let c = climbs.rise i a.0 a.1 in
      let one : Some b.0 ≡ Some c.0 = sym b.1 ∙ c.1 in
      let same_one : b.0 ≡ c.0 = cc one in
      let first = a.3 in
      let second = c.2 in
      let last = ap (λ (z : Played). z.place) same_one in
      (b.0, b.1, later_on r a.0 b.0 a.2 b.2, omega (arith, first, second, last));
  low = climbs.low;
}

-- as many replies as there are more
more_replies : (r t : Played) → (h : Later r t) → length t.replies ≡ length r.replies + length h.replies.0
more_replies r t h = ap length h.replies.1 ∙ length-append r.replies h.replies.0

-- an Answer that the process hears isn't from below its place
heard_above : (r t : Played) (place : ℕ) (call : CallNo) → Later r t → call.0 ≡ length t.replies → Reaches r place call → r.place ≤ place
heard_above r t place call later is (inl less) = let n = more_replies r t later in absurd (omega (arith, is, less, n))
heard_above r t place call later is (inr (same_call, le)) = le

since_hears_as : (start : ℕ → Option Played) (place : ℕ) (i : ProcessNo) (call : CallNo) (reply : Reply) (r : Played) (stage : Stage) (v : NodeWork) →
    v.node.played i.0 ≡ Some r → place ≤ v.node.copies.applied → ReachesOne start (Answer place i call reply) → Since start v →
    Since start (hears_as place i.0 call reply r stage v)
since_hears_as start place i call reply r (Asking act) v here le reaches h = cond_both (call.0 == length r.replies) _ _ (Since start)
    (λ e.
    let t : Played = receives place reply r in
    let is : call.0 ≡ length r.replies = eqb-true call.0 (length r.replies) e in
    record {
      up = λ j s found. at_both v.node.played i.0 (Some t) j (λ z. (x : Played) × (z ≡ Some x) × Later s x × (s.place ≤ x.place))
          (λ own.
          let a = h.up j s found in
          let one : Some a.0 ≡ Some r = sym a.1 ∙ ap v.node.played own ∙ here in
          let same_one : a.0 ≡ r = cc one in
          let later : Later s r = subst (Later s) same_one a.2 in
          let mine : start i.0 ≡ Some s = ap start (sym own) ∙ found in
          (t, refl, later_on s r t later (later_receives place reply r), heard_above s r place call later is (reaches s mine)))
          (λ no. h.up j s found);
      low = λ j s. at_both v.node.played i.0 (Some t) j (λ z. z ≡ Some s → s.place ≤ v.node.copies.applied)
          (λ own found. let same_one : t ≡ s = cc found in subst (λ (z : Played). z.place ≤ v.node.copies.applied) same_one le)
          (λ no found. h.low j s found);
    })
    (λ e. h)
since_hears_as start place i call reply r Computing v here le reaches h = h
since_hears_as start place i call reply r (Acting act) v here le reaches h = h
since_hears_as start place i call reply r (Submitted act) v here le reaches h = h
since_hears_as start place i call reply r (Reading act) v here le reaches h = h
since_hears_as start place i call reply r (Over act) v here le reaches h = h

since_hears : (start : ℕ → Option Played) (place : ℕ) (i : ProcessNo) (call : CallNo) (reply : Reply) (o : Option Played) (v : NodeWork) →
    v.node.played i.0 ≡ o → place ≤ v.node.copies.applied → ReachesOne start (Answer place i call reply) → Since start v →
    Since start (hears_of place i.0 call reply o v)
since_hears start place i call reply None v here le reaches h = h
since_hears start place i call reply (Some r) v here le reaches h = since_hears_as start place i call reply r r.stage v here le reaches h

since_takes : (start : ℕ → Option Played) (f : Frame) (m : ℕ) (errand : Errand) (v : NodeWork) → place_of errand ≤ v.node.copies.applied →
    ReachesOne start errand → Since start v → Since start (takes f m errand v)
since_takes start f m (Ask place x) v le reaches h =
    since_on start v (takes_asked f m x (v.node.given x.process.0) v) (goes_takes f m (Ask place x) v).on
    (climbs_asked f m x (v.node.given x.process.0) v h.low) h
since_takes start f m (Answer place i call reply) v le reaches h = since_hears start place i call reply (v.node.played i.0) v refl le reaches h

since_same : (start : ℕ → Option Played) (v u : NodeWork) → u.node.played ≡ v.node.played → u.node.copies.applied ≡ v.node.copies.applied →
    Since start v → Since start u
since_same start v u played applied h = record {
  up = λ i r found. let a = h.up i r found in (a.0, ap (λ p. p i) played ∙ a.1, a.2, a.3);
  low = λ i r found. let low = h.low i r (ap (λ p. p i) (sym played) ∙ found) in omega (arith, low, applied);
}

since_each : (start : ℕ → Option Played) (f : Frame) (m : ℕ) (errands : List Errand) (v : NodeWork) → Each (ReachesOne start) errands → Since start v →
    Since start (takes_each f m errands v)
since_each start f m [] v reach h = h
since_each start f m (errand ∷ errands) v reach h =
    since_each start f m errands (if nat_le (place_of errand) v.node.copies.applied then takes f m errand v else holds errand v) reach.1
    (cond_both (nat_le (place_of errand) v.node.copies.applied) (takes f m errand v) (holds errand v) (Since start)
    (λ e. since_takes start f m errand v (leb-true (place_of errand) v.node.copies.applied e) reach.0 h)
    (λ e. since_same start v (holds errand v) refl refl h))

since_reached : (start : ℕ → Option Played) (f : Frame) (m : ℕ) (v : NodeWork) → Each (ReachesOne start) v.node.held → Since start v →
    Since start (takes_reached f m v)
since_reached start f m v reach h = cond_both v.node.member.outside _ _ (Since start) (λ e. h)
    (λ e. since_each start f m v.node.held (becomes (record v.node { held = [] }) v) reach (since_same start v (becomes (record v.node { held = [] }) v) refl refl h))

-- ---- how a part begins

-- a process stands elsewhere, at its place
climbs_moves : (i : ℕ) (r : Played) (stage : Stage) (v : NodeWork) → v.node.played i ≡ Some r → Low v.node → Climbs v (plays i (moves_to stage r) v)
climbs_moves i r stage v here h = climbs_plays i (moves_to stage r) v
    (λ s found.
    let one : Some s ≡ Some r = sym found ∙ here in
    let same_one : s ≡ r = cc one in
    let place = ap (λ (z : Played). z.place) same_one in
    omega (arith, place))
    (h i r here) h

climbs_submits : (f : Frame) (m i : ℕ) (r : Played) (act : Action) (x : Message) (v : NodeWork) → v.node.played i ≡ Some r → Low v.node →
    Climbs v (submits f m i r act x v)
climbs_submits f m i r act x v here h =
    let u : NodeWork = does (Submits x) (plays i (moves_to (Submitted act) r) v) in
    climbs_on v (plays i (moves_to (Submitted act) r) v) (submits f m i r act x v) (climbs_moves i r (Submitted act) v here h)
    (λ k. same (plays i (moves_to (Submitted act) r) v) (joins (submit (group f) m x u.node.member) u) refl (omega arith) refl k)

climbs_asks : (f : Frame) (m i : ℕ) (r : Played) (call : Suspended) (v : NodeWork) → v.node.played i ≡ Some r → Low v.node → Climbs v (asks f m i r call v)
climbs_asks f m i r call v here h =
    let u : NodeWork = plays i (moves_to (Asking (message_of call).action) r) v in
    climbs_on v u (asks f m i r call v) (climbs_moves i r (Asking (message_of call).action) v here h)
    (λ k. cond_both (owner_in (known f v.node) call.object == m) _ _ (Climbs u) (λ e. climbs_call f m (message_of call) u k) (λ e. same u _ refl (omega arith) refl k))

climbs_calls_as : (f : Frame) (m i : ℕ) (r : Played) (call : Suspended) (class : Class) (v : NodeWork) → v.node.played i ≡ Some r → Low v.node →
    Climbs v (calls_as f m i r call class v)
climbs_calls_as f m i r call Reads v here h =
    let u : NodeWork = plays i (moves_to (Reading (message_of call).action) r) v in
    climbs_on v u (tries_read f i u) (climbs_moves i r (Reading (message_of call).action) v here h) (λ k. climbs_tries f i (u.node.played i) u k)
climbs_calls_as f m i r call Writes v here h = climbs_submits f m i r (message_of call).action (message_of call) v here h

climbs_by : (f : Frame) (m i : ℕ) (r : Played) (act : Action) (v : NodeWork) → v.node.played i ≡ Some r → Low v.node → Climbs v (acts_by f m i r act v)
climbs_by f m i r (action.Make kind object) v here h = climbs_submits f m i r (action.Make kind object) _ v here h
climbs_by f m i r (action.Call kind op object args) v here h =
    let call : Suspended = record { process = record { 0 = i }; call = next_call r; kind = kind; op = op; object = object; args = args } in
    cond_both (singles_of f (known f v.node) call.object) _ _ (Climbs v) (λ e. climbs_asks f m i r call v here h)
    (λ e. climbs_calls_as f m i r call (f.performs.class_of call.kind call.op) v here h)
climbs_by f m i r (action.Fork text args place_on) v here h = climbs_submits f m i r (action.Fork text args place_on) _ v here h
climbs_by f m i r action.Ended v here h = stays v h
climbs_by f m i r (action.Faulted fault) v here h = stays v h

climbs_at : (f : Frame) (m i : ℕ) (r : Played) (stage : Stage) (v : NodeWork) → v.node.played i ≡ Some r → Low v.node → Climbs v (acts_at f m i r stage v)
climbs_at f m i r (Acting act) v here h = climbs_by f m i r act v here h
climbs_at f m i r Computing v here h = stays v h
climbs_at f m i r (Submitted act) v here h = stays v h
climbs_at f m i r (Reading act) v here h = stays v h
climbs_at f m i r (Asking act) v here h = stays v h
climbs_at f m i r (Over act) v here h = stays v h

climbs_acts : (f : Frame) (m i : ℕ) (o : Option Played) (v : NodeWork) → v.node.played i ≡ o → Low v.node → Climbs v (acts_of f m i o v)
climbs_acts f m i None v here h = stays v h
climbs_acts f m i (Some r) v here h = climbs_at f m i r r.stage v here h

-- Asks that go out again leave the node
node_owner : (f : Frame) (m : ℕ) (r : Played) (call : Suspended) (v : NodeWork) → (asks_owner f m r call v).node ≡ v.node
node_owner f m r call v = cond_both (owner_in (known f v.node) call.object == m) _ _ (λ (u : NodeWork). u.node ≡ v.node) (λ e. refl) (λ e. refl)

node_by : (f : Frame) (m i : ℕ) (r : Played) (act : Action) (v : NodeWork) → (asks_again_by f m i r act v).node ≡ v.node
node_by f m i r (action.Call kind op object args) v = node_owner f m r _ v
node_by f m i r (action.Make kind object) v = refl
node_by f m i r (action.Fork text args place_on) v = refl
node_by f m i r action.Ended v = refl
node_by f m i r (action.Faulted fault) v = refl

node_at : (f : Frame) (m i : ℕ) (r : Played) (stage : Stage) (v : NodeWork) → (asks_again_at f m i r stage v).node ≡ v.node
node_at f m i r (Asking act) v = node_by f m i r act v
node_at f m i r Computing v = refl
node_at f m i r (Acting act) v = refl
node_at f m i r (Submitted act) v = refl
node_at f m i r (Reading act) v = refl
node_at f m i r (Over act) v = refl

node_of : (f : Frame) (m i : ℕ) (o : Option Played) (v : NodeWork) → (asks_again_of f m i o v).node ≡ v.node
node_of f m i None v = refl
node_of f m i (Some r) v = node_at f m i r r.stage v

pub node_below : (f : Frame) (m n : ℕ) (v : NodeWork) → (asks_below f m n v).node ≡ v.node
node_below f m zero v = refl
node_below f m (suc i) v = node_of f m i ((asks_below f m i v).node.played i) (asks_below f m i v) ∙ node_below f m i v

climbs_again : (f : Frame) (m : ℕ) (v : NodeWork) → Low v.node → Climbs v (asks_again f m v)
climbs_again f m v h = cond_both v.node.member.outside _ _ (Climbs v) (λ e. stays v h)
    (λ e.
    let node = node_below f m v.node.copies.processes v in
    let applied = ap (λ (n : Node). n.copies.applied) node in
    same v (asks_below f m v.node.copies.processes v) (ap (λ (n : Node). n.played) node) (omega (arith, applied)) (ap (λ (n : Node). n.held) node) h)

-- ---- a part of a member

-- no process is here beyond those that are counted, and each Answer that waits reaches its process
record Ready (node : Node) : Type 0 where
  fresh : Fresh node
  low : Low node
  reach : Each (ReachesOne node.played) node.held

abbrev Rises : Node → Node → Type 0
Rises node more = (i : ℕ) (r : Played) → node.played i ≡ Some r → (t : Played) × (more.played i ≡ Some t) × (r.place ≤ t.place)

begins_since : (node : Node) → Low node → Since node.played (idle node)
begins_since node low = record { up = λ i r found. (r, found, later_same r, omega arith); low = low }

-- from where its part begins it catches up
up_since : (f : Frame) (m : ℕ) (node : Node) (v : NodeWork) → Fresh v.node → Since node.played v → Each (ReachesOne node.played) v.node.held →
    Rises node (catches_up f m v).node
up_since f m node v fresh h reach i r found =
    let u : NodeWork = applies_all f m v in
    let climbs : Climbs v u = climbs_rounds f m v.node.member.waiting v h.low in
    let k : Since node.played u = since_on node.played v u (ages_rounds f m v.node.member.waiting v fresh).on climbs h in
    let held : Each (ReachesOne node.played) u.node.held = subst (Each (ReachesOne node.played)) (sym climbs.held) reach in
    let a = (since_reached node.played f m u held k).up i r found in
    (a.0, a.1, a.3)

part_rises : (f : Frame) (m : ℕ) (node : Node) (v : NodeWork) → Ready node → Goes (idle node) v → Climbs (idle node) v → Rises node (catches_up f m v).node
part_rises f m node v ready goes climbs =
    up_since f m node v (ages_by (idle node) v goes ready.fresh).fresh
    (since_on node.played (idle node) v goes.on climbs (begins_since node ready.low))
    (subst (Each (ReachesOne node.played)) (sym climbs.held) ready.reach)

acts_rises : (f : Frame) (m i : ℕ) (node : Node) → Ready node → Rises node (acts f m i node).node
acts_rises f m i node ready = part_rises f m node (acts_of f m i (node.played i) (idle node)) ready
    (goes_acts f m i (node.played i) (idle node) refl) (climbs_acts f m i (node.played i) (idle node) refl ready.low)

ticks_rises : (f : Frame) (m : ℕ) (node : Node) → Ready node → Rises node (ticks f m node).node
ticks_rises f m node ready =
    let u : NodeWork = joins (timer (group f) m node.member) (idle node) in
    part_rises f m node (asks_again f m u) ready (goes_on (goes_joins (timer (group f) m node.member) (idle node)) (goes_again f m u))
    (climbs_on (idle node) u (asks_again f m u) (climbs_joins (timer (group f) m node.member) (idle node) ready.low) (λ k. climbs_again f m u k))

suspects_rises : (f : Frame) (m : ℕ) (node : Node) → Ready node → Rises node (suspects f m node).node
suspects_rises f m node ready = part_rises f m node (joins (coordinate (group f) m node.member) (idle node)) ready
    (goes_joins (coordinate (group f) m node.member) (idle node)) (climbs_joins (coordinate (group f) m node.member) (idle node) ready.low)

comes_rises : (f : Frame) (w : World) (mail : Mail) → Ready (w.nodes (receiver_of mail)) → MailReaches w.nodes mail →
    Rises (w.nodes (receiver_of mail)) (receives_part f (receiver_of mail) mail (w.nodes (receiver_of mail))).node
comes_rises f w (Mail.Grouped letter) ready reaches =
    part_rises f letter.to (w.nodes letter.to) (joins (deliver (group f) letter.to letter.packet (w.nodes letter.to).member) (idle (w.nodes letter.to))) ready
    (goes_joins (deliver (group f) letter.to letter.packet (w.nodes letter.to).member) (idle (w.nodes letter.to)))
    (climbs_joins (deliver (group f) letter.to letter.packet (w.nodes letter.to).member) (idle (w.nodes letter.to)) ready.low)
comes_rises f w (Mail.Sends incarnation from to errand) ready reaches =
    let node : Node = w.nodes to in
    let v : NodeWork = arrives errand (idle node) in
    let goes : Goes (idle node) v = goes_mail f to (Mail.Sends incarnation from to errand) (idle node) in
    up_since f to node v (ages_by (idle node) v goes ready.fresh).fresh
    (cond_both (node.member.outside || is_held errand node.held) _ _ (Since node.played) (λ e. begins_since node ready.low)
    (λ e. since_same node.played (idle node) (holds errand (idle node)) refl refl (begins_since node ready.low)))
    (cond_both (node.member.outside || is_held errand node.held) _ _ (λ (u : NodeWork). Each (ReachesOne node.played) u.node.held) (λ e. ready.reach)
    (λ e. each_append (ReachesOne node.played) node.held (errand ∷ []) ready.reach (reaches, tt)))

-- ---- a burst

ran_rises : (f : Frame) (objects : Objects) (place : ℕ) (i : ProcessNo) (last : ℕ) (r : Played) (lines : List Line) (end : Played) →
    r.place ≤ place → Ran f objects place i last r lines end → r.place ≤ end.place
ran_rises f objects place i last r [] end le ran = subst (λ (z : Played). r.place ≤ z.place) (sym ran.4) (omega arith)
ran_rises f objects place i last r (line ∷ lines) end le ran =
    let rest = ran_rises f objects place i last (reads_on place ran.1 line r) lines end (omega arith) ran.5 in
    omega (arith, le, rest)

burst_rises : (f : Frame) (w : World) (i : ProcessNo) (place turns : ℕ) (burst : Burst) → IsBurst f w i place turns burst →
    Rises (w.nodes (home_of f w i.0)) (computes i.0 place burst.reads burst.end (w.nodes (home_of f w i.0))).node
burst_rises f w i place turns burst is j r =
    let node : Node = w.nodes (home_of f w i.0) in
    let u : NodeWork = performs_all place burst.reads (idle node) in
    let kept : u.node ≡ node = performed_node place burst.reads (idle node) in
    let rise : is.start.place ≤ burst.end.place = ran_rises f _ place i _ is.start burst.reads burst.end is.after is.ran in
    at_both u.node.played i.0 (Some burst.end) j (λ z. node.played j ≡ Some r → (t : Played) × (z ≡ Some t) × (r.place ≤ t.place))
    (λ e found.
    let one : Some r ≡ Some is.start = sym found ∙ ap node.played e ∙ is.here in
    let same_one : r ≡ is.start = cc one in
    let first = ap (λ (z : Played). z.place) same_one in
    (burst.end, refl, omega (arith, rise, first)))
    (λ no found. (r, ap (λ (n : Node). n.played j) kept ∙ found, omega arith))

-- ---- events

-- one member's part
rises_part : (f : Frame) (w : World) (m : ℕ) (v : NodeWork) (u : AtWork) → PlacesRise w u.world → u.world.nodes m ≡ w.nodes m → Rises (w.nodes m) v.node →
    PlacesRise w (after_part f m v u).world
rises_part f w m v u before unchanged rises k i r found =
    at_both u.world.nodes m v.node k (λ (n : Node). (t : Played) × (n.played i ≡ Some t) × (r.place ≤ t.place))
    (λ e. rises i r (ap (λ n. (w.nodes n).played i) (sym e) ∙ found)) (λ no. before k i r found)

rises_none : (w : World) → PlacesRise w w
rises_none w m i r found = (r, found, omega arith)

-- the same nodes
rises_same : (w v : World) → v.nodes ≡ w.nodes → PlacesRise w v
rises_same w v nodes m i r found = (r, ap (λ n. (n m).played i) nodes ∙ found, omega arith)

-- members below n did their part, the others are as they were
record Ticked (w : World) (n : ℕ) (u : AtWork) : Type 0 where
  rises : PlacesRise w u.world
  others : (k : ℕ) → n ≤ k → u.world.nodes k ≡ w.nodes k

ticked_below : (f : Frame) (w v : World) (n : ℕ) → v.nodes ≡ w.nodes → ((m : ℕ) → Ready (w.nodes m)) → Ticked w n (ticks_below f n (untouched v))
ticked_below f w v zero nodes ready = record { rises = rises_same w v nodes; others = λ k le. ap (λ n. n k) nodes }
ticked_below f w v (suc m) nodes ready =
    let u : AtWork = ticks_below f m (untouched v) in
    let k : Ticked w m u = ticked_below f w v m nodes ready in
    let here : u.world.nodes m ≡ w.nodes m = k.others m (omega arith) in
    cond_both (u.world.lives m) _ _ (Ticked w (suc m))
    (λ e. record {
      rises = rises_part f w m (ticks f m (u.world.nodes m)) u k.rises here
          (subst (λ (n : Node). Rises (w.nodes m) (ticks f m n).node) (sym here) (ticks_rises f m (w.nodes m) (ready m)));
      others = λ j le. at_both u.world.nodes m (ticks f m (u.world.nodes m)).node j (λ n. n ≡ w.nodes j)
          (λ d. absurd (omega (arith, le, d))) (λ no. k.others j (omega (arith, le)));
    })
    (λ e. record { rises = k.rises; others = λ j le. k.others j (omega (arith, le)) })

whole_rises : (f : Frame) (w v : World) (o : Option (Flight Carried)) → v.nodes ≡ w.nodes → ((m : ℕ) → Ready (w.nodes m)) →
    ((flight : Flight Carried) → o ≡ Some flight → MailReaches w.nodes flight.packet.mail) → PlacesRise w (comes_whole f v o).world
whole_rises f w v None nodes ready reaches = rises_same w v nodes
whole_rises f w v (Some flight) nodes ready reaches = cond_both (is_whole f.settings.nodes flight.packet) _ _ (λ (u : AtWork). PlacesRise w u.world)
    (λ e. cond_both (lives_in f v (receiver_of flight.packet.mail)) _ _ (λ (u : AtWork). PlacesRise w u.world)
    (λ d.
    let to : ℕ = receiver_of flight.packet.mail in
    let here : v.nodes to ≡ w.nodes to = ap (λ n. n to) nodes in
    rises_part f w to (receives_part f to flight.packet.mail (v.nodes to)) (untouched v) (rises_same w v nodes) here
    (subst (λ (n : Node). Rises (w.nodes to) (receives_part f to flight.packet.mail n).node) (sym here)
    (comes_rises f w flight.packet.mail (ready to) (reaches flight refl))))
    (λ d. rises_same w v nodes))
    (λ e. rises_same w v nodes)

happens_rises : (f : Frame) (w : World) (event : world.Event) (given : Known event) → Possible f w event given → ((m : ℕ) → Ready (w.nodes m)) →
    Each (λ (flight : Flight Carried). MailReaches w.nodes flight.packet.mail) w.flights → PlacesRise w (happens f w event given).world
happens_rises f w (event.Burst process place turns) burst is ready flies =
    let m : ℕ = home_of f w process.0 in
    rises_part f w m (computes process.0 place burst.reads burst.end (w.nodes m)) (untouched w) (rises_none w) refl (burst_rises f w process place turns burst is)
happens_rises f w (event.Act process) given may ready flies =
    let m : ℕ = home_of f w process.0 in
    rises_part f w m (acts f m process.0 (w.nodes m)) (untouched w) (rises_none w) refl (acts_rises f m process.0 (w.nodes m) (ready m))
happens_rises f w (event.Deliver packet copy) given may ready flies =
    whole_rises f w (record w { flights = without packet copy w.flights }) (ready_copy packet copy w.flights) refl ready
    (λ flight e. each_found (λ (one : Flight Carried). MailReaches w.nodes one.packet.mail) _ w.flights flight e flies)
happens_rises f w event.Tick given may ready flies =
    (ticked_below f w (record w { flights = ticked w.flights }) f.settings.nodes refl ready).rises
happens_rises f w (event.Crash node) given may ready flies = rises_none w
happens_rises f w (event.Suspect node) given may ready flies =
    rises_part f w node (suspects f node (w.nodes node)) (untouched w) (rises_none w) refl (suspects_rises f node (w.nodes node) (ready node))
happens_rises f w event.Swap given may ready flies = rises_none w

pub rises_after : (f : Frame) (w v : World) (step : Step) → Next f w step v → ((m : ℕ) → Fresh (w.nodes m)) → PlacesWithin w → AnswersReach w → PlacesRise w v
rises_after f w v step next fresh places reach =
    let u : AtWork = happens f w step.event next.given in
    let ready : (m : ℕ) → Ready (w.nodes m) = λ m. record { fresh = fresh m; low = places.processes m; reach = reach.held m } in
    let rises : PlacesRise w u.world = happens_rises f w step.event next.given next.possible ready reach.flights in
    let nodes : (closes f w step u).nodes ≡ u.world.nodes = posted_nodes f u.mails step.fates u.world in
    subst (PlacesRise w) (sym next.after)
    (λ m i r found. let a = rises m i r found in (a.0, ap (λ n. (n m).played i) nodes ∙ a.1, a.2))

pub places_rise : (f : Frame) (steps : List Step) (w v : World) (step : Step) → Leads f (opening_world f) steps w → Next f w step v → PlacesWithin w →
    AnswersReach w → PlacesRise w v
places_rise f steps w v step leads next places reach =
    rises_after f w v step next (leads_later f (opening_world f) steps w leads (opening_fresh f)).fresh places reach
