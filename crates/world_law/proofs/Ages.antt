-- Processes go on, in each event of a run.
use Rattle.std.proofs.Common.{◌≡◌, ◌==◌, ◌≤◌, ◌+◌, ℕ, zero, suc, Bool, true, false, List, [], ◌∷◌, length, Option, Some, None, append-nil, refl, sym, ap, ◌∙◌, arith, subst, nat_lt}
use Rattle.std.proofs.lemmas.Bool.{cond_both}
use Rattle.orca_base.specs.declared.ids.ProcessNo.{ProcessNo}
use Rattle.value_core.specs.Meaning.{Performs}
use Rattle.value_core.specs.History.{Objects, forked}
use Rattle.value_core.specs.declared.action.Action.{Action}
use Rattle.value_core.specs.declared.action.Action.TheVariants as action
use Rattle.value_core.specs.declared.action.Class.{Class}
use Rattle.value_core.specs.declared.action.Class.TheVariants.{Reads, Writes}
use Rattle.value_core.specs.declared.action.Line.{Line}
use Rattle.value_core.specs.declared.message.Message.{Message}
use Rattle.value_core.specs.declared.processor.Halt.{Halt}
use Rattle.value_core.specs.declared.processor.Halt.TheVariants as halt
use Rattle.guard_queue.specs.declared.queue.Suspended.{Suspended}
use Rattle.object_manager.specs.After.{Copied}
use Rattle.object_manager.specs.State.{message_of}
use Rattle.book_law.specs.Members.{after_entry}
use Rattle.book_law.specs.Passes.{Test, is_passed, lines_after}
use Rattle.group_rules.specs.Member.{Waiting}
use Rattle.group_rules.specs.Reset.{coordinate}
use Rattle.group_rules.specs.Steps.{deliver, note, submit, timer}
use Rattle.group_rules.specs.Work.{Work}
use Rattle.net_rules.specs.Flights.{ready_copy, ticked, without}
use Rattle.net_rules.specs.declared.fate.Fate.{Fate}
use Rattle.net_rules.specs.declared.flight.Flight.{Flight}
use Rattle.world_rules.specs.declared.event.Event as world
use Rattle.world_rules.specs.declared.event.Event.TheVariants as event
use Rattle.world_rules.specs.declared.event.Step.{Step}
use Rattle.world_rules.specs.Applying.{answers, applies, applies_all, applies_each, applies_one, begins, copies_take, due_entries, notes, passes_limit, round, rounds, tries_reads}
use Rattle.world_rules.specs.Bursts.{Halts, Ran, last_turn, reads_on}
use Rattle.world_rules.specs.Frame.{Frame, group}
use Rattle.world_rules.specs.Mail.{Carried, Mail, is_whole, receiver_of}
use Rattle.world_rules.specs.Nodes.{Node, NodeWork, does, idle, joins, known, opening_node, plays}
use Rattle.world_rules.specs.Nodes.Deed.{Performs as Performing, Submits}
use Rattle.world_rules.specs.Owners.{takes_reached}
use Rattle.world_rules.specs.Parts.{acts, acts_at, acts_by, acts_of, asks, asks_again, calls, calls_as, catches_up, computes, performs_all, receives, receives_mail, submits, suspects, ticks}
use Rattle.world_rules.specs.Played.{Played, Stage, halted, moves_to, newborn, next_call}
use Rattle.world_rules.specs.Played.{receives as receives_reply}
use Rattle.world_rules.specs.Played.Stage.{Computing, Acting, Submitted, Reading, Asking, Over}
use Rattle.world_rules.specs.Processes.{Begun, begun_by, home_in, owner_in, singles_of}
use Rattle.world_rules.specs.Steps.{AtWork, Burst, IsBurst, Known, Leads, Next, Possible, after_part, closes, comes, comes_whole, happens, lives_in, posts, posts_all, ticks_below, untouched}
use Rattle.world_rules.specs.Worlds.{World, home_of, opening_world}
use Rattle.world_law.specs.Going.{Later, ProcessesLater}
use Rattle.world_law.proofs.Going.{Goes, goes_again, goes_answers, goes_arrives, goes_call, goes_on, goes_plays, goes_reached, goes_read, goes_reads, idles, later_moves, later_on, later_receives, later_same, same}
use Rattle.world_law.proofs.Maps.{at_both, at_other}

-- no process is here beyond those that its copies count
abbrev pub Fresh : Node → Type 0
Fresh node = (i : ℕ) → node.copies.processes ≤ i → node.played i ≡ None

abbrev pub On : NodeWork → NodeWork → Type 0
On v u = (i : ℕ) (r : Played) → v.node.played i ≡ Some r → (t : Played) × (u.node.played i ≡ Some t) × Later r t

pub record Ages (v u : NodeWork) : Type 0 where
  pub on : On v u
  pub fresh : Fresh u.node

pub ages_by : (v u : NodeWork) → Goes v u → Fresh v.node → Ages v u
ages_by v u g h = record { on = g.on; fresh = λ i le. g.none i (h i (subst (λ n. n ≤ i) g.count le)) }

pub on_trans : (v u t : NodeWork) → On v u → On u t → On v t
on_trans v u t one two i r is =
    let a = one i r is in
    let b = two i a.0 a.1 in
    (b.0, b.1, later_on r a.0 b.0 a.2 b.2)

pub ages_on : (v u t : NodeWork) → Ages v u → (Fresh u.node → Ages u t) → Ages v t
ages_on v u t one two = record { on = on_trans v u t one.on (two one.fresh).on; fresh = (two one.fresh).fresh }

pub ages_idle : (v : NodeWork) → Fresh v.node → Ages v v
ages_idle v h = ages_by v v (idles v) h

-- ---- one entry

passed_forks_none : (single : Test) (a : Action) → is_passed single a ≡ true → length (forked a) ≡ 0
passed_forks_none single (action.Make kind object) e = refl
passed_forks_none single (action.Call kind op object args) e = refl
passed_forks_none single (action.Fork text args place_on) e = let f : false ≡ true = e in cc f
passed_forks_none single action.Ended e = refl
passed_forks_none single (action.Faulted fault) e = refl

pub counts : (single : Test) (p : Performs) (c : Copied) (x : Message) (keeps : Bool) →
    (after_entry single p c x keeps).processes ≡ c.processes + length (forked x.action)
counts single p c x keeps = cond_both (is_passed single x.action) _ _ (λ (z : Copied). z.processes ≡ c.processes + length (forked x.action))
    (λ e. let n = passed_forks_none single x.action e in omega (arith, n)) (λ e. refl)

pub born_many : (nodes parent place : ℕ) (a : Action) → length (begun_by nodes parent place a) ≡ length (forked a)
born_many nodes parent place (action.Make kind object) = refl
born_many nodes parent place (action.Call kind op object args) = refl
born_many nodes parent place (action.Fork text args place_on) = refl
born_many nodes parent place action.Ended = refl
born_many nodes parent place (action.Faulted fault) = refl

on_begins : (m count : ℕ) (born : List Begun) (v : NodeWork) → v.node.played count ≡ None → On v (begins m count born v)
on_begins m count [] v none = λ i r is. (r, is, later_same r)
on_begins m count (process ∷ processes) v none = cond_both (process.home == m) _ _ (On v)
    (λ e i r is. (
      r,
      at_other v.node.played count i (Some (newborn process)) (λ same_one. let found : None ≡ Some r = sym none ∙ ap v.node.played (sym same_one) ∙ is in cc found) ∙ is,
      later_same r,
    ))
    (λ e i r is. (r, is, later_same r))

none_begins : (m count : ℕ) (born : List Begun) (v : NodeWork) → ((i : ℕ) → count + length born ≤ i → v.node.played i ≡ None) →
    (i : ℕ) → count + length born ≤ i → (begins m count born v).node.played i ≡ None
none_begins m count [] v none i le = none i le
none_begins m count (process ∷ processes) v none i le = cond_both (process.home == m) _ _ (λ (u : NodeWork). u.node.played i ≡ None)
    (λ e. at_other v.node.played count i (Some (newborn process)) (λ same_one. omega (arith, le, same_one)) ∙ none i le) (λ e. none i le)

pub count_begins : (m count : ℕ) (born : List Begun) (v : NodeWork) → (begins m count born v).node.copies.processes ≡ v.node.copies.processes
count_begins m count [] v = refl
count_begins m count (process ∷ processes) v = cond_both (process.home == m) _ _ (λ (u : NodeWork). u.node.copies.processes ≡ v.node.copies.processes)
    (λ e. refl) (λ e. refl)

pub ages_one : (f : Frame) (m : ℕ) (x : Message) (v : NodeWork) → Fresh v.node → Ages v (applies_one f m x v)
ages_one f m x v h =
    let ps : List Begun = known f v.node in
    let count : ℕ = v.node.copies.processes in
    let place : ℕ = suc v.node.copies.applied in
    let taken : NodeWork = copies_take f m ps x v in
    let lines : List Line = lines_after (singles_of f ps) f.performs v.node.copies x in
    let told : NodeWork = answers place lines taken in
    let born : List Begun = begun_by f.settings.nodes (home_in ps x.process.0) place x.action in
    let u : NodeWork = begins m count born told in
    let g : Goes taken told = goes_answers place lines taken in
    let many : length born ≡ length (forked x.action) = born_many f.settings.nodes (home_in ps x.process.0) place x.action in
    let new : taken.node.copies.processes ≡ count + length (forked x.action) =
    counts (singles_of f ps) f.performs v.node.copies x (home_in ps x.process.0 == m) in
    let now : u.node.copies.processes ≡ taken.node.copies.processes = count_begins m count born told ∙ g.count in
    let none : told.node.played count ≡ None = g.none count (h count (omega arith)) in
    let on : On v u = on_trans v told u g.on (on_begins m count born told none) in
    let fresh : Fresh u.node = λ i le. none_begins m count born told (λ j low. g.none j (h j (omega (arith, low)))) i (omega (arith, le, now, new, many)) in
    ages_on v u (tries_reads f u.node.copies.processes u) (record { on = on; fresh = fresh })
    (λ k. ages_by u (tries_reads f u.node.copies.processes u) (goes_reads f u.node.copies.processes u) k)

-- ---- a member catches up

pub ages_each : (f : Frame) (m : ℕ) (xs : List Message) (v : NodeWork) → Fresh v.node → Ages v (applies_each f m xs v)
ages_each f m [] v h = ages_idle v h
ages_each f m (x ∷ xs) v h = cond_both (passes_limit f v.node x) _ _ (Ages v) (λ e. ages_idle v h)
    (λ e. ages_on v (applies_one f m x v) (applies_each f m xs (applies_one f m x v)) (ages_one f m x v h) (λ k. ages_each f m xs (applies_one f m x v) k))

pub goes_joins : (work : Work Message) (v : NodeWork) → Goes v (joins work v)
goes_joins work v = same v (joins work v) refl refl

pub goes_notes : (f : Frame) (m : ℕ) (v : NodeWork) → Goes v (notes f m v)
goes_notes f m v = cond_both (nat_lt v.node.member.applied v.node.copies.applied) _ _ (Goes v)
    (λ e. goes_joins (note (group f) m v.node.copies.applied v.node.member) v) (λ e. idles v)

pub ages_round : (f : Frame) (m : ℕ) (v : NodeWork) → Fresh v.node → Ages v (round f m v)
ages_round f m v h = ages_on v (applies f m v) (round f m v) (ages_each f m (due_entries v.node) v h)
    (λ k. ages_by (applies f m v) (round f m v) (goes_notes f m (applies f m v)) k)

pub ages_rounds : (f : Frame) (m : ℕ) (waiting : List (Waiting Message)) (v : NodeWork) → Fresh v.node → Ages v (rounds f m waiting v)
ages_rounds f m [] v h = ages_round f m v h
ages_rounds f m (one ∷ more) v h = ages_on v (round f m v) (rounds f m more (round f m v)) (ages_round f m v h) (λ k. ages_rounds f m more (round f m v) k)

pub ages_up : (f : Frame) (m : ℕ) (v : NodeWork) → Fresh v.node → Ages v (catches_up f m v)
ages_up f m v h = ages_on v (applies_all f m v) (catches_up f m v) (ages_rounds f m v.node.member.waiting v h)
    (λ k. ages_by (applies_all f m v) (takes_reached f m (applies_all f m v)) (goes_reached f m (applies_all f m v)) k)

-- ---- parts of events

pub moved : (i : ℕ) (r : Played) (act : Action) (stage : Stage) (v : NodeWork) → v.node.played i ≡ Some r → r.stage ≡ Acting act → Goes v (plays i (moves_to stage r) v)
moved i r act stage v here is = goes_plays i r (moves_to stage r) v here (later_moves stage act r is)

pub goes_submits : (f : Frame) (m i : ℕ) (r : Played) (act was : Action) (x : Message) (v : NodeWork) → v.node.played i ≡ Some r → r.stage ≡ Acting was →
    Goes v (submits f m i r act x v)
goes_submits f m i r act was x v here is =
    let u : NodeWork = does (Submits x) (plays i (moves_to (Submitted act) r) v) in
    goes_on (moved i r was (Submitted act) v here is) (goes_on (same (plays i (moves_to (Submitted act) r) v) u refl refl) (goes_joins (submit (group f) m x u.node.member) u))

pub goes_asks : (f : Frame) (m i : ℕ) (r : Played) (was : Action) (call : Suspended) (v : NodeWork) → v.node.played i ≡ Some r → r.stage ≡ Acting was →
    Goes v (asks f m i r call v)
goes_asks f m i r was call v here is =
    let u : NodeWork = plays i (moves_to (Asking (message_of call).action) r) v in
    goes_on (moved i r was (Asking (message_of call).action) v here is)
    (cond_both (owner_in (known f v.node) call.object == m) _ _ (Goes u) (λ e. goes_call f m (message_of call) u) (λ e. same u _ refl refl))

pub goes_calls_as : (f : Frame) (m i : ℕ) (r : Played) (was : Action) (call : Suspended) (class : Class) (v : NodeWork) → v.node.played i ≡ Some r →
    r.stage ≡ Acting was → Goes v (calls_as f m i r call class v)
goes_calls_as f m i r was call Reads v here is =
    goes_on (moved i r was (Reading (message_of call).action) v here is) (goes_read f i (plays i (moves_to (Reading (message_of call).action) r) v))
goes_calls_as f m i r was call Writes v here is = goes_submits f m i r (message_of call).action was (message_of call) v here is

pub goes_calls : (f : Frame) (m i : ℕ) (r : Played) (was : Action) (call : Suspended) (v : NodeWork) → v.node.played i ≡ Some r →
    r.stage ≡ Acting was → Goes v (calls f m i r call v)
goes_calls f m i r was call v here is = cond_both (singles_of f (known f v.node) call.object) _ _ (Goes v) (λ e. goes_asks f m i r was call v here is)
    (λ e. goes_calls_as f m i r was call (f.performs.class_of call.kind call.op) v here is)

pub goes_by : (f : Frame) (m i : ℕ) (r : Played) (was act : Action) (v : NodeWork) → v.node.played i ≡ Some r → r.stage ≡ Acting was →
    Goes v (acts_by f m i r act v)
goes_by f m i r was (action.Make kind object) v here is =
    let x : Message = record { process = record { 0 = i }; call = next_call r; action = action.Make kind object; performable = refl } in
    goes_submits f m i r (action.Make kind object) was x v here is
goes_by f m i r was (action.Call kind op object args) v here is =
    let call : Suspended = record { process = record { 0 = i }; call = next_call r; kind = kind; op = op; object = object; args = args } in
    goes_calls f m i r was call v here is
goes_by f m i r was (action.Fork text args place_on) v here is =
    let x : Message = record { process = record { 0 = i }; call = next_call r; action = action.Fork text args place_on; performable = refl } in
    goes_submits f m i r (action.Fork text args place_on) was x v here is
goes_by f m i r was action.Ended v here is = idles v
goes_by f m i r was (action.Faulted fault) v here is = idles v

pub goes_at : (f : Frame) (m i : ℕ) (r : Played) (stage : Stage) (v : NodeWork) → v.node.played i ≡ Some r → r.stage ≡ stage → Goes v (acts_at f m i r stage v)
goes_at f m i r (Acting act) v here is = goes_by f m i r act act v here is
goes_at f m i r Computing v here is = idles v
goes_at f m i r (Submitted act) v here is = idles v
goes_at f m i r (Reading act) v here is = idles v
goes_at f m i r (Asking act) v here is = idles v
goes_at f m i r (Over act) v here is = idles v

pub goes_acts : (f : Frame) (m i : ℕ) (o : Option Played) (v : NodeWork) → v.node.played i ≡ o → Goes v (acts_of f m i o v)
goes_acts f m i None v is = idles v
goes_acts f m i (Some r) v is = goes_at f m i r r.stage v is refl

pub goes_mail : (f : Frame) (m : ℕ) (mail : Mail) (v : NodeWork) → Goes v (receives_mail f m mail v)
goes_mail f m (Mail.Grouped letter) v = goes_joins (deliver (group f) m letter.packet v.node.member) v
goes_mail f m (Mail.Sends incarnation from to errand) v = goes_arrives errand v

pub ages_part : (f : Frame) (m : ℕ) (v u : NodeWork) → Goes v u → Fresh v.node → Ages v (catches_up f m u)
ages_part f m v u g h = ages_on v u (catches_up f m u) (ages_by v u g h) (λ k. ages_up f m u k)

-- ---- a burst

pub goes_performed : (place : ℕ) (lines : List Line) (v : NodeWork) → Goes v (performs_all place lines v)
goes_performed place [] v = idles v
goes_performed place (l ∷ ls) v = goes_on (same v (does (Performing (record { place = place; line = l })) v) refl refl)
    (goes_performed place ls (does (Performing (record { place = place; line = l })) v))

used_more : (f : Frame) (i : ProcessNo) (r : Played) (last used : ℕ) (at_halt : Halt) → Halts f i r last used at_halt → r.turns ≤ used
used_more f i r last used (halt.At act) h = omega (arith, h.1, h.4)
used_more f i r last used halt.Paused h = omega (arith, h.1)

computing_asks : (r : Played) (act : Action) → r.stage ≡ Computing → r.stage ≡ Asking act → ⊥
computing_asks r act is asks = let e : Computing ≡ Asking act = sym is ∙ asks in cc e

later_halted : (used : ℕ) (at_halt : Halt) (r : Played) → r.turns ≤ used → r.stage ≡ Computing → Later r (halted used at_halt r)
later_halted used at_halt r more is = record {
  text = refl;
  args = refl;
  replies = ([], sym (append-nil r.replies));
  turns = more;
  place = λ e. refl;
  asks = λ e act asks. absurd (computing_asks r act is asks);
}

later_read : (place used : ℕ) (line : Line) (r : Played) → r.turns ≤ used → Later r (reads_on place used line r)
later_read place used line r more =
    let h = later_receives place line.reply r in
    record { text = refl; args = refl; replies = h.replies; turns = more; place = λ e. h.place e; asks = λ e act is. absurd (computing_asks (receives_reply place line.reply r) act refl (h.asks e act is)) }

pub later_ran : (f : Frame) (objects : Objects) (place : ℕ) (i : ProcessNo) (last : ℕ) (r : Played) (lines : List Line) (end : Played) →
    r.stage ≡ Computing → Ran f objects place i last r lines end → Later r end
later_ran f objects place i last r [] end is ran =
    subst (Later r) (sym ran.4) (later_halted ran.1 ran.0 r (used_more f i r last ran.1 ran.0 ran.2) is)
later_ran f objects place i last r (line ∷ lines) end is ran =
    let s : Played = reads_on place ran.1 line r in
    later_on r s end (later_read place ran.1 line r (used_more f i r last ran.1 (halt.At ran.0) ran.2))
    (later_ran f objects place i last s lines end refl ran.5)

-- ---- a world

pub same_world : (w v : World) → v.nodes ≡ w.nodes → ProcessesLater w v
same_world w v nodes m i r is = (r, ap (λ n. (n m).played i) nodes ∙ is, later_same r)

pub world_trans : (w v u : World) → ProcessesLater w v → ProcessesLater v u → ProcessesLater w u
world_trans w v u one two m i r is =
    let a = one m i r is in
    let b = two m i a.0 a.1 in
    (b.0, b.1, later_on r a.0 b.0 a.2 b.2)

-- from a world to one at work
pub record Going (w : World) (u : AtWork) : Type 0 where
  pub later : ProcessesLater w u.world
  pub fresh : (m : ℕ) → Fresh (u.world.nodes m)

part : (f : Frame) (w : World) (m : ℕ) (v : NodeWork) (u : AtWork) → Going w u → Ages (idle (u.world.nodes m)) v → Going w (after_part f m v u)
part f w m v u h a = record {
  later = λ k i r is.
      let b = h.later k i r is in
      at_both u.world.nodes m v.node k (λ (n : Node). (t : Played) × (n.played i ≡ Some t) × Later r t)
      (λ e.
      let c = a.on i b.0 (ap (λ n. (u.world.nodes n).played i) (sym e) ∙ b.1) in
      (c.0, c.1, later_on r b.0 c.0 b.2 c.2))
      (λ no. b);
  fresh = λ k. at_both u.world.nodes m v.node k Fresh (λ e. a.fresh) (λ no. h.fresh k);
}

going : (w : World) → ((m : ℕ) → Fresh (w.nodes m)) → Going w (untouched w)
going w h = record { later = same_world w w refl; fresh = h }

-- ---- events

comes_later : (f : Frame) (w v : World) (mail : Mail) → Going w (untouched v) → Going w (comes f v mail)
comes_later f w v mail h = cond_both (lives_in f v (receiver_of mail)) _ _ (Going w)
    (λ e. part f w (receiver_of mail) (receives f (receiver_of mail) mail (v.nodes (receiver_of mail))) (untouched v) h
    (ages_part f (receiver_of mail) (idle (v.nodes (receiver_of mail))) (receives_mail f (receiver_of mail) mail (idle (v.nodes (receiver_of mail))))
    (goes_mail f (receiver_of mail) mail (idle (v.nodes (receiver_of mail)))) (h.fresh (receiver_of mail))))
    (λ e. h)

whole_later : (f : Frame) (w v : World) (o : Option (Flight Carried)) → Going w (untouched v) → Going w (comes_whole f v o)
whole_later f w v None h = h
whole_later f w v (Some flight) h = cond_both (is_whole f.settings.nodes flight.packet) _ _ (Going w)
    (λ e. comes_later f w v flight.packet.mail h) (λ e. h)

pub below_later : (f : Frame) (w : World) (n : ℕ) (u : AtWork) → Going w u → Going w (ticks_below f n u)
below_later f w zero u h = h
below_later f w (suc m) u h =
    let k = below_later f w m u h in
    let v : AtWork = ticks_below f m u in
    let joined : NodeWork = joins (timer (group f) m (v.world.nodes m).member) (idle (v.world.nodes m)) in
    cond_both (v.world.lives m) _ _ (Going w)
    (λ e. part f w m (ticks f m (v.world.nodes m)) v k
    (ages_part f m (idle (v.world.nodes m)) (asks_again f m joined)
    (goes_on (goes_joins (timer (group f) m (v.world.nodes m).member) (idle (v.world.nodes m))) (goes_again f m joined)) (k.fresh m)))
    (λ e. k)

pub burst_later : (f : Frame) (w : World) (i : ProcessNo) (place turns : ℕ) (burst : Burst) → IsBurst f w i place turns burst →
    Goes (idle (w.nodes (home_of f w i.0))) (computes i.0 place burst.reads burst.end (w.nodes (home_of f w i.0)))
burst_later f w i place turns burst b =
    let node : Node = w.nodes (home_of f w i.0) in
    let v : NodeWork = performs_all place burst.reads (idle node) in
    let g : Goes (idle node) v = goes_performed place burst.reads (idle node) in
    goes_on g (goes_plays i.0 b.start burst.end v (played_same place burst.reads (idle node) i.0 ∙ b.here) (later_ran f _ place i (last_turn f b.start) b.start burst.reads burst.end b.computing b.ran))
  where
    played_same : (place : ℕ) (lines : List Line) (v : NodeWork) (i : ℕ) → (performs_all place lines v).node.played i ≡ v.node.played i
    played_same place [] v i = refl
    played_same place (l ∷ ls) v i = played_same place ls (does (Performing (record { place = place; line = l })) v) i

pub happens_later : (f : Frame) (w : World) (event : world.Event) (given : Known event) → Possible f w event given → ((m : ℕ) → Fresh (w.nodes m)) →
    Going w (happens f w event given)
happens_later f w (event.Burst process place turns) burst may h =
    let m : ℕ = home_of f w process.0 in
    part f w m (computes process.0 place burst.reads burst.end (w.nodes m)) (untouched w) (going w h)
    (ages_by (idle (w.nodes m)) (computes process.0 place burst.reads burst.end (w.nodes m)) (burst_later f w process place turns burst may) (h m))
happens_later f w (event.Act process) given may h =
    let m : ℕ = home_of f w process.0 in
    part f w m (acts f m process.0 (w.nodes m)) (untouched w) (going w h)
    (ages_part f m (idle (w.nodes m)) (acts_of f m process.0 ((w.nodes m).played process.0) (idle (w.nodes m)))
    (goes_acts f m process.0 ((w.nodes m).played process.0) (idle (w.nodes m)) refl) (h m))
happens_later f w (event.Deliver packet copy) given may h =
    whole_later f w (record w { flights = without packet copy w.flights }) (ready_copy packet copy w.flights)
    (record { later = same_world w (record w { flights = without packet copy w.flights }) refl; fresh = h })
happens_later f w event.Tick given may h =
    below_later f w f.settings.nodes (untouched (record w { flights = ticked w.flights }))
    (record { later = same_world w (record w { flights = ticked w.flights }) refl; fresh = h })
happens_later f w (event.Crash node) given may h = record { later = λ m i r is. (r, is, later_same r); fresh = h }
happens_later f w (event.Suspect node) given may h =
    part f w node (suspects f node (w.nodes node)) (untouched w) (going w h)
    (ages_part f node (idle (w.nodes node)) (joins (coordinate (group f) node (w.nodes node).member) (idle (w.nodes node)))
    (goes_joins (coordinate (group f) node (w.nodes node).member) (idle (w.nodes node))) (h node))
happens_later f w event.Swap given may h = record { later = λ m i r is. (r, is, later_same r); fresh = h }

pub posted_nodes : (f : Frame) (mails : List Mail) (fates : List Fate) (w : World) → (posts_all f w mails fates).nodes ≡ w.nodes
posted_nodes f [] fates w = refl
posted_nodes f (mail ∷ mails) [] w = refl
posted_nodes f (mail ∷ mails) (one ∷ fates) w = posted_nodes f mails fates (posts f w mail one)

pub record Gone (w v : World) : Type 0 where
  pub later : ProcessesLater w v
  pub fresh : (m : ℕ) → Fresh (v.nodes m)

pub step_later : (f : Frame) (w v : World) (step : Step) → Next f w step v → ((m : ℕ) → Fresh (w.nodes m)) → Gone w v
step_later f w v step next h =
    let u : AtWork = happens f w step.event next.given in
    let g : Going w u = happens_later f w step.event next.given next.possible h in
    let nodes : (closes f w step u).nodes ≡ u.world.nodes = posted_nodes f u.mails step.fates u.world in
    subst (Gone w) (sym next.after) (record {
      later = world_trans w u.world (closes f w step u) g.later (same_world u.world (closes f w step u) nodes);
      fresh = λ m. subst (λ n. Fresh (n m)) (sym nodes) (g.fresh m);
    })

pub leads_later : (f : Frame) (w : World) (steps : List Step) (v : World) → Leads f w steps v → ((m : ℕ) → Fresh (w.nodes m)) → Gone w v
leads_later f w [] v leads h = subst (Gone w) (sym leads) (record { later = same_world w w refl; fresh = h })
leads_later f w (step ∷ steps) v leads h =
    let one = step_later f w leads.0 step leads.1 h in
    let rest = leads_later f leads.0 steps v leads.2 one.fresh in
    record { later = world_trans w leads.0 v one.later rest.later; fresh = rest.fresh }

pub opening_fresh : (f : Frame) (m : ℕ) → Fresh (opening_node f m)
opening_fresh f zero i le = at_other (λ x. None) 0 i (Some _) (λ e. omega (arith, le, e))
opening_fresh f (suc m) i le = refl

pub processes_go_on : (f : Frame) (steps more : List Step) (w v : World) → Leads f (opening_world f) steps w → Leads f w more v → ProcessesLater w v
processes_go_on f steps more w v before after =
    (leads_later f w more v after (leads_later f (opening_world f) steps w before (opening_fresh f)).fresh).later
