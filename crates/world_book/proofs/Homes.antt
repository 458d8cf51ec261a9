-- Where a process submitted, it runs: each event changes homes alone where it submits, and that is at its process's member.
use Rattle.std.proofs.Common.{◌≡◌, ◌⊎◌, inl, inr, ⊎_elim, ℕ, zero, suc, Option, Some, None, List, [], ◌∷◌, ◌++◌, map, refl, sym, ap, ◌∙◌, nat_lt}
use Rattle.std.proofs.lemmas.Bool.{cond_both}
use Rattle.value_core.specs.declared.action.Action.{Action}
use Rattle.value_core.specs.declared.action.Action.TheVariants as action
use Rattle.value_core.specs.declared.action.Class.{Class}
use Rattle.value_core.specs.declared.action.Class.TheVariants.{Reads, Writes}
use Rattle.value_core.specs.declared.message.Message.{Message}
use Rattle.guard_queue.specs.declared.queue.Suspended.{Suspended}
use Rattle.object_manager.specs.State.{message_of}
use Rattle.net_rules.specs.declared.flight.Flight.{Flight}
use Rattle.net_rules.specs.Flights.{ready_copy, ticked, without}
use Rattle.group_rules.specs.Member.{Waiting}
use Rattle.group_rules.specs.Messages.{Group}
use Rattle.group_rules.specs.Reset.{coordinate}
use Rattle.group_rules.specs.Steps.{deliver, note, submit, timer}
use Rattle.group_rules.specs.Work.{Act, Work}
use Rattle.group_rules.specs.World.{Past, remembers}
use Rattle.world_rules.specs.declared.event.Event as world
use Rattle.world_rules.specs.declared.event.Event.TheVariants as event
use Rattle.world_rules.specs.declared.event.Step.{Step}
use Rattle.world_rules.specs.Applying.{applies, applies_all, applies_each, applies_one, due_entries, notes, passes_limit, round, rounds}
use Rattle.world_rules.specs.Frame.{Frame, group}
use Rattle.world_rules.specs.Mail.{Carried, Mail, is_whole, receiver_of}
use Rattle.world_rules.specs.Nodes.{Deed, NodeWork, does, idle, joins, known, past_after, plays}
use Rattle.world_rules.specs.Nodes.Deed.{Acts, Submits}
use Rattle.world_rules.specs.Owners.{takes_reached}
use Rattle.world_rules.specs.Parts.{acts, acts_at, acts_by, acts_of, asks_again, calls, calls_as, catches_up, receives_mail, submits, ticks}
use Rattle.world_rules.specs.Played.{Played, Stage, moves_to, next_call}
use Rattle.world_rules.specs.Played.Stage.{Computing, Acting, Submitted, Reading, Asking, Over}
use Rattle.world_rules.specs.Processes.{singles_of}
use Rattle.world_rules.specs.Steps.{AtWork, Known, Next, comes, comes_whole, happens, lives_in, ticks_below, untouched}
use Rattle.world_rules.specs.Worlds.{World, home_of}
use Rattle.world_law.specs.Going.{ProcessesLater}
use Rattle.world_law.proofs.Applied.{applied_one}
use Rattle.world_law.proofs.Maps.{at_both}
use Rattle.world_law.proofs.Still.{Still, still_again, still_arrives, still_asks, still_performed, still_reached, still_reading}
use Rattle.world_course.proofs.Events.{posts_keep}

-- the process runs at this member
abbrev pub Plays : World → ℕ → ℕ → Type 0
Plays w m i = (r : Played) × ((w.nodes m).played i ≡ Some r)

-- so does each at its home
abbrev pub AtHome : World → Type 0
AtHome w = (i m : ℕ) → w.past.homes i ≡ Some m → Plays w m i

-- ---- work that leaves homes

record Keeps (g : Group Message) (m : ℕ) (v u : NodeWork) : Type 0 where
  homes : (p : Past Message) → (past_after g m u.deeds p).homes ≡ (past_after g m v.deeds p).homes

same : (g : Group Message) (m : ℕ) (v : NodeWork) → Keeps g m v v
same g m v = record { homes = λ p. refl }

on : {g : Group Message} {m : ℕ} {v u t : NodeWork} → Keeps g m v u → Keeps g m u t → Keeps g m v t
on one two = record { homes = λ p. two.homes p ∙ one.homes p }

by_still : (g : Group Message) (m : ℕ) (v u : NodeWork) → Still g m v u → Keeps g m v u
by_still g m v u s = record { homes = λ p. ap (λ (z : Past Message). z.homes) (s.past p) }

act_homes : (act : Act Message) (p : Past Message) → (remembers act p).homes ≡ p.homes
act_homes (Act.Sends letter) p = refl
act_homes (Act.Keeps packet) p = refl
act_homes (Act.Orders k x) p = refl
act_homes (Act.Begins k log answers) p = refl

acts_homes : (g : Group Message) (m : ℕ) (acts : List (Act Message)) (deeds : List Deed) (p : Past Message) → (past_after g m (map Acts acts ++ deeds) p).homes ≡ (past_after g m deeds p).homes
acts_homes g m [] deeds p = refl
acts_homes g m (act ∷ acts) deeds p = act_homes act (past_after g m (map Acts acts ++ deeds) p) ∙ acts_homes g m acts deeds p

keeps_joins : (g : Group Message) (m : ℕ) (work : Work Message) (v : NodeWork) → Keeps g m v (joins work v)
keeps_joins g m work v = record { homes = λ p. acts_homes g m work.acts v.deeds p }

keeps_one : (f : Frame) (m : ℕ) (x : Message) (v : NodeWork) → Keeps (group f) m v (applies_one f m x v)
keeps_one f m x v = let a = applied_one f (group f) m m x v in record { homes = λ p. ap (λ (z : Past Message). z.homes) (a.past p) }

keeps_each : (f : Frame) (m : ℕ) (xs : List Message) (v : NodeWork) → Keeps (group f) m v (applies_each f m xs v)
keeps_each f m [] v = same (group f) m v
keeps_each f m (x ∷ xs) v = cond_both (passes_limit f v.node x) _ _ (λ u. Keeps (group f) m v u) (λ e. same (group f) m v)
    (λ e. on (keeps_one f m x v) (keeps_each f m xs (applies_one f m x v)))

keeps_notes : (f : Frame) (m : ℕ) (v : NodeWork) → Keeps (group f) m v (notes f m v)
keeps_notes f m v = cond_both (nat_lt v.node.member.applied v.node.copies.applied) _ _ (λ u. Keeps (group f) m v u)
    (λ e. keeps_joins (group f) m (note (group f) m v.node.copies.applied v.node.member) v) (λ e. same (group f) m v)

keeps_round : (f : Frame) (m : ℕ) (v : NodeWork) → Keeps (group f) m v (round f m v)
keeps_round f m v = on (keeps_each f m (due_entries v.node) v) (keeps_notes f m (applies f m v))

keeps_rounds : (f : Frame) (m : ℕ) (waiting : List (Waiting Message)) (v : NodeWork) → Keeps (group f) m v (rounds f m waiting v)
keeps_rounds f m [] v = keeps_round f m v
keeps_rounds f m (one ∷ more) v = on (keeps_round f m v) (keeps_rounds f m more (round f m v))

keeps_caught : (f : Frame) (m : ℕ) (v : NodeWork) → Keeps (group f) m v (catches_up f m v)
keeps_caught f m v = on (keeps_rounds f m v.node.member.waiting v)
    (by_still (group f) m (applies_all f m v) (takes_reached f m (applies_all f m v)) (still_reached f (group f) m m (applies_all f m v)))

keeps_mail : (f : Frame) (m : ℕ) (mail : Mail) (v : NodeWork) → Keeps (group f) m v (receives_mail f m mail v)
keeps_mail f m (Mail.Grouped letter) v = keeps_joins (group f) m (deliver (group f) m letter.packet v.node.member) v
keeps_mail f m (Mail.Sends incarnation from to errand) v = by_still (group f) m v _ (still_arrives (group f) m errand v)

-- ---- a submission

-- what is a home after this work was one before, or it is the member of a process that runs there
abbrev HomesOf : Frame → ℕ → World → NodeWork → Type 0
HomesOf f m w v = (i k : ℕ) → (past_after (group f) m v.deeds w.past).homes i ≡ Some k → (w.past.homes i ≡ Some k) ⊎ Plays w k i

homes_kept : (f : Frame) (m : ℕ) (w : World) (v u : NodeWork) → Keeps (group f) m v u → HomesOf f m w v → HomesOf f m w u
homes_kept f m w v u keeps h i k is = h i k (ap (λ homes. homes i) (sym (keeps.homes w.past)) ∙ is)

homes_idle : (f : Frame) (m : ℕ) (w : World) → HomesOf f m w (idle (w.nodes m))
homes_idle f m w i k is = inl is

homes_submits : (f : Frame) (m i : ℕ) (w : World) (r : Played) (act : Action) (x : Message) → (w.nodes m).played i ≡ Some r → x.process.0 ≡ i →
    HomesOf f m w (submits f m i r act x (idle (w.nodes m)))
homes_submits f m i w r act x here of =
    let u : NodeWork = does (Submits x) (plays i (moves_to (Submitted act) r) (idle (w.nodes m))) in
    homes_kept f m w u (submits f m i r act x (idle (w.nodes m))) (keeps_joins (group f) m (submit (group f) m x u.node.member) u)
    (λ j k. at_both w.past.homes x.process.0 (Some m) j (λ z. z ≡ Some k → (w.past.homes j ≡ Some k) ⊎ Plays w k j)
    (λ e is. let same : m ≡ k = cc is in inr (r, ap (λ (n : ℕ). (w.nodes n).played j) (sym same) ∙ ap (w.nodes m).played (e ∙ of) ∙ here))
    (λ no is. inl is))

homes_calls_as : (f : Frame) (m i : ℕ) (w : World) (r : Played) (call : Suspended) (class : Class) → (w.nodes m).played i ≡ Some r → call.process.0 ≡ i →
    HomesOf f m w (calls_as f m i r call class (idle (w.nodes m)))
homes_calls_as f m i w r call Reads here of = homes_kept f m w (idle (w.nodes m)) _
    (by_still (group f) m (idle (w.nodes m)) _ (still_reading f (group f) m i r (message_of call).action (idle (w.nodes m)))) (homes_idle f m w)
homes_calls_as f m i w r call Writes here of = homes_submits f m i w r (message_of call).action (message_of call) here of

homes_calls : (f : Frame) (m i : ℕ) (w : World) (r : Played) (call : Suspended) → (w.nodes m).played i ≡ Some r → call.process.0 ≡ i →
    HomesOf f m w (calls f m i r call (idle (w.nodes m)))
homes_calls f m i w r call here of = cond_both (singles_of f (known f (w.nodes m)) call.object) _ _ (λ u. HomesOf f m w u)
    (λ e. homes_kept f m w (idle (w.nodes m)) _ (by_still (group f) m (idle (w.nodes m)) _ (still_asks f (group f) m m i r call (idle (w.nodes m)))) (homes_idle f m w))
    (λ e. homes_calls_as f m i w r call (f.performs.class_of call.kind call.op) here of)

homes_by : (f : Frame) (m i : ℕ) (w : World) (r : Played) (act : Action) → (w.nodes m).played i ≡ Some r → HomesOf f m w (acts_by f m i r act (idle (w.nodes m)))
homes_by f m i w r (action.Make kind object) here = homes_submits f m i w r (action.Make kind object) _ here refl
homes_by f m i w r (action.Call kind op object args) here =
    homes_calls f m i w r (record { process = record { 0 = i }; call = next_call r; kind = kind; op = op; object = object; args = args }) here refl
homes_by f m i w r (action.Fork text args place_on) here = homes_submits f m i w r (action.Fork text args place_on) _ here refl
homes_by f m i w r action.Ended here = homes_idle f m w
homes_by f m i w r (action.Faulted fault) here = homes_idle f m w

homes_at : (f : Frame) (m i : ℕ) (w : World) (r : Played) (stage : Stage) → (w.nodes m).played i ≡ Some r → HomesOf f m w (acts_at f m i r stage (idle (w.nodes m)))
homes_at f m i w r (Acting act) here = homes_by f m i w r act here
homes_at f m i w r Computing here = homes_idle f m w
homes_at f m i w r (Submitted act) here = homes_idle f m w
homes_at f m i w r (Reading act) here = homes_idle f m w
homes_at f m i w r (Asking act) here = homes_idle f m w
homes_at f m i w r (Over act) here = homes_idle f m w

homes_acts : (f : Frame) (m i : ℕ) (w : World) (o : Option Played) → (w.nodes m).played i ≡ o → HomesOf f m w (acts_of f m i o (idle (w.nodes m)))
homes_acts f m i w None here = homes_idle f m w
homes_acts f m i w (Some r) here = homes_at f m i w r r.stage here

-- ---- an event

abbrev HomesStep : World → World → Type 0
HomesStep w v = (i k : ℕ) → v.past.homes i ≡ Some k → (w.past.homes i ≡ Some k) ⊎ Plays w k i

no_more : (w v : World) → v.past.homes ≡ w.past.homes → HomesStep w v
no_more w v e i k is = inl (ap (λ homes. homes i) (sym e) ∙ is)

comes_homes : (f : Frame) (w : World) (mail : Mail) → (comes f w mail).world.past.homes ≡ w.past.homes
comes_homes f w mail =
    let m : ℕ = receiver_of mail in
    let v : NodeWork = receives_mail f m mail (idle (w.nodes m)) in
    let keeps : Keeps (group f) m (idle (w.nodes m)) (catches_up f m v) = on (keeps_mail f m mail (idle (w.nodes m))) (keeps_caught f m v) in
    cond_both (lives_in f w m) _ _ (λ (u : AtWork). u.world.past.homes ≡ w.past.homes) (λ e. keeps.homes w.past) (λ e. refl)

whole_homes : (f : Frame) (w : World) (o : Option (Flight Carried)) → (comes_whole f w o).world.past.homes ≡ w.past.homes
whole_homes f w None = refl
whole_homes f w (Some flight) = cond_both (is_whole f.settings.nodes flight.packet) _ _ (λ (u : AtWork). u.world.past.homes ≡ w.past.homes)
    (λ e. comes_homes f w flight.packet.mail) (λ e. refl)

ticks_homes : (f : Frame) (n : ℕ) (u : AtWork) → (ticks_below f n u).world.past.homes ≡ u.world.past.homes
ticks_homes f zero u = refl
ticks_homes f (suc m) u =
    let t : AtWork = ticks_below f m u in
    let v : NodeWork = joins (timer (group f) m (t.world.nodes m).member) (idle (t.world.nodes m)) in
    let keeps : Keeps (group f) m (idle (t.world.nodes m)) (ticks f m (t.world.nodes m)) =
    on (keeps_joins (group f) m (timer (group f) m (t.world.nodes m).member) (idle (t.world.nodes m)))
    (on (by_still (group f) m v (asks_again f m v) (still_again f (group f) m m v)) (keeps_caught f m (asks_again f m v))) in
    cond_both (t.world.lives m) _ _ (λ (z : AtWork). z.world.past.homes ≡ t.world.past.homes) (λ e. keeps.homes t.world.past) (λ e. refl)
    ∙ ticks_homes f m u

happens_homes : (f : Frame) (w : World) (e : world.Event) (given : Known e) → HomesStep w (happens f w e given).world
happens_homes f w (event.Burst process place turns) burst =
    let m : ℕ = home_of f w process.0 in
    let s = still_performed (group f) m place burst.reads (idle (w.nodes m)) in
    no_more w (happens f w (event.Burst process place turns) burst).world (ap (λ (z : Past Message). z.homes) (s.past w.past))
happens_homes f w (event.Act process) given =
    let m : ℕ = home_of f w process.0 in
    let v : NodeWork = acts_of f m process.0 ((w.nodes m).played process.0) (idle (w.nodes m)) in
    homes_kept f m w v (catches_up f m v) (keeps_caught f m v) (homes_acts f m process.0 w ((w.nodes m).played process.0) refl)
happens_homes f w (event.Deliver packet copy) given =
    no_more w (happens f w (event.Deliver packet copy) given).world (whole_homes f (record w { flights = without packet copy w.flights }) (ready_copy packet copy w.flights))
happens_homes f w event.Tick given =
    no_more w (happens f w event.Tick given).world (ticks_homes f f.settings.nodes (untouched (record w { flights = ticked w.flights })))
happens_homes f w (event.Crash node) given = no_more w (happens f w (event.Crash node) given).world refl
happens_homes f w (event.Suspect node) given =
    let v : NodeWork = joins (coordinate (group f) node (w.nodes node).member) (idle (w.nodes node)) in
    let keeps : Keeps (group f) node (idle (w.nodes node)) (catches_up f node v) =
    on (keeps_joins (group f) node (coordinate (group f) node (w.nodes node).member) (idle (w.nodes node))) (keeps_caught f node v) in
    no_more w (happens f w (event.Suspect node) given).world (keeps.homes w.past)
happens_homes f w event.Swap given = no_more w (happens f w event.Swap given).world refl

-- ---- a step

-- where processes go on, each still runs at its home
pub homes_stay : (f : Frame) (w v : World) (step : Step) → Next f w step v → ProcessesLater w v → AtHome w → AtHome v
homes_stay f w v step next later h i k is =
    let u : AtWork = happens f w step.event next.given in
    let kept = posts_keep f u.world u.mails step.fates in
    let e : v.past.homes ≡ u.world.past.homes = ap (λ (z : World). z.past.homes) next.after ∙ ap (λ (p : Past Message). p.homes) kept.1 in
    let was : Plays w k i = ⊎_elim (λ old. h i k old) (λ plays. plays) (happens_homes f w step.event next.given i k (ap (λ homes. homes i) (sym e) ∙ is)) in
    let now = later k i was.0 was.1 in
    (now.0, now.1)
