-- Each event of a run is a list of the group's events, where what it submits may be submitted.
use Rattle.std.proofs.Common.{◌≡◌, ◌&&◌, ◌≤◌, ◌<◌, ◌*◌, ℕ, zero, suc, true, List, [], ◌++◌, append_assoc, append-nil, length, Option, Some, None, refl, sym, ap, ◌∙◌, arith, subst, nat_lt}
use Rattle.std.proofs.lemmas.Bool.{and_parts, cond_both, lt-ltb}
use Rattle.value_core.specs.declared.action.Action.{Action}
use Rattle.value_core.specs.declared.action.Action.TheVariants as action
use Rattle.value_core.specs.declared.action.Class.{Class}
use Rattle.value_core.specs.declared.action.Class.TheVariants.{Reads, Writes}
use Rattle.value_core.specs.declared.message.Message.{Message}
use Rattle.guard_queue.specs.declared.queue.Suspended.{Suspended}
use Rattle.object_manager.specs.State.{message_of}
use Rattle.group_rules.specs.Agree.{Agree}
use Rattle.group_rules.specs.Reset.{coordinate}
use Rattle.group_rules.specs.Steps.{timer}
use Rattle.group_rules.specs.World.{Event, Past, may_submit, opening, run}
use Rattle.net_rules.specs.Flights.{ready_copy, ticked, without}
use Rattle.net_rules.specs.declared.flight.Flight.{Flight}
use Rattle.world_rules.specs.declared.event.Event as world
use Rattle.world_rules.specs.declared.event.Event.TheVariants as event
use Rattle.world_rules.specs.declared.event.Step.{Step}
use Rattle.world_rules.specs.Frame.{Frame, group}
use Rattle.world_rules.specs.Mail.{Carried, Mail, is_whole, receiver_of}
use Rattle.world_rules.specs.Nodes.{Node, NodeWork, idle, joins, known, past_after, plays}
use Rattle.world_rules.specs.Parts.{acts, acts_at, acts_by, acts_of, asks_again, calls, calls_as, computes, receives, receives_mail, submits, suspects, ticks}
use Rattle.world_rules.specs.Played.{Played, Stage, moves_to, next_call}
use Rattle.world_rules.specs.Played.Stage.{Computing, Acting, Submitted, Reading, Asking, Over}
use Rattle.world_rules.specs.Processes.{singles_of}
use Rattle.world_rules.specs.Steps.{AtWork, Known, Next, Possible, after_part, closes, comes, comes_whole, crashes, delivers, happens, lives_in, may_act_as, posts_all, ticks_at, ticks_below, untouched}
use Rattle.world_rules.specs.Worlds.{World, group_world, home_of, played_in}
use Rattle.world_law.specs.Grouped.{AllFly, Come, GoesOn, Grouped, StepsGrouped}
use Rattle.world_law.specs.Grouped.{Submits as MayAll}
use Rattle.world_law.proofs.AtWork.{Reached, at_start, at_still, at_work, both_true, reach, world_of}
use Rattle.world_law.proofs.Grouping.{Good, Laws, Rounded, caught_up, good_coordinate, good_deliver, good_still, good_submit, good_timer, level_still}
use Rattle.world_law.proofs.Homes.{home_low}
use Rattle.world_law.proofs.Maps.{at_both, at_image}
use Rattle.world_law.proofs.Still.{Still, still_again, still_arrives, still_asks, still_on, still_performed, still_reading}
use Rattle.world_law.proofs.Travels.{AllCome, all_append, all_more, fly_found, fly_more, fly_ticked, fly_without, letters_grow, mails_come, posted_all}

-- ---- a member's part

-- the group speaks of the world so far, and what the event sent so far was sent
pub record Going (f : Frame) (b : List (Event Message)) (u : AtWork) : Type 0 where
  pub grouped : Grouped f u.world
  pub more : List (Event Message)
  pub since : grouped.events ≡ b ++ more
  pub mails : AllCome u.world.past.letters u.mails

pub start_good : (laws : Laws) (f : Frame) (w : World) (m : ℕ) → 2 * (group f).resilience < (group f).nodes → (h : Grouped f w) →
    Good (group f) h.events w m (idle (w.nodes m))
start_good laws f w m small h =
    let agree : Agree (group f) (group_world w) = subst (Agree (group f)) (sym h.run) (laws.worlds (group f) small h.events) in
    record {
      reached = record { more = []; run = at_start (group f) w m ∙ h.run ∙ ap (run (group f) opening) (sym (append-nil h.events)) };
      noted = omega (arith, h.level m);
      below = omega (arith, h.level m, (agree.holds m).applied);
      others = tt;
    }

pub world_is : (f : Frame) (m : ℕ) (v : NodeWork) (u : AtWork) → group_world (after_part f m v u).world ≡ at_work (group f) u.world m v
world_is f m v u = ap (λ members. world_of members u.world.lives (past_after (group f) m v.deeds u.world.past))
    (at_image (λ (n : Node). n.member) u.world.nodes m v.node)

pub part_goes : {b : List (Event Message)} (f : Frame) (m : ℕ) (v : NodeWork) (u : AtWork) → (h : Going f b u) → Rounded (group f) h.grouped.events u.world m v → Going f b (after_part f m v u)
part_goes {b} f m v u h r =
    let more = letters_grow (group f) m v.deeds u.world.past in
    let letters = (past_after (group f) m v.deeds u.world.past).letters in
    record {
      grouped = record {
        events = h.grouped.events ++ r.good.reached.more;
        run = world_is f m v u ∙ r.good.reached.run;
        level = λ x. at_both u.world.nodes m v.node x (λ (n : Node). n.member.applied ≡ n.copies.applied) (λ e. r.level) (λ no. h.grouped.level x);
        travels = fly_more u.world.past.letters letters more u.world.flights h.grouped.travels;
      };
      more = h.more ++ r.good.reached.more;
      since = ap (λ z. z ++ r.good.reached.more) h.since ∙ append_assoc b h.more r.good.reached.more;
      mails = all_append letters u.mails _ (all_more u.world.past.letters letters more u.mails h.mails)
          (mails_come (group f) m v.deeds u.world.past r.good.others);
    }

abbrev pub going : (f : Frame) (w : World) → (h : Grouped f w) → Going f h.events (untouched w)
going f w h = record { grouped = h; more = []; since = sym (append-nil h.events); mails = tt }

rounded_still : (laws : Laws) (f : Frame) (w : World) (m : ℕ) (v : NodeWork) → 2 * (group f).resilience < (group f).nodes → (h : Grouped f w) →
    Still (group f) m (idle (w.nodes m)) v → Rounded (group f) h.events w m v
rounded_still laws f w m v small h s = record {
  good = good_still (group f) w m (idle (w.nodes m)) v s (start_good laws f w m small h);
  level = level_still (group f) m (idle (w.nodes m)) v s (h.level m);
}

-- ---- Act

-- it submits
good_submits : (laws : Laws) (f : Frame) (w : World) (m i : ℕ) (r : Played) (act : Action) (x : Message) →
    2 * (group f).resilience < (group f).nodes → (nat_lt m (group f).nodes && w.lives m) ≡ true → (h : Grouped f w) →
    may_submit (group f) (group_world w) m x ≡ true → Good (group f) h.events w m (submits f m i r act x (idle (w.nodes m)))
good_submits laws f w m i r act x small on h may =
    let v : NodeWork = plays i (moves_to (Submitted act) r) (idle (w.nodes m)) in
    let s : Still (group f) m (idle (w.nodes m)) v = record { member = refl; past = λ p. refl; applied = refl; letters = refl; others = λ h. h } in
    let same : group_world w ≡ at_work (group f) w m v = sym (at_still (group f) w m (idle (w.nodes m)) v refl refl ∙ at_start (group f) w m) in
    good_submit laws (group f) w m x v small on (subst (λ z. may_submit (group f) z m x ≡ true) same may)
    (good_still (group f) w m (idle (w.nodes m)) v s (start_good laws f w m small h))

abbrev May : Frame → World → ℕ → ℕ → Played → Type 0
May f w m i r = (x : Message) → x.process.0 ≡ i → x.call.0 ≡ length r.replies → may_submit (group f) (group_world w) m x ≡ true

good_calls_as : (laws : Laws) (f : Frame) (w : World) (m i : ℕ) (r : Played) (call : Suspended) (class : Class) →
    2 * (group f).resilience < (group f).nodes → (nat_lt m (group f).nodes && w.lives m) ≡ true → (h : Grouped f w) →
    may_submit (group f) (group_world w) m (message_of call) ≡ true → Good (group f) h.events w m (calls_as f m i r call class (idle (w.nodes m)))
good_calls_as laws f w m i r call Reads small on h may =
    good_still (group f) w m (idle (w.nodes m)) _ (still_reading f (group f) m i r (message_of call).action (idle (w.nodes m)))
    (start_good laws f w m small h)
good_calls_as laws f w m i r call Writes small on h may =
    good_submits laws f w m i r (message_of call).action (message_of call) small on h may

good_calls : (laws : Laws) (f : Frame) (w : World) (m i : ℕ) (r : Played) (call : Suspended) →
    2 * (group f).resilience < (group f).nodes → (nat_lt m (group f).nodes && w.lives m) ≡ true → (h : Grouped f w) →
    may_submit (group f) (group_world w) m (message_of call) ≡ true → Good (group f) h.events w m (calls f m i r call (idle (w.nodes m)))
good_calls laws f w m i r call small on h may = cond_both (singles_of f (known f (w.nodes m)) call.object) _ _ (λ u. Good (group f) h.events w m u)
    (λ e. good_still (group f) w m (idle (w.nodes m)) _ (still_asks f (group f) m m i r call (idle (w.nodes m))) (start_good laws f w m small h))
    (λ e. good_calls_as laws f w m i r call (f.performs.class_of call.kind call.op) small on h may)

pub good_by : (laws : Laws) (f : Frame) (w : World) (m i : ℕ) (r : Played) (act : Action) → 2 * (group f).resilience < (group f).nodes →
    (nat_lt m (group f).nodes && w.lives m) ≡ true → (h : Grouped f w) → May f w m i r → Good (group f) h.events w m (acts_by f m i r act (idle (w.nodes m)))
good_by laws f w m i r (action.Make kind object) small on h may =
    let x : Message = record { process = record { 0 = i }; call = next_call r; action = action.Make kind object; performable = refl } in
    good_submits laws f w m i r (action.Make kind object) x small on h (may x refl refl)
good_by laws f w m i r (action.Call kind op object args) small on h may =
    let call : Suspended = record { process = record { 0 = i }; call = next_call r; kind = kind; op = op; object = object; args = args } in
    good_calls laws f w m i r call small on h (may (message_of call) refl refl)
good_by laws f w m i r (action.Fork text args place_on) small on h may =
    let x : Message = record { process = record { 0 = i }; call = next_call r; action = action.Fork text args place_on; performable = refl } in
    good_submits laws f w m i r (action.Fork text args place_on) x small on h (may x refl refl)
good_by laws f w m i r action.Ended small on h may = start_good laws f w m small h
good_by laws f w m i r (action.Faulted fault) small on h may = start_good laws f w m small h

good_at : (laws : Laws) (f : Frame) (w : World) (m i : ℕ) (r : Played) (stage : Stage) → 2 * (group f).resilience < (group f).nodes →
    (nat_lt m (group f).nodes && w.lives m) ≡ true → (h : Grouped f w) → ((act : Action) → stage ≡ Acting act → May f w m i r) →
    Good (group f) h.events w m (acts_at f m i r stage (idle (w.nodes m)))
good_at laws f w m i r (Acting act) small on h may = good_by laws f w m i r act small on h (may act refl)
good_at laws f w m i r Computing small on h may = start_good laws f w m small h
good_at laws f w m i r (Submitted act) small on h may = start_good laws f w m small h
good_at laws f w m i r (Reading act) small on h may = start_good laws f w m small h
good_at laws f w m i r (Asking act) small on h may = start_good laws f w m small h
good_at laws f w m i r (Over act) small on h may = start_good laws f w m small h

pub good_of : (laws : Laws) (f : Frame) (w : World) (m i : ℕ) (o : Option Played) → 2 * (group f).resilience < (group f).nodes →
    (nat_lt m (group f).nodes && w.lives m) ≡ true → (h : Grouped f w) →
    ((r : Played) (act : Action) → o ≡ Some r → r.stage ≡ Acting act → May f w m i r) → Good (group f) h.events w m (acts_of f m i o (idle (w.nodes m)))
good_of laws f w m i None small on h may = start_good laws f w m small h
good_of laws f w m i (Some r) small on h may = good_at laws f w m i r r.stage small on h (λ act e. may r act refl e)

rounded_acts : (laws : Laws) (f : Frame) (w : World) (m i : ℕ) → 2 * (group f).resilience < (group f).nodes →
    (nat_lt m (group f).nodes && w.lives m) ≡ true → (h : Grouped f w) →
    ((r : Played) (act : Action) → (w.nodes m).played i ≡ Some r → r.stage ≡ Acting act → May f w m i r) →
    Rounded (group f) h.events w m (acts f m i (w.nodes m))
rounded_acts laws f w m i small on h may = caught_up laws f w m (acts_of f m i ((w.nodes m).played i) (idle (w.nodes m))) small on
    (good_of laws f w m i ((w.nodes m).played i) small on h may)

-- ---- Deliver

pub good_receives : (laws : Laws) (f : Frame) (w : World) (mail : Mail) → 2 * (group f).resilience < (group f).nodes →
    (nat_lt (receiver_of mail) (group f).nodes && w.lives (receiver_of mail)) ≡ true → (h : Grouped f w) → Come w.past.letters mail →
    Good (group f) h.events w (receiver_of mail) (receives_mail f (receiver_of mail) mail (idle (w.nodes (receiver_of mail))))
good_receives laws f w (Mail.Grouped letter) small on h come =
    good_deliver laws (group f) w (idle (w.nodes letter.to)) letter small on come (start_good laws f w letter.to small h)
good_receives laws f w (Mail.Sends incarnation from to errand) small on h come =
    good_still (group f) w to (idle (w.nodes to)) _ (still_arrives (group f) to errand (idle (w.nodes to))) (start_good laws f w to small h)

going_comes : (laws : Laws) (f : Frame) (w : World) (mail : Mail) → 2 * (group f).resilience < (group f).nodes → (h : Grouped f w) →
    Come w.past.letters mail → Going f h.events (comes f w mail)
going_comes laws f w mail small h come = cond_both (lives_in f w (receiver_of mail)) _ _ (Going f h.events)
    (λ e. part_goes f (receiver_of mail) (receives f (receiver_of mail) mail (w.nodes (receiver_of mail))) (untouched w) (going f w h)
    (caught_up laws f w (receiver_of mail) (receives_mail f (receiver_of mail) mail (idle (w.nodes (receiver_of mail)))) small e
    (good_receives laws f w mail small e h come)))
    (λ e. going f w h)

going_whole : (laws : Laws) (f : Frame) (w : World) (o : Option (Flight Carried)) → 2 * (group f).resilience < (group f).nodes → (h : Grouped f w) →
    ((flight : Flight Carried) → o ≡ Some flight → Come w.past.letters flight.packet.mail) → Going f h.events (comes_whole f w o)
going_whole laws f w None small h come = going f w h
going_whole laws f w (Some flight) small h come = cond_both (is_whole f.settings.nodes flight.packet) _ _ (Going f h.events)
    (λ e. going_comes laws f w flight.packet.mail small h (come flight refl)) (λ e. going f w h)

-- other flights, which were sent too
abbrev pub with_flights : (f : Frame) (w : World) (flights : List (Flight Carried)) → (h : Grouped f w) → AllFly w.past.letters flights →
    Grouped f (record w { flights = flights })
with_flights f w flights h fly = record { events = h.events; run = h.run; level = h.level; travels = fly }

going_delivers : (laws : Laws) (f : Frame) (w : World) (number copy : ℕ) → 2 * (group f).resilience < (group f).nodes → (h : Grouped f w) →
    Going f h.events (delivers f w number copy)
going_delivers laws f w number copy small h =
    going_whole laws f (record w { flights = without number copy w.flights }) (ready_copy number copy w.flights) small
    (with_flights f w (without number copy w.flights) h (fly_without w.past.letters number copy w.flights h.travels))
    (λ flight e. fly_found w.past.letters _ w.flights flight e h.travels)

-- ---- Tick

rounded_ticks : (laws : Laws) (f : Frame) (w : World) (m : ℕ) → 2 * (group f).resilience < (group f).nodes →
    (nat_lt m (group f).nodes && w.lives m) ≡ true → (h : Grouped f w) → Rounded (group f) h.events w m (ticks f m (w.nodes m))
rounded_ticks laws f w m small on h =
    let ticked_work : NodeWork = joins (timer (group f) m (w.nodes m).member) (idle (w.nodes m)) in
    caught_up laws f w m (asks_again f m ticked_work) small on
    (good_still (group f) w m ticked_work (asks_again f m ticked_work) (still_again f (group f) m m ticked_work)
    (good_timer laws (group f) w m (idle (w.nodes m)) small on (start_good laws f w m small h)))

going_ticks_at : {b : List (Event Message)} (laws : Laws) (f : Frame) (m : ℕ) (u : AtWork) → 2 * (group f).resilience < (group f).nodes → m < f.settings.nodes → Going f b u →
    Going f b (ticks_at f m u)
going_ticks_at {b} laws f m u small low h = cond_both (u.world.lives m) _ _ (Going f b)
    (λ e. part_goes f m (ticks f m (u.world.nodes m)) u h
    (rounded_ticks laws f u.world m small (both_true _ _ (lt-ltb _ _ low) e) h.grouped))
    (λ e. h)

pub going_below : {b : List (Event Message)} (laws : Laws) (f : Frame) (n : ℕ) (u : AtWork) → 2 * (group f).resilience < (group f).nodes → n ≤ f.settings.nodes → Going f b u →
    Going f b (ticks_below f n u)
going_below laws f zero u small low h = h
going_below laws f (suc m) u small low h =
    going_ticks_at laws f m (ticks_below f m u) small (omega (arith, low)) (going_below laws f m u small (omega (arith, low)) h)

-- ---- a step

going_crash : (f : Frame) (w : World) (m : ℕ) → (h : Grouped f w) → Going f h.events (crashes w m)
going_crash f w m h =
    let before : Reached (group f) h.events (group_world w) =
    record { more = []; run = h.run ∙ ap (run (group f) opening) (sym (append-nil h.events)) } in
    let r : Reached (group f) h.events (group_world (crashes w m).world) = reach (group f) (group_world w) (Event.Crash m) before in
    record {
      grouped = record { events = h.events ++ r.more; run = r.run; level = h.level; travels = h.travels };
      more = r.more;
      since = refl;
      mails = tt;
    }

pub on_home : (f : Frame) (w : World) (i : ℕ) → 0 < f.settings.nodes → w.lives (home_of f w i) ≡ true →
    (nat_lt (home_of f w i) (group f).nodes && w.lives (home_of f w i)) ≡ true
on_home f w i some lives = both_true _ _ (lt-ltb _ _ (home_low f w i some)) lives

-- what an event does
pub going_happens : (laws : Laws) (f : Frame) (w : World) (event : world.Event) (given : Known event) → 2 * (group f).resilience < (group f).nodes →
    Possible f w event given → MayAll f w event → (h : Grouped f w) → Going f h.events (happens f w event given)
going_happens laws f w (event.Burst process place turns) burst small may submit h =
    part_goes f (home_of f w process.0) (computes process.0 place burst.reads burst.end (w.nodes (home_of f w process.0))) (untouched w) (going f w h)
    (rounded_still laws f w (home_of f w process.0) _ small h
    (still_on (still_performed (group f) (home_of f w process.0) place burst.reads (idle (w.nodes (home_of f w process.0))))
    (record { member = refl; past = λ p. refl; applied = refl; letters = refl; others = λ e. e })))
going_happens laws f w (event.Act process) given small may submit h =
    part_goes f (home_of f w process.0) (acts f (home_of f w process.0) process.0 (w.nodes (home_of f w process.0))) (untouched w) (going f w h)
    (rounded_acts laws f w (home_of f w process.0) process.0 small
    (on_home f w process.0 (omega (arith, small)) (and_parts (w.lives (home_of f w process.0)) (may_act_as (played_in f w process.0)) may).0) h
    (λ r act here stands x i n. submit r act here stands x i n))
going_happens laws f w (event.Deliver packet copy) given small may submit h = going_delivers laws f w packet copy small h
going_happens laws f w event.Tick given small may submit h =
    going_below laws f f.settings.nodes (untouched (record w { flights = ticked w.flights })) small (omega arith)
    (going f (record w { flights = ticked w.flights })
    (with_flights f w (ticked w.flights) h (fly_ticked w.past.letters w.flights h.travels)))
going_happens laws f w (event.Crash node) given small may submit h = going_crash f w node h
going_happens laws f w (event.Suspect node) given small may submit h =
    part_goes f node (suspects f node (w.nodes node)) (untouched w) (going f w h)
    (caught_up laws f w node (joins (coordinate (group f) node (w.nodes node).member) (idle (w.nodes node))) small may
    (good_coordinate laws (group f) w node (idle (w.nodes node)) small may (start_good laws f w node small h)))
going_happens laws f w event.Swap given small may submit h =
    record { grouped = record { events = h.events; run = h.run; level = h.level; travels = h.travels }; more = []; since = sym (append-nil h.events); mails = tt }

-- and its letters are posted
goes_closes : {b : List (Event Message)} (f : Frame) (w : World) (step : Step) (u : AtWork) → Going f b u → GoesOn f b (closes f w step u)
goes_closes f w step u h =
    let p = posted_all f u.world.past.letters u.mails step.fates u.world h.mails h.grouped.travels in
    record {
      grouped = record {
        events = h.grouped.events;
        run = ap (λ nodes. world_of (λ m. (nodes m).member) v.lives v.past) p.nodes
            ∙ ap (λ lives. world_of (λ m. (u.world.nodes m).member) lives v.past) p.lives
            ∙ ap (λ past. world_of (λ m. (u.world.nodes m).member) u.world.lives past) p.past ∙ h.grouped.run;
        level = λ m. subst (λ nodes. (nodes m).member.applied ≡ (nodes m).copies.applied) (sym p.nodes) (h.grouped.level m);
        travels = subst (λ (past : Past Message). AllFly past.letters v.flights) (sym p.past) p.fly;
      };
      more = h.more;
      since = h.since;
    }
  where
    v : World
    v = posts_all f u.world u.mails step.fates

pub goes_on : (laws : Laws) (f : Frame) → 2 * (group f).resilience < (group f).nodes → (w v : World) (step : Step) → Next f w step v →
    MayAll f w step.event → (h : Grouped f w) → GoesOn f h.events v
goes_on laws f small w v step next submit h = subst (GoesOn f h.events) (sym next.after)
    (goes_closes f w step (happens f w step.event next.given)
    (going_happens laws f w step.event next.given small next.possible submit h))

pub steps_grouped : (laws : Laws) (f : Frame) → 2 * (group f).resilience < (group f).nodes → StepsGrouped f
steps_grouped laws f small = record {
  opening = record { events = []; run = refl; level = λ m. refl; travels = tt };
  step = goes_on laws f small;
}
