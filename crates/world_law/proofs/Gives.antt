-- The group gives its facts at each moment of each event.
use Rattle.std.proofs.Common.{◌≡◌, ◌&&◌, ◌≤◌, ◌<◌, ◌*◌, ◌++◌, ℕ, zero, suc, true, nat_lt, List, [], ◌∷◌, length, take, Option, None, Some, refl, sym, ap, ◌∙◌, arith, subst}
use Rattle.std.proofs.lemmas.Bool.{and_parts, cond_both, lt-ltb}
use Rattle.value_core.specs.declared.action.Action.{Action}
use Rattle.value_core.specs.declared.action.Action.TheVariants as action
use Rattle.value_core.specs.declared.action.Class.{Class}
use Rattle.value_core.specs.declared.action.Class.TheVariants.{Reads, Writes}
use Rattle.value_core.specs.declared.message.Message.{Message}
use Rattle.guard_queue.specs.declared.queue.Suspended.{Suspended}
use Rattle.object_manager.specs.State.{message_of}
use Rattle.group_rules.specs.Member.{Member, Waiting}
use Rattle.group_rules.specs.Steps.{submit}
use Rattle.group_rules.specs.World.{Event, may_submit}
use Rattle.net_rules.specs.Flights.{ticked, without}
use Rattle.world_rules.specs.declared.event.Event as world
use Rattle.world_rules.specs.declared.event.Event.TheVariants as event
use Rattle.world_rules.specs.Applying.{applies, round}
use Rattle.world_rules.specs.Frame.{Frame, group}
use Rattle.world_rules.specs.Mail.{Mail}
use Rattle.world_rules.specs.Nodes.{Node, NodeWork, idle, known, plays}
use Rattle.world_rules.specs.Owners.{arrives}
use Rattle.world_rules.specs.Parts.{acts_at, acts_by, acts_of, asks, asks_again, calls, calls_as, reads, submits}
use Rattle.world_rules.specs.Played.{Played, Stage, moves_to, next_call}
use Rattle.world_rules.specs.Played.Stage.{Computing, Acting, Submitted, Reading, Asking, Over}
use Rattle.world_rules.specs.Processes.{singles_of}
use Rattle.world_rules.specs.Steps.{AtWork, Known, Possible, may_act_as, ticks_below, untouched}
use Rattle.world_rules.specs.Worlds.{World, group_world, home_of, played_in}
use Rattle.world_law.specs.Gives.{AreNotes, Gives, GivesEvent, GivesMail, GivesTick, GivesTicks, IsGroupStep, KeepsEntries, acted, came, coordinated, taken_from, timed, waited}
use Rattle.world_law.specs.Grouped.{Come, Grouped}
use Rattle.world_law.specs.Grouped.{Submits as MayAll}
use Rattle.world_law.specs.Moments.{MembersAgree, world_at}
use Rattle.world_law.proofs.AtWork.{at_start, at_still, at_work, both_true, coordinated_is, submitted_is, ticked_is}
use Rattle.world_law.proofs.Events.{Going, going, going_below, good_of as good_acts, good_receives, on_home, start_good, with_flights}
use Rattle.world_law.proofs.Grouping.{Good, good_applies, good_coordinate, good_still, good_timer, rounds_round}
use Rattle.world_law.proofs.Moments.{MoreLaws, facts, kept_by, kept_delivers, kept_notes, moment_of}
use Rattle.world_law.proofs.Still.{Still, still_again, still_arrives, still_asks, still_reading}
use Rattle.world_law.proofs.Travels.{fly_found, fly_ticked, fly_without}

-- from the opening world, whatever events came before the step
pub from_start : (f : Frame) (b : List (Event Message)) (w : World) (m : ℕ) (v : NodeWork) → Good (group f) b w m v → Good (group f) [] w m v
from_start f b w m v h = record {
  reached = record { more = b ++ h.reached.more; run = h.reached.run };
  noted = h.noted;
  below = h.below;
  others = h.others;
}

agree_at : (more : MoreLaws) (f : Frame) → 2 * (group f).resilience < (group f).nodes → (w : World) (m : ℕ) (v : NodeWork) → Grouped f w →
    Good (group f) [] w m v → MembersAgree (world_at f w m v)
agree_at more f small w m v grouped h = facts more f small w m v grouped (moment_of f w m v h)

-- ---- a member catches up

step_round : (more : MoreLaws) (f : Frame) → 2 * (group f).resilience < (group f).nodes → (w : World) (m : ℕ) (v : NodeWork) → Grouped f w →
    (nat_lt m (group f).nodes && w.lives m) ≡ true → Good (group f) [] w m v → IsGroupStep f m w (applies f m v) (round f m v)
step_round more f small w m v grouped on h = record {
  entries = kept_notes more f small w m (applies f m v) on (good_applies f w m v h);
  agreed = agree_at more f small w m (round f m v) grouped (rounds_round more.laws f w m v small on h).good;
}

are_notes : (more : MoreLaws) (f : Frame) → 2 * (group f).resilience < (group f).nodes → (w : World) (m : ℕ) (waiting : List (Waiting Message))
    (v : NodeWork) → Grouped f w → (nat_lt m (group f).nodes && w.lives m) ≡ true → Good (group f) [] w m v → AreNotes f m w waiting v
are_notes more f small w m [] v grouped on h = step_round more f small w m v grouped on h
are_notes more f small w m (one ∷ rest) v grouped on h =
    (step_round more f small w m v grouped on h, are_notes more f small w m rest (round f m v) grouped on (rounds_round more.laws f w m v small on h).good)

pub gives : (more : MoreLaws) (f : Frame) → 2 * (group f).resilience < (group f).nodes → (w : World) (m : ℕ) (v : NodeWork) → Grouped f w →
    (nat_lt m (group f).nodes && w.lives m) ≡ true → KeepsEntries (w.nodes m) v.node → Good (group f) [] w m v → Gives f m w v
gives more f small w m v grouped on kept h = record {
  entries = kept;
  agreed = agree_at more f small w m v grouped h;
  notes = are_notes more f small w m v.node.member.waiting v grouped on h;
}

-- ---- an action

pub start : (more : MoreLaws) (f : Frame) → 2 * (group f).resilience < (group f).nodes → (w : World) (m : ℕ) → Grouped f w →
    Good (group f) [] w m (idle (w.nodes m))
start more f small w m grouped = from_start f grouped.events w m (idle (w.nodes m)) (start_good more.laws f w m small grouped)

kept_same : (node : Node) (v : NodeWork) → v.node.member ≡ node.member → KeepsEntries node v.node
kept_same node v same = ap (λ (z : Member Message). take node.copies.applied z.log) same

abbrev May : Frame → World → ℕ → ℕ → Played → Type 0
May f w m i r = (x : Message) → x.process.0 ≡ i → x.call.0 ≡ length r.replies → may_submit (group f) (group_world w) m x ≡ true

kept_submits : (more : MoreLaws) (f : Frame) → 2 * (group f).resilience < (group f).nodes → (w : World) (m i : ℕ) (r : Played) (act : Action) (x : Message) →
    Grouped f w → (nat_lt m (group f).nodes && w.lives m) ≡ true → may_submit (group f) (group_world w) m x ≡ true →
    KeepsEntries (w.nodes m) (submits f m i r act x (idle (w.nodes m))).node
kept_submits more f small w m i r act x grouped on may =
    let v : NodeWork = plays i (moves_to (Submitted act) r) (idle (w.nodes m)) in
    let s : Still (group f) m (idle (w.nodes m)) v = record { member = refl; past = λ p. refl; applied = refl; letters = refl; others = λ h. h } in
    let same : group_world w ≡ at_work (group f) w m v = sym (at_still (group f) w m (idle (w.nodes m)) v refl refl ∙ at_start (group f) w m) in
    kept_by more f small w m v (submits f m i r act x (idle (w.nodes m))) (Event.Submit m x)
    (good_still (group f) w m (idle (w.nodes m)) v s (start more f small w m grouped))
    (submitted_is (group f) w m x v on (subst (λ z. may_submit (group f) z m x ≡ true) same may))

kept_as : (more : MoreLaws) (f : Frame) → 2 * (group f).resilience < (group f).nodes → (w : World) (m i : ℕ) (r : Played) (call : Suspended) (class : Class) →
    Grouped f w → (nat_lt m (group f).nodes && w.lives m) ≡ true → may_submit (group f) (group_world w) m (message_of call) ≡ true →
    KeepsEntries (w.nodes m) (calls_as f m i r call class (idle (w.nodes m))).node
kept_as more f small w m i r call Reads grouped on may =
    kept_same (w.nodes m) (reads f i r (message_of call).action (idle (w.nodes m))) (still_reading f (group f) m i r (message_of call).action (idle (w.nodes m))).member
kept_as more f small w m i r call Writes grouped on may = kept_submits more f small w m i r (message_of call).action (message_of call) grouped on may

kept_calls : (more : MoreLaws) (f : Frame) → 2 * (group f).resilience < (group f).nodes → (w : World) (m i : ℕ) (r : Played) (call : Suspended) →
    Grouped f w → (nat_lt m (group f).nodes && w.lives m) ≡ true → may_submit (group f) (group_world w) m (message_of call) ≡ true →
    KeepsEntries (w.nodes m) (calls f m i r call (idle (w.nodes m))).node
kept_calls more f small w m i r call grouped on may = cond_both (singles_of f (known f (w.nodes m)) call.object) _ _
    (λ (u : NodeWork). KeepsEntries (w.nodes m) u.node)
    (λ e. kept_same (w.nodes m) (asks f m i r call (idle (w.nodes m))) (still_asks f (group f) m m i r call (idle (w.nodes m))).member)
    (λ e. kept_as more f small w m i r call (f.performs.class_of call.kind call.op) grouped on may)

kept_act : (more : MoreLaws) (f : Frame) → 2 * (group f).resilience < (group f).nodes → (w : World) (m i : ℕ) (r : Played) (act : Action) →
    Grouped f w → (nat_lt m (group f).nodes && w.lives m) ≡ true → May f w m i r → KeepsEntries (w.nodes m) (acts_by f m i r act (idle (w.nodes m))).node
kept_act more f small w m i r (action.Make kind object) grouped on may =
    let x : Message = record { process = record { 0 = i }; call = next_call r; action = action.Make kind object; performable = refl } in
    kept_submits more f small w m i r (action.Make kind object) x grouped on (may x refl refl)
kept_act more f small w m i r (action.Call kind op object args) grouped on may =
    let call : Suspended = record { process = record { 0 = i }; call = next_call r; kind = kind; op = op; object = object; args = args } in
    kept_calls more f small w m i r call grouped on (may (message_of call) refl refl)
kept_act more f small w m i r (action.Fork text args place_on) grouped on may =
    let x : Message = record { process = record { 0 = i }; call = next_call r; action = action.Fork text args place_on; performable = refl } in
    kept_submits more f small w m i r (action.Fork text args place_on) x grouped on (may x refl refl)
kept_act more f small w m i r action.Ended grouped on may = refl
kept_act more f small w m i r (action.Faulted fault) grouped on may = refl

kept_stage : (more : MoreLaws) (f : Frame) → 2 * (group f).resilience < (group f).nodes → (w : World) (m i : ℕ) (r : Played) (stage : Stage) →
    Grouped f w → (nat_lt m (group f).nodes && w.lives m) ≡ true → ((act : Action) → stage ≡ Acting act → May f w m i r) →
    KeepsEntries (w.nodes m) (acts_at f m i r stage (idle (w.nodes m))).node
kept_stage more f small w m i r (Acting act) grouped on may = kept_act more f small w m i r act grouped on (may act refl)
kept_stage more f small w m i r Computing grouped on may = refl
kept_stage more f small w m i r (Submitted act) grouped on may = refl
kept_stage more f small w m i r (Reading act) grouped on may = refl
kept_stage more f small w m i r (Asking act) grouped on may = refl
kept_stage more f small w m i r (Over act) grouped on may = refl

pub kept_acts : (more : MoreLaws) (f : Frame) → 2 * (group f).resilience < (group f).nodes → (w : World) (m i : ℕ) (o : Option Played) → Grouped f w →
    (nat_lt m (group f).nodes && w.lives m) ≡ true → ((r : Played) (act : Action) → o ≡ Some r → r.stage ≡ Acting act → May f w m i r) →
    KeepsEntries (w.nodes m) (acts_of f m i o (idle (w.nodes m))).node
kept_acts more f small w m i None grouped on may = refl
kept_acts more f small w m i (Some r) grouped on may = kept_stage more f small w m i r r.stage grouped on (λ act e. may r act refl e)

-- ---- a letter, a tick

gives_mail : (more : MoreLaws) (f : Frame) → 2 * (group f).resilience < (group f).nodes → (w : World) (mail : Mail) → Grouped f w → Come w.past.letters mail →
    GivesMail f w mail
gives_mail more f small w (Mail.Grouped letter) grouped come = λ on.
    gives more f small w letter.to (came f letter.to (Mail.Grouped letter) w) grouped on
    (kept_delivers more f small w (idle (w.nodes letter.to)) letter on come (start more f small w letter.to grouped))
    (from_start f grouped.events w letter.to (came f letter.to (Mail.Grouped letter) w) (good_receives more.laws f w (Mail.Grouped letter) small on grouped come))
gives_mail more f small w (Mail.Sends incarnation from to errand) grouped come = λ on.
    let still : Still (group f) to (idle (w.nodes to)) (arrives errand (idle (w.nodes to))) = still_arrives (group f) to errand (idle (w.nodes to)) in
    gives more f small w to (came f to (Mail.Sends incarnation from to errand) w) grouped on
    (ap (λ (z : Member Message). take (w.nodes to).copies.applied z.log) still.member)
    (from_start f grouped.events w to (came f to (Mail.Sends incarnation from to errand) w)
    (good_receives more.laws f w (Mail.Sends incarnation from to errand) small on grouped come))

gives_tick : (more : MoreLaws) (f : Frame) → 2 * (group f).resilience < (group f).nodes → (w : World) (m : ℕ) → Grouped f w →
    (nat_lt m (group f).nodes && w.lives m) ≡ true → GivesTick f m w
gives_tick more f small w m grouped on =
    let s = start more f small w m grouped in
    let u : NodeWork = timed f m w in
    let kept : KeepsEntries (w.nodes m) u.node =
    kept_by more f small w m (idle (w.nodes m)) u (Event.Tick m) s (ticked_is (group f) w m (idle (w.nodes m)) on) in
    let still : Still (group f) m u (asks_again f m u) = still_again f (group f) m m u in
    record {
      entries = kept;
      group = gives more f small w m (asks_again f m u) grouped on
          (ap (λ (z : Member Message). take (w.nodes m).copies.applied z.log) still.member ∙ kept)
          (good_still (group f) w m u (asks_again f m u) still (good_timer more.laws (group f) w m (idle (w.nodes m)) small on s));
    }

gives_ticks : {b : List (Event Message)} (more : MoreLaws) (f : Frame) → 2 * (group f).resilience < (group f).nodes → (n : ℕ) (u : AtWork) →
    n ≤ f.settings.nodes → Going f b u → GivesTicks f n u
gives_ticks more f small zero u low h = tt
gives_ticks {b} more f small (suc m) u low h = (
  gives_ticks more f small m u (omega (arith, low)) h,
  λ lives.
      let k : Going f b (ticks_below f m u) = going_below more.laws f m u small (omega (arith, low)) h in
      gives_tick more f small (ticks_below f m u).world m k.grouped (both_true _ _ (lt-ltb _ _ low) lives),
)

-- ---- each event

pub gives_event : (more : MoreLaws) (f : Frame) → 2 * (group f).resilience < (group f).nodes → (w : World) (event : world.Event) (given : Known event) →
    Grouped f w → Possible f w event given → MayAll f w event → GivesEvent f w event
gives_event more f small w (event.Burst process place turns) given grouped may submit = λ m. omega (arith, grouped.level m)
gives_event more f small w (event.Act process) given grouped may submit =
    let m : ℕ = home_of f w process.0 in
    let on = on_home f w process.0 (omega (arith, small)) (and_parts (w.lives m) (may_act_as (played_in f w process.0)) may).0 in
    gives more f small w m (acted f m process.0 w) grouped on
    (kept_acts more f small w m process.0 ((w.nodes m).played process.0) grouped on (λ r act here stands x i n. submit r act here stands x i n))
    (from_start f grouped.events w m (acted f m process.0 w)
    (good_acts more.laws f w m process.0 ((w.nodes m).played process.0) small on grouped (λ r act here stands x i n. submit r act here stands x i n)))
gives_event more f small w (event.Deliver packet copy) given grouped may submit = λ flight found.
    gives_mail more f small (taken_from w packet copy) flight.packet.mail
    (with_flights f w (without packet copy w.flights) grouped (fly_without w.past.letters packet copy w.flights grouped.travels))
    (fly_found w.past.letters _ w.flights flight found grouped.travels)
gives_event more f small w event.Tick given grouped may submit =
    gives_ticks more f small f.settings.nodes (untouched (waited w)) (omega arith)
    (going f (waited w) (with_flights f w (ticked w.flights) grouped (fly_ticked w.past.letters w.flights grouped.travels)))
gives_event more f small w (event.Crash node) given grouped may submit = tt
gives_event more f small w (event.Suspect node) given grouped may submit =
    let s = start more f small w node grouped in
    gives more f small w node (coordinated f node w) grouped may
    (kept_by more f small w node (idle (w.nodes node)) (coordinated f node w) (Event.Coordinate node) s (coordinated_is (group f) w node (idle (w.nodes node)) may))
    (good_coordinate more.laws (group f) w node (idle (w.nodes node)) small may s)
gives_event more f small w event.Swap given grouped may submit = tt
