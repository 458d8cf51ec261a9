-- Where a member's part begins: its first piece may be done, and leaves a world that stands for a course, beside a run of the group.
use Rattle.std.proofs.Common.{◌≡◌, ◌<◌, ◌*◌, ◌%◌, ℕ, Bool, true, false, Option, None, Some, refl, sym, ap, ◌∙◌, subst, arith, take, if◌then◌else◌, List, []}
use Rattle.value_core.specs.declared.action.Action.{Action}
use Rattle.value_core.specs.declared.action.Action.TheVariants as action
use Rattle.value_core.specs.declared.action.Class.{Class}
use Rattle.value_core.specs.declared.action.Class.TheVariants.{Reads, Writes}
use Rattle.value_core.specs.declared.message.Message.{Message}
use Rattle.guard_queue.specs.declared.queue.Suspended.{Suspended}
use Rattle.object_manager.specs.State.{message_of}
use Rattle.group_rules.specs.Member.{Kind, Letter}
use Rattle.group_rules.specs.Member.Kind.{Request, Body, Order, Entry, Ack, Accept, Nack, Status, Invite, Join, News}
use Rattle.group_rules.specs.Messages.{Group}
use Rattle.group_rules.specs.Reset.{coordinate}
use Rattle.group_rules.specs.Steps.{deliver, timer}
use Rattle.group_rules.specs.World.{GroupWorld, Sent}
use Rattle.group_law.specs.Promise as promise
use Rattle.group_law.specs.Sends.{ByRoute, Routed, RoutesLaw}
use Rattle.book_law.specs.Course.{Course}
use Rattle.book_law.specs.Passes.{Test}
use Rattle.world_rules.specs.Frame.{Frame, group}
use Rattle.world_rules.specs.Mail.{Mail}
use Rattle.world_rules.specs.Nodes.{NodeWork, entries_of, idle, joins}
use Rattle.world_rules.specs.Nodes.{known as known_by}
use Rattle.world_rules.specs.Owners.{arrives}
use Rattle.world_rules.specs.Parts.{acts_at, acts_by, acts_of, asks, calls, calls_as}
use Rattle.world_rules.specs.Played.{Played, Stage, next_call}
use Rattle.world_rules.specs.Played.Stage.{Computing, Acting, Submitted, Reading, Asking, Over}
use Rattle.world_rules.specs.Processes.{singles_of}
use Rattle.world_rules.specs.Worlds.{World, group_world}
use Rattle.world_law.specs.Grouped.{Comes, Grouped}
use Rattle.world_law.specs.Moments.{IsMoment, LeadsOn, Lives}
use Rattle.world_law.proofs.Gives.{from_start, kept_acts}
use Rattle.world_law.proofs.Moments.{MoreLaws, moment_of}
use Rattle.world_law.proofs.Still.{Still, still_arrives, still_asks, still_reading}
use Rattle.world_law.proofs.Walking.{good_begun}
use Rattle.world_law.proofs.Walking.Start.{Acted}
use Rattle.world_law.proofs.Walking.{Allowed}
use Rattle.world_course.specs.Errands.{Follows, MailStands}
use Rattle.world_course.specs.Processes.{StageStands}
use Rattle.world_course.proofs.Acting.{shared_if_known}
use Rattle.world_course.proofs.Carrying.{Carries, joins_carries}
use Rattle.world_course.proofs.Doing.{acts_carry}
use Rattle.world_course.proofs.Parts.{idle_carries}
use Rattle.world_course.proofs.Reaching.{arrives_carries}
use Rattle.node_rules.specs.Conditions.{AreSmall, Fitness}
use Rattle.node_rules.specs.Moments.{Moment, Walks}
use Rattle.node_rules.specs.Moments.{at_work as at_moment}
use Rattle.node_rules.specs.Starts.{EventFits, KindFits, LetterFits, MailFits, MayAct, Start, StartFits, begun}
use Rattle.node_rules.specs.Starts.Start.{Acts, Comes as CameIn, Ticks, Suspects}
use Rattle.world_calls.proofs.Fitting.{read_fits, starts_at}
use Rattle.world_calls.proofs.Calling.{own_fits}
use Rattle.world_calls.proofs.Each.{AtEach, FollowsEach, applied_below, list_stays, own, walks_each}
use Rattle.world_calls.proofs.Going.{At, Gone, Known, carried_at, same_at}
use Rattle.world_calls.proofs.Meeting.{conditions}

-- the group's laws that are used beside those of the moments
pub record GroupLaws : Type 0 where
  pub more : MoreLaws
  pub routes : RoutesLaw Message

-- ---- how many entries are applied, stays

calls_applied : (f : Frame) (m i : ℕ) (r : Played) (call : Suspended) (class : Class) (v : NodeWork) → (calls_as f m i r call class v).node.copies.applied ≡ v.node.copies.applied
calls_applied f m i r call Reads v = (still_reading f (group f) m i r (message_of call).action v).applied
calls_applied f m i r call Writes v = refl

call_applied : (f : Frame) (m i : ℕ) (r : Played) (call : Suspended) (v : NodeWork) → (calls f m i r call v).node.copies.applied ≡ v.node.copies.applied
call_applied f m i r call v = go (singles_of f (known_by f v.node) call.object)
  where
    go : (b : Bool) → (if b then asks f m i r call v else calls_as f m i r call (f.performs.class_of call.kind call.op) v).node.copies.applied ≡ v.node.copies.applied
    go true = (still_asks f (group f) m m i r call v).applied
    go false = calls_applied f m i r call (f.performs.class_of call.kind call.op) v

act_applied : (f : Frame) (m i : ℕ) (r : Played) (act : Action) (v : NodeWork) → (acts_by f m i r act v).node.copies.applied ≡ v.node.copies.applied
act_applied f m i r (action.Make kind object) v = refl
act_applied f m i r (action.Call kind op object given) v =
    call_applied f m i r (record { process = record { 0 = i }; call = next_call r; kind = kind; op = op; object = object; args = given }) v
act_applied f m i r (action.Fork text given place_on) v = refl
act_applied f m i r action.Ended v = refl
act_applied f m i r (action.Faulted fault) v = refl

stage_applied : (f : Frame) (m i : ℕ) (r : Played) (stage : Stage) (v : NodeWork) → (acts_at f m i r stage v).node.copies.applied ≡ v.node.copies.applied
stage_applied f m i r (Acting act) v = act_applied f m i r act v
stage_applied f m i r Computing v = refl
stage_applied f m i r (Submitted act) v = refl
stage_applied f m i r (Reading act) v = refl
stage_applied f m i r (Asking act) v = refl
stage_applied f m i r (Over act) v = refl

acts_applied : (f : Frame) (m i : ℕ) (o : Option Played) (v : NodeWork) → (acts_of f m i o v).node.copies.applied ≡ v.node.copies.applied
acts_applied f m i None v = refl
acts_applied f m i (Some r) v = stage_applied f m i r r.stage v

-- ---- a part begins

-- what it rests on: the process may submit its next message; the letter was sent to another than its sender, and comes to this member
abbrev pub MayStart : Frame → World → ℕ → Start → Type 0
MayStart f w m (Acts i) = Allowed f w m (Acted i)
MayStart f w m (CameIn (Mail.Grouped letter)) = (m ≡ letter.to) × Comes w.past.letters letter
MayStart f w m (CameIn (Mail.Sends incarnation from to errand)) = m ≡ to
MayStart f w m Ticks = Unit {0}
MayStart f w m Suspects = Unit {0}

-- and the mail stands for the course
abbrev pub StartStands : Test → Frame → Course → Start → Type 0
StartStands single f c (Acts i) = Unit {0}
StartStands single f c (CameIn mail) = MailStands f single c mail
StartStands single f c Ticks = Unit {0}
StartStands single f c Suspects = Unit {0}

-- the world at work stands for a course, and what the copies applied stays
pub record Begins (f : Frame) (single : Test) (w : World) (m : ℕ) (list : List Message) (s : Start) : Type 0 where
  pub gone : Gone f single w m list (at_moment (begun f m s (w.nodes m)))
  pub kept : entries_of (begun f m s (w.nodes m)).node ≡ entries_of (w.nodes m)
  pub applied : (begun f m s (w.nodes m)).node.copies.applied ≡ (w.nodes m).copies.applied

abbrev led : (f : Frame) (single : Test) (w : World) (m : ℕ) (c : Course) (v : NodeWork) → Carries f single w c m v → IsMoment f w m v → At f single w m (at_moment v)
led f single w m c v k moment = record { course = c; carries = k; hand = λ e is. absurd is; moment = moment }

stays_led : (f : Frame) (single : Test) (w : World) (m : ℕ) (c : Course) (v : NodeWork) → Carries f single w c m v → IsMoment f w m v → Gone f single w m c.list (at_moment v)
stays_led f single w m c v k moment = same_at f single w m (at_moment v) (led f single w m c v k moment)

pub begins : (f : Frame) (fitness : Fitness) (single : Test) (w : World) (m : ℕ) (c : Course) (s : Start) → GroupLaws → 2 * (group f).resilience < (group f).nodes → Known f fitness w m → Follows f single w c
    → MayStart f w m s → StartStands single f c s → Begins f single w m c.list s
begins f fitness single w m c (Acts i) laws small known h may stands =
    let v : NodeWork = acts_of f m i ((w.nodes m).played i) (idle (w.nodes m)) in
    let more = laws.more in
    let kept = kept_acts more f small w m i ((w.nodes m).played i) known.grouped known.lives (λ r act here acts x process call. may r act here acts x process call) in
    let l = acts_carry f single fitness.state fitness.args fitness.text fitness.reply w c m i ((w.nodes m).played i) (idle (w.nodes m)) known.program (idle_carries f single w c m h) refl kept in
    let g = known.grouped in
    record {
      gone = carried_at f single w c l.0 m (idle (w.nodes m)) v [] (idle_carries f single w c m h) l.1 l.2 (λ e is. absurd is)
          (moment_of f w m v (from_start f g.events w m v (good_begun more.laws f w m (Acted i) small known.lives g may)));
      kept = ap (λ (n : ℕ). take n v.node.member.log) (acts_applied f m i ((w.nodes m).played i) (idle (w.nodes m))) ∙ kept;
      applied = acts_applied f m i ((w.nodes m).played i) (idle (w.nodes m));
    }
begins f fitness single w m c (CameIn (Mail.Grouped letter)) laws small known h may stands =
    let g = known.group in
    let start = g.start w m known.grouped in
    let l : LeadsOn f w letter.to (idle (w.nodes letter.to)) (joins (deliver (group f) letter.to letter.packet (w.nodes letter.to).member) (idle (w.nodes letter.to))) =
    g.delivers w (idle (w.nodes letter.to)) letter (subst (Lives f w) may.0 known.lives) may.1 (subst (λ (k : ℕ). IsMoment f w k (idle (w.nodes k))) may.0 start) in
    subst (λ (k : ℕ). Begins f single w k c.list (CameIn (Mail.Grouped letter))) (sym may.0) (record {
      gone = stays_led f single w letter.to c (joins (deliver (group f) letter.to letter.packet (w.nodes letter.to).member) (idle (w.nodes letter.to)))
          (joins_carries f single w c letter.to (deliver (group f) letter.to letter.packet (w.nodes letter.to).member) (idle (w.nodes letter.to)) l.kept (idle_carries f single w c letter.to h)) l.moment;
      kept = l.kept;
      applied = refl;
    })
begins f fitness single w m c (CameIn (Mail.Sends incarnation from to errand)) laws small known h may stands =
    let g = known.group in
    let still : Still (group f) to (idle (w.nodes to)) (arrives errand (idle (w.nodes to))) = still_arrives (group f) to errand (idle (w.nodes to)) in
    let start = subst (λ (k : ℕ). IsMoment f w k (idle (w.nodes k))) may (g.start w m known.grouped) in
    let l = g.stays w to (idle (w.nodes to)) (arrives errand (idle (w.nodes to))) start still.member (still.past w.past) still.applied (still.others tt) in
    subst (λ (k : ℕ). Begins f single w k c.list (CameIn (Mail.Sends incarnation from to errand))) (sym may) (record {
      gone = stays_led f single w to c (arrives errand (idle (w.nodes to))) (arrives_carries f single w c to errand (idle (w.nodes to)) (idle_carries f single w c to h) stands) l.moment;
      kept = ap (λ (n : ℕ). take n (arrives errand (idle (w.nodes to))).node.member.log) still.applied ∙ l.kept;
      applied = still.applied;
    })
begins f fitness single w m c Ticks laws small known h may stands =
    let g = known.group in
    let l = g.ticks w m (idle (w.nodes m)) known.lives (g.start w m known.grouped) in
    record {
      gone = stays_led f single w m c (joins (timer (group f) m (w.nodes m).member) (idle (w.nodes m)))
          (joins_carries f single w c m (timer (group f) m (w.nodes m).member) (idle (w.nodes m)) l.kept (idle_carries f single w c m h)) l.moment;
      kept = l.kept;
      applied = refl;
    }
begins f fitness single w m c Suspects laws small known h may stands =
    let g = known.group in
    let l = g.coordinates w m (idle (w.nodes m)) known.lives (g.start w m known.grouped) in
    record {
      gone = stays_led f single w m c (joins (coordinate (group f) m (w.nodes m).member) (idle (w.nodes m)))
          (joins_carries f single w c m (coordinate (group f) m (w.nodes m).member) (idle (w.nodes m)) l.kept (idle_carries f single w c m h)) l.moment;
      kept = l.kept;
      applied = refl;
    }

-- ---- its first piece may be done

kind_fits : (g : Group Message) (w : GroupWorld Message) (m from k : ℕ) (kind : Kind Message) → promise.Conditions g w → Sent w.past.letters (record { inc = k; from = from; kind = kind })
    → Routed (k % g.nodes) from m kind → (m ≡ from → ⊥) → KindFits g m from k kind (w.members m)
kind_fits g w m from k (Join report) c sent routed other =
    let j = c.join k from report sent in
    record {
      based = let a = j.applied in let b = j.accepted in let d = j.base in omega (arith, a, b, d);
      can = λ gathers is. c.kept m k from report gathers is sent;
    }
kind_fits g w m from k (News accepted base members log) c sent routed other =
    let n = c.news k from accepted base members log sent in
    record {
      whole = let a = n.accepted in let b = n.base in omega (arith, a, b);
      accepts = n.accepted;
      window = n.window;
      other = λ is. other (sym is ∙ sym routed);
      reaches = λ later. let t = c.told m k from accepted base members log sent later in t.accepted;
      continues = λ later. let t = c.told m k from accepted base members log sent later in sym t.applied.is;
    }
kind_fits g w m from k (Request applied x) c sent routed other = tt
kind_fits g w m from k (Body applied x) c sent routed other = tt
kind_fits g w m from k (Order number process call accepted stable) c sent routed other = tt
kind_fits g w m from k (Entry number accepted stable x) c sent routed other = tt
kind_fits g w m from k (Ack count applied) c sent routed other = tt
kind_fits g w m from k (Accept accepted stable) c sent routed other = tt
kind_fits g w m from k (Nack first applied whole) c sent routed other = tt
kind_fits g w m from k (Status count applied) c sent routed other = tt
kind_fits g w m from k Invite c sent routed other = tt

letter_fits : (f : Frame) (w : World) (letter : Letter Message) → GroupLaws → 2 * (group f).resilience < (group f).nodes → Grouped f w → Comes w.past.letters letter → LetterFits (group f) letter.to letter (w.nodes letter.to).member
letter_fits f w letter laws small grouped comes =
    let more = laws.more in
    let c : promise.Conditions (group f) (group_world w) = subst (promise.Conditions (group f)) (sym grouped.run) (more.laws.calls (group f) small grouped.events) in
    let route : ByRoute (group f) (group_world w) = subst (ByRoute (group f)) (sym grouped.run) (laws.routes (group f) small grouped.events) in
    let sent : Sent w.past.letters letter.packet = more.laws.packets w.past.letters letter comes.sent in
    record {
      from = c.sender letter.packet sent;
      kind = kind_fits (group f) (group_world w) letter.to letter.packet.from letter.packet.inc letter.packet.kind c sent (route.letters letter comes.sent) comes.other;
    }

act_fits : (f : Frame) (fitness : Fitness) (single : Test) (w : World) (m i : ℕ) (c : Course) (r : Played) (act : Action) → Known f fitness w m → Carries f single w c m (idle (w.nodes m)) → (w.nodes m).played i ≡ Some r → r.stage ≡ Acting act
    → MayAct f fitness m i r (w.nodes m) act
act_fits f fitness single w m i c r (action.Call kind op object given) known k here acting =
    let g = k.corresponds in
    record {
      owned = λ is owner.
          own_fits f fitness single w c m i r (record { process = record { 0 = i }; call = next_call r; kind = kind; op = op; object = object; args = given }) (idle (w.nodes m)) known.program g here acting refl refl is owner;
      read = λ shared class.
          let s = starts_at f single w c m i r (idle (w.nodes m)) g.stands here in
          read_fits f fitness single w c m i r kind op object given (idle (w.nodes m)) known.program g.stands s
          (subst (StageStands f.computes i s.process.runner) acting s.is.stage)
          (shared_if_known f single fitness.state fitness.args fitness.text fitness.reply w c m i r kind op object given (idle (w.nodes m)) known.program (record { corresponds = g; here = here; acts = acting }) shared);
    }
act_fits f fitness single w m i c r (action.Make kind object) known k here acting = tt
act_fits f fitness single w m i c r (action.Fork text given place_on) known k here acting = tt
act_fits f fitness single w m i c r action.Ended known k here acting = tt
act_fits f fitness single w m i c r (action.Faulted fault) known k here acting = tt

mail_fits : (f : Frame) (w : World) (m : ℕ) (mail : Mail) → GroupLaws → 2 * (group f).resilience < (group f).nodes → Grouped f w → MayStart f w m (CameIn mail) → MailFits f m mail (w.nodes m)
mail_fits f w m (Mail.Grouped letter) laws small grouped may =
    subst (λ (k : ℕ). LetterFits (group f) k letter (w.nodes k).member) (sym may.0) (letter_fits f w letter laws small grouped may.1)
mail_fits f w m (Mail.Sends incarnation from to errand) laws small grouped may = tt

first_fits : (f : Frame) (fitness : Fitness) (single : Test) (w : World) (m : ℕ) (c : Course) (s : Start) → GroupLaws → 2 * (group f).resilience < (group f).nodes → Known f fitness w m → Follows f single w c → MayStart f w m s
    → StartFits f fitness m s (w.nodes m)
first_fits f fitness single w m c (Acts i) laws small known h may = λ r act here acting. act_fits f fitness single w m i c r act known (idle_carries f single w c m h) here acting
first_fits f fitness single w m c (CameIn mail) laws small known h may = mail_fits f w m mail laws small known.grouped may
first_fits f fitness single w m c Ticks laws small known h may = tt
first_fits f fitness single w m c Suspects laws small known h may = tt

-- ---- the whole part

-- what comes stands for each course
abbrev pub AllStart : Frame → World → Start → Type 0
AllStart f w s = (single : Test) (c : Course) → Follows f single w c → StartStands single f c s

pub idle_each : (f : Frame) (fitness : Fitness) (w : World) (m : ℕ) (list : List Message) → Known f fitness w m → FollowsEach f w list → AtEach f w m (at_moment (idle (w.nodes m)))
idle_each f fitness w m list known h =
    let g = known.group in
    record {
      list = list;
      each = λ single agrees. let one = h single agrees in record { at = led f single w m one.course (idle (w.nodes m)) (idle_carries f single w one.course m one.follows) (g.start w m known.grouped); is = one.is };
    }

pub begins_each : (f : Frame) (fitness : Fitness) (w : World) (m : ℕ) (list : List Message) (s : Start) → GroupLaws → 2 * (group f).resilience < (group f).nodes → Known f fitness w m → FollowsEach f w list → MayStart f w m s → AllStart f w s
    → AtEach f w m (at_moment (begun f m s (w.nodes m)))
begins_each f fitness w m list s laws small known h may stands = record {
  list = list;
  each = λ single agrees.
      let one = h single agrees in
      let b = begins f fitness single w m one.course s laws small known one.follows may (stands single one.course one.follows) in
      let e = b.applied in
      let le = applied_below f w list h m in
      list_stays f single w m list (at_moment (begun f m s (w.nodes m))) (subst (λ (l : List Message). Gone f single w m l (at_moment (begun f m s (w.nodes m)))) one.is b.gone) (omega (arith, e, le)) (λ k apart. applied_below f w list h k);
}

pub part_fits : (f : Frame) (fitness : Fitness) (w : World) (m : ℕ) (list : List Message) (s : Start) → GroupLaws → 2 * (group f).resilience < (group f).nodes → Known f fitness w m → FollowsEach f w list → MayStart f w m s → AllStart f w s
    → AreSmall (w.nodes m) → ((u : Moment) → Walks f m (at_moment (begun f m s (w.nodes m))) u → AreSmall u.work.node) → EventFits f fitness m s (w.nodes m)
part_fits f fitness w m list s laws small known h may stands few numbers =
    let one = h (own f list) (λ o lt. refl) in
    let b = begins f fitness (own f list) w m one.course s laws small known one.follows may (stands (own f list) one.course one.follows) in
    record {
      before = conditions f fitness w m (at_moment (idle (w.nodes m))) known (idle_each f fitness w m list known h) few;
      first = first_fits f fitness (own f list) w m one.course s laws small known one.follows may;
      kept = b.kept;
      moments = λ u walk. conditions f fitness w m u known (walks_each f fitness w m (at_moment (begun f m s (w.nodes m))) u known (begins_each f fitness w m list s laws small known h may stands) walk) (numbers u walk);
    }
