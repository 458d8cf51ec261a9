-- At each moment of a member's part its numbers of entries and of incarnations are small.
use Rattle.std.proofs.Common.{◌≡◌, ◌≤◌, ◌*◌, ◌+◌, ℕ, suc, Bool, true, false, List, length, Option, None, Some, refl, sym, ap, ◌∙◌, subst, arith, if◌then◌else◌}
use Rattle.orca_base.specs.declared.limits.TheConstants.{EVENTS, NODES}
use Rattle.value_core.specs.declared.action.Action.{Action}
use Rattle.value_core.specs.declared.action.Action.TheVariants as action
use Rattle.value_core.specs.declared.action.Class.{Class}
use Rattle.value_core.specs.declared.action.Class.TheVariants.{Reads, Writes}
use Rattle.value_core.specs.declared.message.Message.{Message}
use Rattle.guard_queue.specs.declared.queue.Suspended.{Suspended}
use Rattle.object_manager.specs.State.{message_of}
use Rattle.group_rules.specs.World.{GroupWorld, may_submit}
use Rattle.book_law.proofs.Courses.{at_own}
use Rattle.world_rules.specs.Frame.{Frame, group}
use Rattle.world_rules.specs.Mail.{Mail}
use Rattle.world_rules.specs.Nodes.{Deed, Node, NodeWork, idle, past_after, plays}
use Rattle.world_rules.specs.Nodes.{known as known_by}
use Rattle.world_rules.specs.Owners.{arrives, holds, takes}
use Rattle.world_rules.specs.Parts.{acts_at, acts_by, acts_of, asks, asks_again_of, calls, calls_as, submits}
use Rattle.world_rules.specs.Played.{Played, Stage, moves_to, next_call}
use Rattle.world_rules.specs.Played.Stage.{Computing, Acting, Submitted, Reading, Asking, Over}
use Rattle.world_rules.specs.Processes.{singles_of}
use Rattle.world_rules.specs.Worlds.{World, group_world}
use Rattle.world_law.specs.Counts.{Counted, CountedAt, HasSmallNumbers, MomentsCount}
use Rattle.world_law.specs.Moments.{IsMoment, Lives, world_at}
use Rattle.world_law.proofs.AtWork.{at_start, at_still}
use Rattle.world_law.proofs.Events.{world_is}
use Rattle.world_law.proofs.Still.{Still, still_again_of, still_arrives, still_asks, still_read, still_reading, still_takes}
use Rattle.world_course.proofs.Working.{OnlyPlays, entry_only}
use Rattle.world_rules.specs.Applying.{copies_take, tries_read}
use Rattle.world_rules.specs.Steps.{untouched}
use Rattle.node_rules.specs.Moments.{Goes, Moment, holds_none, takes_entry}
use Rattle.node_rules.specs.Moments.Goes.{Takes_entry, Tries_read, Notes, Opens, Takes, Holds, Asks_again}
use Rattle.node_rules.specs.Starts.{Start, begun}
use Rattle.node_rules.specs.Starts.Start.{Acts, Comes as CameIn, Ticks, Suspects}
use Rattle.world_calls.proofs.Beginning.{MayStart}

pub weaker : (f : Frame) (w : GroupWorld Message) (s t c d : ℕ) → s ≤ t → c ≤ d → Counted f w s c → Counted f w t d
weaker f w s t c d le few h = let a = h.few in let b = h.rare in record { events = h.events; run = h.run; few = omega (arith, a, le); rare = omega (arith, b, few) }

still_counts : (f : Frame) (w : World) (m s c : ℕ) (v u : NodeWork) → MomentsCount f → CountedAt f w m v s c → Still (group f) m v u → CountedAt f w m u s c
still_counts f w m s c v u laws h still = laws.stays w m s c v u h still.member (still.past w.past)

-- ---- piece by piece

entry_counts : (f : Frame) (w : World) (m s c : ℕ) (x : Message) (v : NodeWork) → MomentsCount f → CountedAt f w m v s c → CountedAt f w m (takes_entry f m x v) s c
entry_counts f w m s c x v laws h = laws.stays w m s c v (takes_entry f m x v) h only.member (ap (λ (ds : List Deed). past_after (group f) m ds w.past) only.deeds)
  where
    only : OnlyPlays (copies_take f m (known_by f v.node) x v) (takes_entry f m x v)
    only = entry_only f m (known_by f v.node) v.node.copies.processes (suc v.node.copies.applied) x v

pub goes_counted : (f : Frame) (w : World) (m s c : ℕ) (u v : Moment) → MomentsCount f → Lives f w m → IsMoment f w m u.work → Goes f m u v → CountedAt f w m u.work s c → CountedAt f w m v.work s c
goes_counted f w m s c u v laws lives moment (Takes_entry x due within is) h = subst (λ (z : Moment). CountedAt f w m z.work s c) (sym is) (entry_counts f w m s c x u.work laws h)
goes_counted f w m s c u v laws lives moment (Tries_read i is) h = subst (λ (z : Moment). CountedAt f w m z.work s c) (sym is) (still_counts f w m s c u.work (tries_read f i u.work) laws h (still_read f (group f) m i u.work))
goes_counted f w m s c u v laws lives moment (Notes is) h = subst (λ (z : Moment). CountedAt f w m z.work s c) (sym is) (laws.notes w m s c u.work lives moment h)
goes_counted f w m s c u v laws lives moment (Opens none inside is) h =
    subst (λ (z : Moment). CountedAt f w m z.work s c) (sym is)
    (still_counts f w m s c u.work (holds_none u.work) laws h (record { member = refl; past = λ p. refl; applied = refl; letters = refl; others = λ o. o }))
goes_counted f w m s c u v laws lives moment (Takes e es hand reached is) h =
    subst (λ (z : Moment). CountedAt f w m z.work s c) (sym is) (still_counts f w m s c u.work (takes f m e u.work) laws h (still_takes f (group f) m m e u.work))
goes_counted f w m s c u v laws lives moment (Holds e es hand is) h =
    subst (λ (z : Moment). CountedAt f w m z.work s c) (sym is)
    (still_counts f w m s c u.work (holds e u.work) laws h (record { member = refl; past = λ p. refl; applied = refl; letters = refl; others = λ o. o }))
goes_counted f w m s c u v laws lives moment (Asks_again i is) h =
    subst (λ (z : Moment). CountedAt f w m z.work s c) (sym is)
    (still_counts f w m s c u.work (asks_again_of f m i (u.work.node.played i) u.work) laws h (still_again_of f (group f) m m i (u.work.node.played i) u.work))

-- ---- where a part begins: one submission at most, and a tick or coordination

submits_counted : (f : Frame) (w : World) (m s c i : ℕ) (r : Played) (act : Action) (x : Message) → MomentsCount f → Lives f w m → may_submit (group f) (group_world w) m x ≡ true → CountedAt f w m (idle (w.nodes m)) s c
    → CountedAt f w m (submits f m i r act x (idle (w.nodes m))) (suc s) c
submits_counted f w m s c i r act x laws lives may h =
    laws.submits w m s c x v lives
    (subst (λ (z : GroupWorld Message). may_submit (group f) z m x ≡ true) (sym (world_is f m v (untouched w) ∙ at_still (group f) w m (idle (w.nodes m)) v refl refl ∙ at_start (group f) w m)) may)
    (still_counts f w m s c (idle (w.nodes m)) v laws h (record { member = refl; past = λ p. refl; applied = refl; letters = refl; others = λ o. o }))
  where
    v : NodeWork
    v = plays i (moves_to (Submitted act) r) (idle (w.nodes m))

-- it may submit what has its next number
abbrev MaySend : Frame → World → ℕ → ℕ → Played → Type 0
MaySend f w m i r = (x : Message) → x.process.0 ≡ i → x.call.0 ≡ length r.replies → may_submit (group f) (group_world w) m x ≡ true

more : (f : Frame) (w : World) (m s c : ℕ) (v : NodeWork) → CountedAt f w m v s c → CountedAt f w m v (suc s) c
more f w m s c v h = weaker f (group_world (world_at f w m v)) s (suc s) c c (omega arith) (omega arith) h

class_counted : (f : Frame) (w : World) (m s c i : ℕ) (r : Played) (call : Suspended) (class : Class) → MomentsCount f → Lives f w m → may_submit (group f) (group_world w) m (message_of call) ≡ true → CountedAt f w m (idle (w.nodes m)) s c
    → CountedAt f w m (calls_as f m i r call class (idle (w.nodes m))) (suc s) c
class_counted f w m s c i r call Reads laws lives may h =
    more f w m s c (calls_as f m i r call Reads (idle (w.nodes m))) (still_counts f w m s c (idle (w.nodes m)) (calls_as f m i r call Reads (idle (w.nodes m))) laws h (still_reading f (group f) m i r (message_of call).action (idle (w.nodes m))))
class_counted f w m s c i r call Writes laws lives may h = submits_counted f w m s c i r (message_of call).action (message_of call) laws lives may h

call_counted : (f : Frame) (w : World) (m s c i : ℕ) (r : Played) (call : Suspended) → MomentsCount f → Lives f w m → may_submit (group f) (group_world w) m (message_of call) ≡ true → CountedAt f w m (idle (w.nodes m)) s c
    → CountedAt f w m (calls f m i r call (idle (w.nodes m))) (suc s) c
call_counted f w m s c i r call laws lives may h = go (singles_of f (known_by f (w.nodes m)) call.object)
  where
    v : NodeWork
    v = idle (w.nodes m)

    go : (b : Bool) → CountedAt f w m (if b then asks f m i r call v else calls_as f m i r call (f.performs.class_of call.kind call.op) v) (suc s) c
    go true = more f w m s c (asks f m i r call v) (still_counts f w m s c v (asks f m i r call v) laws h (still_asks f (group f) m m i r call v))
    go false = class_counted f w m s c i r call (f.performs.class_of call.kind call.op) laws lives may h

act_counted : (f : Frame) (w : World) (m s c i : ℕ) (r : Played) (act : Action) → MomentsCount f → Lives f w m → MaySend f w m i r → CountedAt f w m (idle (w.nodes m)) s c → CountedAt f w m (acts_by f m i r act (idle (w.nodes m))) (suc s) c
act_counted f w m s c i r (action.Make kind object) laws lives may h =
    let x : Message = record { process = record { 0 = i }; call = next_call r; action = action.Make kind object; performable = refl } in
    submits_counted f w m s c i r (action.Make kind object) x laws lives (may x refl refl) h
act_counted f w m s c i r (action.Call kind op object given) laws lives may h =
    let call : Suspended = record { process = record { 0 = i }; call = next_call r; kind = kind; op = op; object = object; args = given } in
    call_counted f w m s c i r call laws lives (may (message_of call) refl refl) h
act_counted f w m s c i r (action.Fork text given place_on) laws lives may h =
    let x : Message = record { process = record { 0 = i }; call = next_call r; action = action.Fork text given place_on; performable = refl } in
    submits_counted f w m s c i r (action.Fork text given place_on) x laws lives (may x refl refl) h
act_counted f w m s c i r action.Ended laws lives may h = more f w m s c (idle (w.nodes m)) h
act_counted f w m s c i r (action.Faulted fault) laws lives may h = more f w m s c (idle (w.nodes m)) h

stage_counted : (f : Frame) (w : World) (m s c i : ℕ) (r : Played) (stage : Stage) → MomentsCount f → Lives f w m → ((act : Action) → stage ≡ Acting act → MaySend f w m i r) → CountedAt f w m (idle (w.nodes m)) s c
    → CountedAt f w m (acts_at f m i r stage (idle (w.nodes m))) (suc s) c
stage_counted f w m s c i r (Acting act) laws lives may h = act_counted f w m s c i r act laws lives (may act refl) h
stage_counted f w m s c i r Computing laws lives may h = more f w m s c (idle (w.nodes m)) h
stage_counted f w m s c i r (Submitted act) laws lives may h = more f w m s c (idle (w.nodes m)) h
stage_counted f w m s c i r (Reading act) laws lives may h = more f w m s c (idle (w.nodes m)) h
stage_counted f w m s c i r (Asking act) laws lives may h = more f w m s c (idle (w.nodes m)) h
stage_counted f w m s c i r (Over act) laws lives may h = more f w m s c (idle (w.nodes m)) h

acts_counted : (f : Frame) (w : World) (m s c i : ℕ) (o : Option Played) → MomentsCount f → Lives f w m → ((r : Played) (act : Action) → o ≡ Some r → r.stage ≡ Acting act → MaySend f w m i r) → CountedAt f w m (idle (w.nodes m)) s c
    → CountedAt f w m (acts_of f m i o (idle (w.nodes m))) (suc s) c
acts_counted f w m s c i None laws lives may h = more f w m s c (idle (w.nodes m)) h
acts_counted f w m s c i (Some r) laws lives may h = stage_counted f w m s c i r r.stage laws lives (λ act is. may r act refl is) h

-- how many messages it submits
abbrev pub asked_by : Start → ℕ
asked_by (Acts i) = 1
asked_by (CameIn mail) = 0
asked_by Ticks = 0
asked_by Suspects = 0

pub begun_counted : (f : Frame) (w : World) (m s c : ℕ) (start : Start) → MomentsCount f → Lives f w m → MayStart f w m start → Counted f (group_world w) s c → CountedAt f w m (begun f m start (w.nodes m)) (s + asked_by start) (suc c)
begun_counted f w m s c (Acts i) laws lives may h =
    weaker f (group_world (world_at f w m (begun f m (Acts i) (w.nodes m)))) (suc s) (s + 1) c (suc c) (omega arith) (omega arith)
    (acts_counted f w m s c i ((w.nodes m).played i) laws lives (λ r act here acts x of call. may r act here acts x of call) (laws.start w m s c h))
begun_counted f w m s c (CameIn (Mail.Grouped letter)) laws lives may h =
    subst (λ (k : ℕ). CountedAt f w k (begun f k (CameIn (Mail.Grouped letter)) (w.nodes k)) (s + 0) (suc c)) (sym may.0)
    (weaker f (group_world (world_at f w letter.to (begun f letter.to (CameIn (Mail.Grouped letter)) (w.nodes letter.to)))) s (s + 0) c (suc c) (omega arith) (omega arith)
    (laws.delivers w s c (idle (w.nodes letter.to)) letter (subst (Lives f w) may.0 lives) may.1 (laws.start w letter.to s c h)))
begun_counted f w m s c (CameIn (Mail.Sends incarnation from to errand)) laws lives may h =
    weaker f (group_world (world_at f w m (arrives errand (idle (w.nodes m))))) s (s + 0) c (suc c) (omega arith) (omega arith)
    (still_counts f w m s c (idle (w.nodes m)) (arrives errand (idle (w.nodes m))) laws (laws.start w m s c h) (still_arrives (group f) m errand (idle (w.nodes m))))
begun_counted f w m s c Ticks laws lives may h =
    weaker f (group_world (world_at f w m (begun f m Ticks (w.nodes m)))) s (s + 0) (suc c) (suc c) (omega arith) (omega arith) (laws.ticks w m s c (idle (w.nodes m)) lives (laws.start w m s c h))
begun_counted f w m s c Suspects laws lives may h =
    weaker f (group_world (world_at f w m (begun f m Suspects (w.nodes m)))) s (s + 0) (suc c) (suc c) (omega arith) (omega arith) (laws.coordinates w m s c (idle (w.nodes m)) lives (laws.start w m s c h))

-- ---- so they are small

pub small_at : (f : Frame) (w : World) (m s c : ℕ) (v : NodeWork) → MomentsCount f → f.settings.nodes ≤ NODES → s ≤ EVENTS → c ≤ f.settings.nodes * EVENTS → CountedAt f w m v s c → HasSmallNumbers v.node.member
small_at f w m s c v laws nodes few rare h =
    let all = laws.small w m s c v nodes few rare h in
    subst (λ (n : Node). HasSmallNumbers n.member) (at_own w.nodes m v.node) (all.members m)
