-- The first piece of an event, and what follows it up to the event's end.
use Rattle.std.proofs.Common.{◌≡◌, ◌<◌, ◌^◌, ◌++◌, ℕ, zero, suc, Bool, true, false, List, [], Option, Some, None, append-nil, refl, sym, ap, ◌∙◌, subst, if◌then◌else◌}
use Rattle.value_core.specs.declared.action.Action.{Action}
use Rattle.value_core.specs.declared.action.Reply.{Reply}
use Rattle.value_core.specs.declared.message.Message.{Message}
use Rattle.group_packets.specs.declared.packet.Packet.{Packet}
use Rattle.group_rules.specs.Reset.{coordinate}
use Rattle.group_rules.specs.Messages.{Group, group_of}
use Rattle.group_rules.specs.Steps.{submit, ticked, timer}
use Rattle.group_rules.specs.Work as group_work
use Rattle.group_member.specs.AtWork.{AtWork, Does}
use Rattle.group_member.specs.StandsFor.{IsMember}
use Rattle.group_member.specs.declared.sends.Letter.{Letter as Sent}
use Rattle.group_member.specs.Ticks.{TicksAs}
use Rattle.group_member.specs.declared.member.Member.{Member}
use Rattle.group_member.specs.declared.timer.Timed.TheVariants.{Due}
use Rattle.group_reset.specs.Calls.{IsSome}
use Rattle.world_rules.specs.Frame.{Frame, bytes_of, group, name_of}
use Rattle.world_rules.specs.Nodes as nodes
use Rattle.world_rules.specs.Nodes.{NodeWork, does, entries_of, idle, plays}
use Rattle.world_rules.specs.Nodes.Deed.{Submits}
use Rattle.world_rules.specs.Applying.{applies_all}
use Rattle.world_rules.specs.Owners.{takes_reached}
use Rattle.world_rules.specs.Parts.{asks_again, asks_below, catches_up}
use Rattle.world_rules.specs.Played.{moves_to}
use Rattle.world_rules.specs.Played.{Stage as stage}
use Rattle.node_rules.specs.Conditions.{Fitness}
use Rattle.node_rules.specs.Moments.{Moment, Walks, at_work, works}
use Rattle.node_rules.specs.Moments.Goes.{Asks_again}
use Rattle.node_rules.specs.Moments.Walks.{Stays}
use Rattle.node_rules.specs.Starts.{EventFits, Start, begun}
use Rattle.node_rules.specs.Starts.Start.{Acts, Comes, Suspects, Ticks}
use Rattle.node_rules.proofs.Walking.{walk_on, walk_one}
use Rattle.node_core.specs.Calls.{GoesFree, HasGathered, HasMoved, IsFree}
use Rattle.node_core.specs.Entries.{Gathers}
use Rattle.node_core.specs.Events.{HasCome, HasDelivered, HasDone, HasStarted, HasSubmitted, IsIdle, MayComeFrom, MayStart}
use Rattle.node_core.specs.Pieces.{Becomes, GoesOn, IsSomewhere, resident_at}
use Rattle.node_parts.specs.Shown.{Left, Stood}
use Rattle.node_core.specs.Stands.{Does as DoesEvent, IsAt, IsDone, IsWork, MayDo, MayTakePacket, TakesPacket}
use Rattle.node_core.specs.declared.node.Node.{Node}
use Rattle.node_parts.specs.declared.resident.Resident.{Resident}
use Rattle.node_parts.specs.declared.resident.Stage.{Stage}
use Rattle.node_parts.specs.declared.resident.Stage.TheVariants as at_stage
use Rattle.node_core.specs.declared.work.Work.{Work}
use Rattle.node_core.proofs.Gathering.{kept_again, kept_reached}
use Rattle.node_core.proofs.Noting.{joined}
use Rattle.node_core.proofs.Sending.{waits_first}

-- what is no value is none
pub none_else : {A : Type 0} (o : Option A) → ((x : A) → o ≡ Some x → ⊥) → None ≡ o
none_else None apart = refl
none_else (Some x) apart = absurd (apart x refl)

-- ---- the work begins, and catches up

-- with nothing at hand it is at a moment
pub free_somewhere : {P S : Type 0} (stood : Stood S) (left : Left S) (f : Frame) (fitness : Fitness) (s : Work P S) → IsFree stood left f fitness s → IsSomewhere stood left f fitness s
free_somewhere stood left f fitness s (m, u, at) = (m, [], u, at)

pub free_on : {P S : Type 0} (stood : Stood S) (left : Left S) (f : Frame) (fitness : Fitness) (old new : Work P S) (piece : ℕ → NodeWork → NodeWork)
    → IsFree stood left f fitness old → GoesOn stood left f fitness old new piece → IsFree stood left f fitness new
free_on stood left f fitness old new piece (m, u, at) goes = (m, works (piece m u.work) u, goes m [] u at)

pub caught_up : {P S : Type 0} (stood : Stood S) (left : Left S) (f : Frame) (fitness : Fitness) (old mid new : Work P S)
    → GoesOn stood left f fitness old mid (applies_all f) → GoesFree stood left f fitness mid new (takes_reached f) → GoesFree stood left f fitness old new (catches_up f)
caught_up stood left f fitness old mid new applied taken m u at = taken m (works (applies_all f m u.work) u) (applied m [] u at)

-- and so it gathered the entries that it applied
pub gathered_up : {P S : Type 0} (stood : Stood S) (left : Left S) (f : Frame) (fitness : Fitness) (old : Work P S) (none messages : List Message) → none ≡ []
    → Gathers stood left f fitness old none messages (applies_all f) → HasGathered stood left f fitness old messages (catches_up f)
gathered_up stood left f fitness old none messages empty gathers m u at =
    let first : List Message = entries_of u.work.node in
    gathers m [] u first at (ap (λ (l : List Message). first ++ l) empty ∙ append-nil first) ∙ sym (kept_reached f m (applies_all f m u.work))

-- ---- after the first piece

-- where it comes to from there the conditions hold
pub started_at : {P S : Type 0} (stood : Stood S) (left : Left S) (f : Frame) (fitness : Fitness) (m : ℕ) (start : Start) (v : nodes.Node) (s : Work P S)
    → IsWork stood left f m s (begun f m start v) → EventFits f fitness m start v → IsAt stood left f fitness m s [] (at_work (begun f m start v))
started_at stood left f fitness m start v s work fits = record { work = work; errands = refl; fits = fits.moments }

-- so it is of the node that the event is of
pub may_start : {P S : Type 0} (stood : Stood S) (left : Left S) (f : Frame) (fitness : Fitness) (start : Start) (s : Node P S) (work : Work P S) → IsIdle stood left s work
    → MayDo stood left f fitness s start → MayStart stood left f fitness start work
may_start stood left f fitness start s work idles (v, stands, fits) = (s.member.me, v, idles f s.member.me v stands, fits)

pub started_free : {P S : Type 0} (stood : Stood S) (left : Left S) (f : Frame) (fitness : Fitness) (start : Start) (old new : Work P S) → MayStart stood left f fitness start old
    → HasStarted stood left f fitness start old new → IsFree stood left f fitness new
started_free stood left f fitness start old new (m, v, work, fits) has =
    (m, at_work (begun f m start v), started_at stood left f fitness m start v new (has m v work fits) fits)

-- ---- a tick's Asks

walks_below : (f : Frame) (m n : ℕ) (v : NodeWork) → Walks f m (at_work v) (at_work (asks_below f m n v))
walks_below f m zero v = Stays (at_work v)
walks_below f m (suc i) v =
    walk_on f m (at_work v) (at_work (asks_below f m i v)) (at_work (asks_below f m (suc i) v)) (walks_below f m i v)
    (walk_one f m (at_work (asks_below f m i v)) (at_work (asks_below f m (suc i) v)) (Asks_again i refl))

walks_again : (f : Frame) (m : ℕ) (v : NodeWork) → Walks f m (at_work v) (at_work (asks_again f m v))
walks_again f m v = go v.node.member.outside
  where
    go : (b : Bool) → Walks f m (at_work v) (at_work (if b then v else asks_below f m v.node.copies.processes v))
    go true = Stays (at_work v)
    go false = walks_below f m v.node.copies.processes v

asks_at : {P S : Type 0} (stood : Stood S) (left : Left S) (f : Frame) (fitness : Fitness) (m : ℕ) (v : nodes.Node) (s new : Work P S)
    → IsWork stood left f m s (begun f m Ticks v) → EventFits f fitness m Ticks v → Becomes stood left s new asks_again
    → IsAt stood left f fitness m new [] (at_work (asks_again f m (begun f m Ticks v)))
asks_at stood left f fitness m v s new work fits becomes = record {
  work = becomes f m (begun f m Ticks v) work;
  errands = refl;
  fits = λ x walk. fits.moments x (walk_on f m (at_work (begun f m Ticks v)) (at_work (asks_again f m (begun f m Ticks v))) x (walks_again f m (begun f m Ticks v)) walk);
}

pub asked_free : {P S : Type 0} (stood : Stood S) (left : Left S) (f : Frame) (fitness : Fitness) (old timed new : Work P S) → MayStart stood left f fitness Ticks old
    → HasStarted stood left f fitness Ticks old timed → Becomes stood left timed new asks_again → IsFree stood left f fitness new
asked_free stood left f fitness old timed new (m, v, work, fits) has becomes = (
  m,
  at_work (asks_again f m (begun f m Ticks v)),
  asks_at stood left f fitness m v timed new (has m v work fits) fits becomes,
)

-- ---- the event is done

-- where it caught up, from the moment after its first piece
done : {P S : Type 0} (stood : Stood S) (left : Left S) (f : Frame) (fitness : Fitness) (m : ℕ) (mid end : Work P S) (u : Moment) (before : nodes.Node) → entries_of u.work.node ≡ entries_of before
    → IsAt stood left f fitness m mid [] u → GoesFree stood left f fitness mid end (catches_up f) → HasGathered stood left f fitness mid end.moved.messages.items (catches_up f)
    → IsDone stood left f m end.node end.moved before (catches_up f m u.work)
done stood left f fitness m mid end u before kept at goes gathered =
    let to = goes m u at in
    record {
      node = to.work.node;
      did = to.work.moved;
      messages = ap (λ (l : List Message). l ++ end.moved.messages.items) (sym kept) ∙ gathered m u at;
    }

-- an action is carried out
pub acts_done : {P S : Type 0} (stood : Stood S) (left : Left S) (f : Frame) (fitness : Fitness) (i : ℕ) (old mid end : Work P S) → HasStarted stood left f fitness (Acts i) old mid
    → GoesFree stood left f fitness mid end (catches_up f) → HasGathered stood left f fitness mid end.moved.messages.items (catches_up f) → HasDone stood left f fitness (Acts i) old end
acts_done stood left f fitness i old mid end has goes gathered m v work fits =
    done stood left f fitness m mid end (at_work (begun f m (Acts i) v)) v fits.kept (started_at stood left f fitness m (Acts i) v mid (has m v work fits) fits) goes gathered

-- it coordinates
pub suspects_done : {P S : Type 0} (stood : Stood S) (left : Left S) (f : Frame) (fitness : Fitness) (old mid end : Work P S) → HasStarted stood left f fitness Suspects old mid
    → GoesFree stood left f fitness mid end (catches_up f) → HasGathered stood left f fitness mid end.moved.messages.items (catches_up f) → HasDone stood left f fitness Suspects old end
suspects_done stood left f fitness old mid end has goes gathered m v work fits =
    done stood left f fitness m mid end (at_work (begun f m Suspects v)) v fits.kept (started_at stood left f fitness m Suspects v mid (has m v work fits) fits) goes gathered

-- time passes
pub ticks_done : {P S : Type 0} (stood : Stood S) (left : Left S) (f : Frame) (fitness : Fitness) (old timed mid end : Work P S) → HasStarted stood left f fitness Ticks old timed
    → Becomes stood left timed mid asks_again → GoesFree stood left f fitness mid end (catches_up f) → HasGathered stood left f fitness mid end.moved.messages.items (catches_up f)
    → HasDone stood left f fitness Ticks old end
ticks_done stood left f fitness old timed mid end has becomes goes gathered m v work fits =
    done stood left f fitness m mid end (at_work (asks_again f m (begun f m Ticks v))) v (kept_again f m (begun f m Ticks v) ∙ fits.kept)
    (asks_at stood left f fitness m v timed mid (has m v work fits) fits becomes) goes gathered

-- a packet comes
pub comes_done : {P S : Type 0} (stood : Stood S) (left : Left S) (f : Frame) (fitness : Fitness) (from : ℕ) (packet : Packet Message Reply) (old mid end : Work P S)
    → HasCome stood left f fitness from packet old mid → GoesFree stood left f fitness mid end (catches_up f)
    → HasGathered stood left f fitness mid end.moved.messages.items (catches_up f) → HasDelivered stood left f fitness from packet old end
comes_done stood left f fitness from packet old mid end has goes gathered mail m v post work fits =
    done stood left f fitness m mid end (at_work (begun f m (Comes mail) v)) v fits.kept (started_at stood left f fitness m (Comes mail) v mid (has mail m v post work fits) fits) goes gathered

-- and the work began at this node
pub event_done : {P S : Type 0} (stood : Stood S) (left : Left S) (f : Frame) (fitness : Fitness) (start : Start) (s : Node P S) (work end : Work P S) → IsIdle stood left s work
    → HasDone stood left f fitness start work end → DoesEvent stood left f fitness s end.node end.moved start
event_done stood left f fitness start s work end idles has v stands fits = let m : ℕ = s.member.me in has m v (idles f m v stands) fits

pub packet_done : {P S : Type 0} (stood : Stood S) (left : Left S) (f : Frame) (fitness : Fitness) (from : ℕ) (packet : Packet Message Reply) (s : Node P S) (work end : Work P S)
    → IsIdle stood left s work → HasDelivered stood left f fitness from packet work end → TakesPacket stood left f fitness from packet s end.node end.moved
packet_done stood left f fitness from packet s work end idles has mail post v stands fits = let m : ℕ = s.member.me in has mail m v post (idles f m v stands) fits

-- ---- its member in the group takes a step

pub member_of : {P S : Type 0} (stood : Stood S) (left : Left S) (f : Frame) (fitness : Fitness) (start : Start) (s : Work P S) → MayStart stood left f fitness start s → IsMember s.node.member
member_of stood left f fitness start s (m, v, work, fits) = work.node.member.member

pub some_member : {P S : Type 0} (stood : Stood S) (left : Left S) (f : Frame) (fitness : Fitness) (start : Start) (s : Work P S) → MayStart stood left f fitness start s
    → IsSome name_of bytes_of s.node.member
some_member stood left f fitness start s (m, v, work, fits) = (f.settings.nodes, f.settings.resilience, m, v.member, work.node.member)

pub few_promised : {P S : Type 0} (stood : Stood S) (left : Left S) (f : Frame) (fitness : Fitness) (start : Start) (s : Work P S) → MayStart stood left f fitness start s
    → s.node.member.promised < 2 ^ 62
few_promised stood left f fitness start s (m, v, work, fits) = subst (λ (n : ℕ). n < 2 ^ 62) work.node.member.promised fits.before.small.promised

pub timed_so : {P S : Type 0} (stood : Stood S) (left : Left S) (f : Frame) (fitness : Fitness) (old new : Work P S) (sends : List (Sent Message Reply))
    → Does name_of bytes_of old.node.member new.node.member sends timer → new.node ≡ record old.node { member = new.node.member }
    → new.moved ≡ record old.moved { sends = new.moved.sends } → new.moved.sends.items ≡ old.moved.sends.items ++ sends → HasStarted stood left f fitness Ticks old new
timed_so stood left f fitness old new sends row node others posts m v work fits =
    joined stood left f m old new sends (timer (group f) m v.member) (idle v) (row f.settings.nodes f.settings.resilience m v.member work.node.member) node others posts fits.kept work

pub coordinated_so : {P S : Type 0} (stood : Stood S) (left : Left S) (f : Frame) (fitness : Fitness) (old new : Work P S) (sends : List (Sent Message Reply))
    → Does name_of bytes_of old.node.member new.node.member sends coordinate → new.node ≡ record old.node { member = new.node.member }
    → new.moved ≡ record old.moved { sends = new.moved.sends } → new.moved.sends.items ≡ old.moved.sends.items ++ sends → HasStarted stood left f fitness Suspects old new
coordinated_so stood left f fitness old new sends row node others posts m v work fits =
    joined stood left f m old new sends (coordinate (group f) m v.member) (idle v) (row f.settings.nodes f.settings.resilience m v.member work.node.member) node others posts fits.kept work

-- ---- an action is submitted

-- its member in the group stays one
pub still_member : {P S : Type 0} (i : ℕ) (to : Stage) (o : Option (Resident S)) (old new : Node P S) → HasMoved i to o old new → IsMember old.member → IsMember new.member
still_member {P} {S} i to None old new has is = subst (λ (n : Node P S). IsMember n.member) (sym has) is
still_member {P} {S} i to (Some s) old new has is = subst (λ (n : Node P S). IsMember n.member) (sym has.others) is

pub submitted_so : {P S : Type 0} (stood : Stood S) (left : Left S) (f : Frame) (i : ℕ) (x : Message) (act : Action) (old mid new : Work P S) (sends : List (Sent Message Reply))
    → act ≡ x.action → HasMoved i (at_stage.Submitted act) (resident_at old.node i) old.node mid.node → mid.moved ≡ old.moved
    → Does name_of bytes_of mid.node.member new.node.member sends (λ g which. submit g which x) → new.node ≡ record mid.node { member = new.node.member }
    → new.moved ≡ record mid.moved { sends = new.moved.sends } → new.moved.sends.items ≡ mid.moved.sends.items ++ sends → HasSubmitted stood left f i x old new
submitted_so {P} {S} stood left f i x act old mid new sends is has moved row node others posts m v r work here acts kept =
    let u : NodeWork = does (Submits x) (plays i (moves_to (stage.Submitted x.action) r) v) in
    let waits = waits_first stood left f m i (at_stage.Submitted x.action) x.action old mid v r (λ state halted. halted)
    (subst (λ (a : Action). HasMoved i (at_stage.Submitted a) (resident_at old.node i) old.node mid.node) is has) moved work here acts in
    let told : IsWork stood left f m mid u = record { node = waits.node; moved = record { sends = waits.moved.sends; entries = waits.moved.entries; aside = waits.moved.aside } } in
    joined stood left f m mid new sends (submit (group f) m x u.node.member) u (row f.settings.nodes f.settings.resilience m u.node.member told.node.member) node others posts kept told

-- ---- a packet comes

pub may_come : {P S : Type 0} (stood : Stood S) (left : Left S) (f : Frame) (fitness : Fitness) (from : ℕ) (packet : Packet Message Reply) (s : Node P S) (work : Work P S) → IsIdle stood left s work
    → MayTakePacket stood left f fitness from packet s → MayComeFrom stood left f fitness from packet work
may_come stood left f fitness from packet s work idles (mail, post, (v, stands, fits)) = (mail, s.member.me, v, post, idles f s.member.me v stands, fits)

pub come_free : {P S : Type 0} (stood : Stood S) (left : Left S) (f : Frame) (fitness : Fitness) (from : ℕ) (packet : Packet Message Reply) (old new : Work P S)
    → MayComeFrom stood left f fitness from packet old → HasCome stood left f fitness from packet old new → IsFree stood left f fitness new
come_free stood left f fitness from packet old new (mail, m, v, post, work, fits) has = (
  m,
  at_work (begun f m (Comes mail) v),
  started_at stood left f fitness m (Comes mail) v new (has mail m v post work fits) fits,
)

-- ---- a tick at which it is due

pub some_is_member : (s : Member Message Reply) → IsSome name_of bytes_of s → IsMember s
some_is_member s (nodes, resilience, which, m, stands) = stands.member

pub due_some : (old new : Member Message Reply) → TicksAs name_of bytes_of old new Due → IsSome name_of bytes_of old → IsSome name_of bytes_of new
due_some old new row (nodes, resilience, which, m, stands) =
    (nodes, resilience, which, ticked (group_of name_of bytes_of nodes resilience) which m, (row nodes resilience which m stands).state)

pub due_does : (old mid new : Member Message Reply) (sends : List (Sent Message Reply)) → TicksAs name_of bytes_of old mid Due → Does name_of bytes_of mid new sends coordinate
    → Does name_of bytes_of old new sends timer
due_does old mid new sends row coordinates nodes resilience which m stands =
    let g : Group Message = group_of name_of bytes_of nodes resilience in
    let to = row nodes resilience which m stands in
    subst (λ (w : group_work.Work Message). AtWork g which new sends w) (sym to.row) (coordinates nodes resilience which (ticked g which m) to.state)
