-- The world's group, and its letters in flight, while a member does its part of a faultless event, are what the group's moves lead to.
use Rattle.std.proofs.Common.{◌≡◌, ◌≤◌, ◌&&◌, ℕ, suc, true, List, [], ◌∷◌, ◌++◌, map, append_assoc, append-nil, length, Option, Some, None, refl, sym, ap, ◌∙◌, arith, subst, nat_lt, nat_le}
use Rattle.std.proofs.lemmas.Bool.{and_parts, cond_both, le-leb}
use Rattle.value_core.specs.declared.action.Action.{Action}
use Rattle.value_core.specs.declared.action.Action.TheVariants as action
use Rattle.value_core.specs.declared.action.Class.{Class}
use Rattle.value_core.specs.declared.action.Class.TheVariants.{Reads, Writes}
use Rattle.value_core.specs.declared.message.Message.{Message}
use Rattle.guard_queue.specs.declared.queue.Suspended.{Suspended}
use Rattle.object_manager.specs.State.{message_of}
use Rattle.group_rules.specs.Member.{Letter, Member, Waiting}
use Rattle.group_rules.specs.Messages.{Group}
use Rattle.group_rules.specs.Steps.{deliver, note, submit}
use Rattle.group_rules.specs.Work.{Act, Work}
use Rattle.group_rules.specs.World.{GroupWorld, may_submit, put, submitted_past}
use Rattle.group_bound.specs.Flow.{Flow, Move, delivers, flow, moves, notes, onto, opening_flow, submits}
use Rattle.world_rules.specs.Applying.{applies, applies_all, round, rounds}
use Rattle.world_rules.specs.Frame.{Frame, group}
use Rattle.world_rules.specs.Nodes.{Deed, Node, NodeWork, does, idle, joins, known, past_after, plays}
use Rattle.world_rules.specs.Nodes.Deed.{Acts, Submits}
use Rattle.world_rules.specs.Parts.{acts_at, acts_by, acts_of, calls, calls_as, catches_up}
use Rattle.world_rules.specs.Parts.{submits as asks_group}
use Rattle.world_rules.specs.Played.{Played, Stage, moves_to, next_call}
use Rattle.world_rules.specs.Played.Stage.{Computing, Acting, Submitted, Reading, Asking, Over}
use Rattle.world_rules.specs.Processes.{singles_of}
use Rattle.world_rules.specs.Worlds.{World, group_world}
use Rattle.world_law.specs.CaughtUp.{MayCatchUp, RoundsEnd}
use Rattle.world_law.specs.Moments.{sent_letters}
use Rattle.world_law.specs.Grouped.{Comes, Grouped}
use Rattle.world_law.specs.Moments.{IsMoment, Lives, MomentsHold, world_at}
use Rattle.world_law.proofs.Applied.{applied_due}
use Rattle.world_law.proofs.AtWork.{at_start, at_still, at_work, both_true, if_true, row_is, world_of}
use Rattle.world_law.proofs.Maps.{at_here, at_image}
use Rattle.world_law.proofs.Still.{Still, still_asks, still_reached, still_reading}

-- ---- moves

pub flow_more : {M : Type 0} (g : Group M) (f : Flow M) (xs : List (Move M)) (y : Move M) → flow g f (xs ++ y ∷ []) ≡ moves g (flow g f xs) y
flow_more g f [] y = refl
flow_more g f (x ∷ xs) y = flow_more g (moves g f x) xs y

onto_sent : (q : List (Letter Message)) (deeds : List Deed) (acts : List (Act Message)) →
    onto (q ++ sent_letters deeds) acts ≡ q ++ sent_letters (map Acts acts ++ deeds)
onto_sent q deeds [] = refl
onto_sent q deeds (Act.Sends letter ∷ acts) = ap (λ z. z ++ letter ∷ []) (onto_sent q deeds acts)
    ∙ append_assoc q (sent_letters (map Acts acts ++ deeds)) (letter ∷ [])
onto_sent q deeds (Act.Keeps packet ∷ acts) = onto_sent q deeds acts
onto_sent q deeds (Act.Orders k x ∷ acts) = onto_sent q deeds acts
onto_sent q deeds (Act.Begins k log answers ∷ acts) = onto_sent q deeds acts

-- ---- while member m is at work

-- `q` were in flight when it began
pub record Works (f : Frame) (w : World) (m : ℕ) (q : List (Letter Message)) (d : ℕ) (v : NodeWork) : Type 0 where
  pub made : List (Move Message)
  pub world : (flow (group f) opening_flow made).world ≡ at_work (group f) w m v
  pub queue : (flow (group f) opening_flow made).queue ≡ q ++ sent_letters v.deeds
  pub delivered : (flow (group f) opening_flow made).delivered ≡ d

pub works_still : (f : Frame) (w : World) (m : ℕ) (q : List (Letter Message)) (d : ℕ) (v u : NodeWork) → u.node.member ≡ v.node.member →
    past_after (group f) m u.deeds w.past ≡ past_after (group f) m v.deeds w.past → sent_letters u.deeds ≡ sent_letters v.deeds → Works f w m q d v → Works f w m q d u
works_still f w m q d v u member past letters h = record {
  made = h.made;
  world = h.world ∙ sym (at_still (group f) w m v u member past);
  queue = h.queue ∙ ap (λ z. q ++ z) (sym letters);
  delivered = h.delivered;
}

pub works_on : (f : Frame) (w : World) (m : ℕ) (q : List (Letter Message)) (d : ℕ) (v u : NodeWork) → Still (group f) m v u → Works f w m q d v → Works f w m q d u
works_on f w m q d v u s h = works_still f w m q d v u s.member (s.past w.past) s.letters h

-- a step of the member in the group
row_tied : (g : Group Message) (w : World) (m : ℕ) (v : NodeWork) (row : Member Message → Work Message) (z : GroupWorld Message) →
    z ≡ at_work g w m v → put z m z.past (row (z.members m)) ≡ at_work g w m (joins (row v.node.member) v)
row_tied g w m v row z e = ap (λ (y : GroupWorld Message). put y m y.past (row (y.members m))) e ∙ row_is g w m v row

here_is : (g : Group Message) (w : World) (m : ℕ) (v : NodeWork) (z : GroupWorld Message) → z ≡ at_work g w m v → z.members m ≡ v.node.member
here_is g w m v z e = ap (λ (y : GroupWorld Message). y.members m) e ∙ at_here (λ x. (w.nodes x).member) m v.node.member

queue_tied : (g : Group Message) (w : World) (m : ℕ) (q : List (Letter Message)) (d : ℕ) (v : NodeWork) (row : Member Message → Work Message)
    (z : GroupWorld Message) (old : List (Letter Message)) → z ≡ at_work g w m v → old ≡ q ++ sent_letters v.deeds →
    onto old (row (z.members m)).acts ≡ q ++ sent_letters (joins (row v.node.member) v).deeds
queue_tied g w m q d v row z old e is =
    ap (λ s. onto old (row s).acts) (here_is g w m v z e)
    ∙ ap (λ y. onto y (row v.node.member).acts) is
    ∙ onto_sent q v.deeds (row v.node.member).acts

-- a note
works_note : (f : Frame) (w : World) (m : ℕ) (q : List (Letter Message)) (d : ℕ) (v : NodeWork) → nat_lt m f.settings.nodes ≡ true →
    v.node.member.applied ≤ v.node.copies.applied → v.node.copies.applied ≤ v.node.member.accepted → Works f w m q d v →
    Works f w m q d (joins (note (group f) m v.node.copies.applied v.node.member) v)
works_note f w m q d v low noted below h =
    let g : Group Message = group f in
    let n : ℕ = v.node.copies.applied in
    let fl : Flow Message = flow g opening_flow h.made in
    let here : fl.world.members m ≡ v.node.member = here_is g w m v fl.world h.world in
    let may : (nat_lt m g.nodes && (nat_le (fl.world.members m).applied n && nat_le n (fl.world.members m).accepted)) ≡ true =
    both_true _ _ low (ap (λ (s : Member Message). nat_le s.applied n && nat_le n s.accepted) here ∙ both_true _ _ (le-leb _ _ noted) (le-leb _ _ below)) in
    let is : flow g opening_flow (h.made ++ Move.Notes m n ∷ []) ≡ notes g fl m n = flow_more g opening_flow h.made (Move.Notes m n) ∙ if_true _ _ _ may in
    record {
      made = h.made ++ Move.Notes m n ∷ [];
      world = ap (λ (z : Flow Message). z.world) is ∙ row_tied g w m v (λ s. note g m n s) fl.world h.world;
      queue = ap (λ (z : Flow Message). z.queue) is ∙ queue_tied g w m q d v (λ s. note g m n s) fl.world fl.queue h.world h.queue;
      delivered = ap (λ (z : Flow Message). z.delivered) is ∙ h.delivered;
    }

-- ---- it catches up

works_applies : (f : Frame) (w : World) (m : ℕ) (q : List (Letter Message)) (d : ℕ) (v : NodeWork) → v.node.copies.applied ≤ v.node.member.accepted →
    Works f w m q d v → Works f w m q d (applies f m v)
works_applies f w m q d v below h = let a = applied_due f (group f) m m v below in works_still f w m q d v (applies f m v) a.member (a.past w.past) a.letters h

pub works_round : (f : Frame) (w : World) (m : ℕ) (q : List (Letter Message)) (d : ℕ) (v : NodeWork) → nat_lt m f.settings.nodes ≡ true → MayCatchUp v →
    Works f w m q d v → Works f w m q d (round f m v)
works_round f w m q d v low may h =
    let u : NodeWork = applies f m v in
    let a = applied_due f (group f) m m v may.below in
    let k : Works f w m q d u = works_applies f w m q d v may.below h in
    cond_both (nat_lt u.node.member.applied u.node.copies.applied) _ _ (λ t. Works f w m q d t)
    (λ e. works_note f w m q d u low
    (omega (arith, may.noted, a.least, ap (λ (z : Member Message). z.applied) a.member))
    (omega (arith, may.below, a.most, ap (λ (z : Member Message). z.accepted) a.member)) k)
    (λ e. k)

works_rounds : (f : Frame) (w : World) (m : ℕ) (q : List (Letter Message)) (d : ℕ) (waiting : List (Waiting Message)) (v : NodeWork) → RoundsEnd f →
    nat_lt m f.settings.nodes ≡ true → MayCatchUp v → Works f w m q d v → Works f w m q d (rounds f m waiting v)
works_rounds f w m q d [] v ends low may h = works_round f w m q d v low may h
works_rounds f w m q d (one ∷ more) v ends low may h =
    works_rounds f w m q d more (round f m v) ends low (ends.stays m v may) (works_round f w m q d v low may h)

pub works_catches : (f : Frame) (w : World) (m : ℕ) (q : List (Letter Message)) (d : ℕ) (v : NodeWork) → RoundsEnd f → nat_lt m f.settings.nodes ≡ true →
    MayCatchUp v → Works f w m q d v → Works f w m q d (catches_up f m v)
works_catches f w m q d v ends low may h =
    works_on f w m q d (applies_all f m v) (catches_up f m v) (still_reached f (group f) m m (applies_all f m v))
    (works_rounds f w m q d v.node.member.waiting v ends low may h)

-- ---- at a moment

pub record Stands (f : Frame) (w : World) (m : ℕ) (q : List (Letter Message)) (d : ℕ) (v : NodeWork) : Type 0 where
  pub works : Works f w m q d v
  pub moment : IsMoment f w m v

pub starts : (f : Frame) (w : World) (m : ℕ) (q : List (Letter Message)) (d : ℕ) (made : List (Move Message)) → MomentsHold f → Grouped f w →
    (flow (group f) opening_flow made).world ≡ group_world w → (flow (group f) opening_flow made).queue ≡ q → (flow (group f) opening_flow made).delivered ≡ d → Stands f w m q d (idle (w.nodes m))
starts f w m q d made holds grouped world queue delivered = record {
  works = record { made = made; world = world ∙ sym (at_start (group f) w m); queue = queue ∙ sym (append-nil q); delivered = delivered };
  moment = holds.start w m grouped;
}

pub stands_on : (f : Frame) (w : World) (m : ℕ) (q : List (Letter Message)) (d : ℕ) (v u : NodeWork) → MomentsHold f → Still (group f) m v u →
    Stands f w m q d v → Stands f w m q d u
stands_on f w m q d v u holds s h = record {
  works = works_on f w m q d v u s h.works;
  moment = (holds.stays w m v u h.moment s.member (s.past w.past) s.applied (s.others h.moment.others)).moment;
}

pub world_is : (f : Frame) (w : World) (m : ℕ) (v : NodeWork) → group_world (world_at f w m v) ≡ at_work (group f) w m v
world_is f w m v = ap (λ members. world_of members w.lives (past_after (group f) m v.deeds w.past)) (at_image (λ (n : Node). n.member) w.nodes m v.node)

-- a message is submitted
stands_submit : (f : Frame) (w : World) (m : ℕ) (q : List (Letter Message)) (d : ℕ) (x : Message) (v : NodeWork) → MomentsHold f → Lives f w m →
    may_submit (group f) (at_work (group f) w m v) m x ≡ true → Stands f w m q d v →
    Stands f w m q d (joins (submit (group f) m x v.node.member) (does (Submits x) v))
stands_submit f w m q d x v holds on may h =
    let g : Group Message = group f in
    let k = h.works in
    let fl : Flow Message = flow g opening_flow k.made in
    let low : nat_lt m g.nodes ≡ true = (and_parts (nat_lt m f.settings.nodes) (w.lives m) on).0 in
    let allowed : (nat_lt m g.nodes && may_submit g fl.world m x) ≡ true = both_true _ _ low (ap (λ z. may_submit g z m x) k.world ∙ may) in
    let is : flow g opening_flow (k.made ++ Move.Submits m x ∷ []) ≡ submits g fl m x = flow_more g opening_flow k.made (Move.Submits m x) ∙ if_true _ _ _ allowed in
    record {
      works = record {
        made = k.made ++ Move.Submits m x ∷ [];
        world = ap (λ (z : Flow Message). z.world) is
            ∙ (ap (λ (y : GroupWorld Message). put y m (submitted_past g m x y.past) (submit g m x (y.members m))) k.world
            ∙ row_is g w m (does (Submits x) v) (λ s. submit g m x s));
        queue = ap (λ (z : Flow Message). z.queue) is
            ∙ queue_tied g w m q d (does (Submits x) v) (λ s. submit g m x s) (record fl.world { past = submitted_past g m x fl.world.past }) fl.queue
            (ap (λ (y : GroupWorld Message). record y { past = submitted_past g m x y.past }) k.world) k.queue;
        delivered = ap (λ (z : Flow Message). z.delivered) is ∙ k.delivered;
      };
      moment = (holds.submits w m x v on (ap (λ z. may_submit g z m x) (world_is f w m v) ∙ may) h.moment).moment;
    }

-- ---- an action is carried out

abbrev May : Frame → World → ℕ → ℕ → Played → Type 0
May f w m i r = (x : Message) → x.process.0 ≡ i → x.call.0 ≡ length r.replies → may_submit (group f) (group_world w) m x ≡ true

stands_submits : (f : Frame) (w : World) (m i : ℕ) (q : List (Letter Message)) (d : ℕ) (r : Played) (act : Action) (x : Message) → MomentsHold f →
    Lives f w m → may_submit (group f) (group_world w) m x ≡ true → Stands f w m q d (idle (w.nodes m)) →
    Stands f w m q d (asks_group f m i r act x (idle (w.nodes m)))
stands_submits f w m i q d r act x holds on may h =
    let v : NodeWork = plays i (moves_to (Submitted act) r) (idle (w.nodes m)) in
    let s : Still (group f) m (idle (w.nodes m)) v = record { member = refl; past = λ p. refl; applied = refl; letters = refl; others = λ o. o } in
    let same : group_world w ≡ at_work (group f) w m v = sym (at_still (group f) w m (idle (w.nodes m)) v refl refl ∙ at_start (group f) w m) in
    stands_submit f w m q d x v holds on (subst (λ z. may_submit (group f) z m x ≡ true) same may) (stands_on f w m q d (idle (w.nodes m)) v holds s h)

stands_calls_as : (f : Frame) (w : World) (m i : ℕ) (q : List (Letter Message)) (d : ℕ) (r : Played) (call : Suspended) (class : Class) → MomentsHold f →
    Lives f w m → may_submit (group f) (group_world w) m (message_of call) ≡ true → Stands f w m q d (idle (w.nodes m)) →
    Stands f w m q d (calls_as f m i r call class (idle (w.nodes m)))
stands_calls_as f w m i q d r call Reads holds on may h =
    stands_on f w m q d (idle (w.nodes m)) _ holds (still_reading f (group f) m i r (message_of call).action (idle (w.nodes m))) h
stands_calls_as f w m i q d r call Writes holds on may h = stands_submits f w m i q d r (message_of call).action (message_of call) holds on may h

stands_calls : (f : Frame) (w : World) (m i : ℕ) (q : List (Letter Message)) (d : ℕ) (r : Played) (call : Suspended) → MomentsHold f →
    Lives f w m → may_submit (group f) (group_world w) m (message_of call) ≡ true → Stands f w m q d (idle (w.nodes m)) →
    Stands f w m q d (calls f m i r call (idle (w.nodes m)))
stands_calls f w m i q d r call holds on may h = cond_both (singles_of f (known f (w.nodes m)) call.object) _ _ (λ u. Stands f w m q d u)
    (λ e. stands_on f w m q d (idle (w.nodes m)) _ holds (still_asks f (group f) m m i r call (idle (w.nodes m))) h)
    (λ e. stands_calls_as f w m i q d r call (f.performs.class_of call.kind call.op) holds on may h)

stands_by : (f : Frame) (w : World) (m i : ℕ) (q : List (Letter Message)) (d : ℕ) (r : Played) (act : Action) → MomentsHold f →
    Lives f w m → May f w m i r → Stands f w m q d (idle (w.nodes m)) → Stands f w m q d (acts_by f m i r act (idle (w.nodes m)))
stands_by f w m i q d r (action.Make kind object) holds on may h =
    let x : Message = record { process = record { 0 = i }; call = next_call r; action = action.Make kind object; performable = refl } in
    stands_submits f w m i q d r (action.Make kind object) x holds on (may x refl refl) h
stands_by f w m i q d r (action.Call kind op object args) holds on may h =
    let call : Suspended = record { process = record { 0 = i }; call = next_call r; kind = kind; op = op; object = object; args = args } in
    stands_calls f w m i q d r call holds on (may (message_of call) refl refl) h
stands_by f w m i q d r (action.Fork text args place_on) holds on may h =
    let x : Message = record { process = record { 0 = i }; call = next_call r; action = action.Fork text args place_on; performable = refl } in
    stands_submits f w m i q d r (action.Fork text args place_on) x holds on (may x refl refl) h
stands_by f w m i q d r action.Ended holds on may h = h
stands_by f w m i q d r (action.Faulted fault) holds on may h = h

stands_at : (f : Frame) (w : World) (m i : ℕ) (q : List (Letter Message)) (d : ℕ) (r : Played) (stage : Stage) → MomentsHold f → Lives f w m →
    ((act : Action) → stage ≡ Acting act → May f w m i r) → Stands f w m q d (idle (w.nodes m)) → Stands f w m q d (acts_at f m i r stage (idle (w.nodes m)))
stands_at f w m i q d r (Acting act) holds on may h = stands_by f w m i q d r act holds on (may act refl) h
stands_at f w m i q d r Computing holds on may h = h
stands_at f w m i q d r (Submitted act) holds on may h = h
stands_at f w m i q d r (Reading act) holds on may h = h
stands_at f w m i q d r (Asking act) holds on may h = h
stands_at f w m i q d r (Over act) holds on may h = h

pub stands_acts : (f : Frame) (w : World) (m i : ℕ) (q : List (Letter Message)) (d : ℕ) (here : Option Played) → MomentsHold f → Lives f w m →
    ((r : Played) (act : Action) → here ≡ Some r → r.stage ≡ Acting act → May f w m i r) → Stands f w m q d (idle (w.nodes m)) →
    Stands f w m q d (acts_of f m i here (idle (w.nodes m)))
stands_acts f w m i q d None holds on may h = h
stands_acts f w m i q d (Some r) holds on may h = stands_at f w m i q d r r.stage holds on (λ act e. may r act refl e) h

-- ---- a letter of the group comes: it was the first

pub stands_delivered : (f : Frame) (w : World) (q : List (Letter Message)) (d : ℕ) (letter : Letter Message) (made : List (Move Message)) → MomentsHold f →
    Lives f w letter.to → Grouped f w → Comes w.past.letters letter → (flow (group f) opening_flow made).world ≡ group_world w →
    (flow (group f) opening_flow made).queue ≡ letter ∷ q → (flow (group f) opening_flow made).delivered ≡ d →
    Stands f w letter.to q (suc d) (joins (deliver (group f) letter.to letter.packet (w.nodes letter.to).member) (idle (w.nodes letter.to)))
stands_delivered f w q d letter made holds on grouped comes world queue delivered =
    let g : Group Message = group f in
    let m : ℕ = letter.to in
    let fl : Flow Message = flow g opening_flow made in
    let v : NodeWork = idle (w.nodes m) in
    let at : fl.world ≡ at_work g w m v = world ∙ sym (at_start g w m) in
    let is : flow g opening_flow (made ++ Move.Delivers ∷ []) ≡ delivers g fl (letter ∷ q) =
    flow_more g opening_flow made Move.Delivers ∙ ap (λ z. delivers g fl z) queue in
    record {
      works = record {
        made = made ++ Move.Delivers ∷ [];
        world = ap (λ (z : Flow Message). z.world) is ∙ row_tied g w m v (λ s. deliver g m letter.packet s) fl.world at;
        queue = ap (λ (z : Flow Message). z.queue) is
            ∙ queue_tied g w m q d v (λ s. deliver g m letter.packet s) fl.world q at (sym (append-nil q));
        delivered = ap (λ (z : Flow Message). z.delivered) is ∙ ap suc delivered;
      };
      moment = (holds.delivers w v letter on comes (holds.start w m grouped)).moment;
    }
