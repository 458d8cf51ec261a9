-- One member's part of each event is a list of the group's events at that member.
use Rattle.std.proofs.Common.{◌≡◌, ◌==◌, ◌&&◌, ◌≤◌, ◌<◌, ◌*◌, ℕ, Bool, true, false, not, List, [], ◌∷◌, ◌++◌, map, Some, refl, sym, ap, ◌∙◌, arith, subst, nat_lt}
use Rattle.std.proofs.lemmas.Bool.{and_parts, cond_both, le-leb, ltb-true, ltb-false, ne_eqb}
use Rattle.value_core.specs.declared.message.Message.{Message}
use Rattle.group_rules.specs.Member.{Kind, Letter, Member, Waiting}
use Rattle.group_rules.specs.Member.Kind.{Request, Body, Order, Entry, Ack, Accept, Nack, Status, Invite, Join, News}
use Rattle.group_rules.specs.Messages.{Group}
use Rattle.group_rules.specs.Steps.{deliver, deliver_kind, note, receive, submit, timer}
use Rattle.group_rules.specs.Reset.{announced, coordinate, invited, joined}
use Rattle.group_rules.specs.OnWire.{ToOthers}
use Rattle.group_rules.specs.Work.{Act, Work}
use Rattle.group_rules.specs.World.{Event, GroupWorld, NumberedLaw, PacketsLaw, Sent, arrive, gnext, letter_number, may_apply, may_submit}
use Rattle.group_law.specs.Agreed.{ForwardLaw, GoesOn, StepKeeps, StepsLaw}
use Rattle.group_law.specs.Promise.{AgreementLaw, Conditions, ConditionsLaw}
use Rattle.group_law.specs.Sends.{OthersLaw, RowsSend, SendsLaw, Use}
use Rattle.world_rules.specs.Applying.{applies, applies_all, notes, round, rounds}
use Rattle.world_rules.specs.Frame.{Frame, group}
use Rattle.world_rules.specs.Nodes.{Deed, Node, NodeWork, does, joins}
use Rattle.world_rules.specs.Nodes.Deed.{Acts, Submits}
use Rattle.world_rules.specs.Owners.{takes_reached}
use Rattle.world_rules.specs.Parts.{catches_up}
use Rattle.world_rules.specs.Worlds.{World}
use Rattle.world_law.specs.Grouped.{Comes}
use Rattle.world_law.proofs.Applied.{applied_due}
use Rattle.world_law.proofs.AtWork.{Reached, at_still, at_work, both_true, coordinated_is, if_true, noted_is, reach, row_is, submitted_is, ticked_is}
use Rattle.world_law.proofs.Maps.{at_here}
use Rattle.world_law.proofs.Still.{Others, Still, still_reached}

-- what the group's law says, in the parts that are used
pub record Laws : Type 0 where
  pub steps : StepsLaw Message
  pub forward : ForwardLaw Message
  pub worlds : AgreementLaw Message
  pub calls : ConditionsLaw Message
  pub sends : SendsLaw Message
  pub others : OthersLaw Message
  pub numbered : NumberedLaw Message
  pub packets : PacketsLaw Message

-- a node at work: the group came to this, it has noted no more than its copies applied, and these no more than is accepted
pub record Good (g : Group Message) (b : List (Event Message)) (w : World) (m : ℕ) (v : NodeWork) : Type 0 where
  pub reached : Reached g b (at_work g w m v)
  pub noted : v.node.member.applied ≤ v.node.copies.applied
  pub below : v.node.copies.applied ≤ v.node.member.accepted
  pub others : Others v.deeds

-- it has noted just what its copies applied
abbrev pub Level : NodeWork → Type 0
Level v = v.node.member.applied ≡ v.node.copies.applied

-- where the member and what the group remembers stay
pub good_still : {b : List (Event Message)} (g : Group Message) (w : World) (m : ℕ) (v u : NodeWork) → Still g m v u → Good g b w m v → Good g b w m u
good_still {b} g w m v u s h = record {
  reached = record { more = h.reached.more; run = at_still g w m v u s.member (s.past w.past) ∙ h.reached.run };
  noted = omega (arith, h.noted, ap (λ (z : Member Message). z.applied) s.member, s.applied);
  below = omega (arith, h.below, ap (λ (z : Member Message). z.accepted) s.member, s.applied);
  others = s.others h.others;
}

pub level_still : (g : Group Message) (m : ℕ) (v u : NodeWork) → Still g m v u → Level v → Level u
level_still g m v u s h = ap (λ (z : Member Message). z.applied) s.member ∙ h ∙ sym s.applied

-- ---- a step of the member in the group

others_join : (acts : List (Act Message)) (deeds : List Deed) → ToOthers acts → Others deeds → Others (map Acts acts ++ deeds)
others_join [] deeds to h = h
others_join (Act.Sends letter ∷ acts) deeds to h = (to.0, others_join acts deeds to.1 h)
others_join (Act.Keeps packet ∷ acts) deeds to h = others_join acts deeds to h
others_join (Act.Orders k x ∷ acts) deeds to h = others_join acts deeds to h
others_join (Act.Begins k log answers ∷ acts) deeds to h = others_join acts deeds to h

-- what an event that is no note leaves of the member's numbers
pub record Numbered_on (s t : Member Message) : Type 0 where
  pub applied : t.applied ≡ s.applied
  pub accepted : s.accepted ≤ t.accepted

abbrev IsNote : Event Message → Type 0
IsNote (Event.Note m n) = Unit {0}
IsNote (Event.Submit m x) = ⊥
IsNote (Event.Deliver which) = ⊥
IsNote (Event.Tick m) = ⊥
IsNote (Event.Coordinate m) = ⊥
IsNote (Event.Crash m) = ⊥

unnoted : (event : Event Message) (m n : ℕ) → (IsNote event → ⊥) → event ≡ Event.Note m n → ⊥
unnoted event m n none e = none (subst IsNote (sym e) tt)

-- what the law says of one more event
after_event : {b : List (Event Message)} (laws : Laws) (g : Group Message) (w v : GroupWorld Message) (event : Event Message) (m : ℕ) → 2 * g.resilience < g.nodes →
    Reached g b w → gnext g w event ≡ v → (IsNote event → ⊥) → Numbered_on (w.members m) (v.members m)
after_event {b} laws g w v event m small r is none =
    let events = b ++ r.more in
    let keeps : StepKeeps g w event = subst (λ z. StepKeeps g z event) (sym r.run) (laws.steps g small events event) in
    let goes : GoesOn w (gnext g w event) = subst (λ z. GoesOn z (gnext g z event)) (sym r.run) (laws.forward g small events (event ∷ [])) in
    let so : Numbered_on (w.members m) ((gnext g w event).members m) = record {
      applied = keeps.applied m (λ n e. unnoted event m n none e);
      accepted = (goes.forward m).accepted;
    } in
    subst (λ (z : GroupWorld Message). Numbered_on (w.members m) (z.members m)) is so

-- its members as they are at work
pub members_at : (g : Group Message) (w : World) (m : ℕ) (v : NodeWork) → (at_work g w m v).members m ≡ v.node.member
members_at g w m v = at_here (λ x. (w.nodes x).member) m v.node.member

low_of : (g : Group Message) (w : World) (m : ℕ) → (nat_lt m g.nodes && w.lives m) ≡ true → m < g.nodes
low_of g w m on = ltb-true m g.nodes (and_parts (nat_lt m g.nodes) (w.lives m) on).0

-- a step of the member that is an event of the group, but no note
good_joins : {b : List (Event Message)} (laws : Laws) (g : Group Message) (w : World) (m : ℕ) (v start : NodeWork) (work : Work Message) (event : Event Message) →
    2 * g.resilience < g.nodes → start.node ≡ v.node → Others start.deeds → gnext g (at_work g w m v) event ≡ at_work g w m (joins work start) →
    (IsNote event → ⊥) → ToOthers work.acts → Good g b w m v → Good g b w m (joins work start)
good_joins {b} laws g w m v start work event small same started is none to h =
    let n = after_event laws g (at_work g w m v) (at_work g w m (joins work start)) event m small h.reached is none in
    let before : (at_work g w m v).members m ≡ v.node.member = members_at g w m v in
    let behind : (at_work g w m (joins work start)).members m ≡ work.state = members_at g w m (joins work start) in
    let applied : work.state.applied ≡ v.node.member.applied =
    ap (λ (z : Member Message). z.applied) (sym behind) ∙ n.applied ∙ ap (λ (z : Member Message). z.applied) before in
    let copies : start.node.copies.applied ≡ v.node.copies.applied = ap (λ (z : Node). z.copies.applied) same in
    record {
      reached = subst (Reached g b) is (reach g (at_work g w m v) event h.reached);
      noted = omega (arith, applied, h.noted, copies);
      below = omega (arith, h.below, copies, n.accepted, ap (λ (z : Member Message). z.accepted) before, ap (λ (z : Member Message). z.accepted) behind);
      others = others_join work.acts start.deeds to started;
    }

-- and such a step leaves it level
level_joins : {b : List (Event Message)} (laws : Laws) (g : Group Message) (w : World) (m : ℕ) (v start : NodeWork) (work : Work Message) (event : Event Message) →
    2 * g.resilience < g.nodes → start.node ≡ v.node → gnext g (at_work g w m v) event ≡ at_work g w m (joins work start) →
    (IsNote event → ⊥) → Good g b w m v → Level v → Level (joins work start)
level_joins {b} laws g w m v start work event small same is none h level =
    let n = after_event laws g (at_work g w m v) (at_work g w m (joins work start)) event m small h.reached is none in
    ap (λ (z : Member Message). z.applied) (sym (members_at g w m (joins work start))) ∙ n.applied
    ∙ ap (λ (z : Member Message). z.applied) (members_at g w m v) ∙ level ∙ ap (λ (z : Node). z.copies.applied) (sym same)

rows_of : {b : List (Event Message)} (laws : Laws) (g : Group Message) (w : GroupWorld Message) → 2 * g.resilience < g.nodes → Reached g b w → RowsSend g w
rows_of {b} laws g w small r = subst (RowsSend g) (sym r.run) (laws.sends g small (b ++ r.more))

-- ---- a note

pub record Rounded (g : Group Message) (b : List (Event Message)) (w : World) (m : ℕ) (v : NodeWork) : Type 0 where
  pub good : Good g b w m v
  pub level : Level v

rounds_note : {b : List (Event Message)} (laws : Laws) (g : Group Message) (w : World) (m : ℕ) (v : NodeWork) → 2 * g.resilience < g.nodes →
    (nat_lt m g.nodes && w.lives m) ≡ true → Good g b w m v → Rounded g b w m (joins (note g m v.node.copies.applied v.node.member) v)
rounds_note {b} laws g w m v small on h =
    let n : ℕ = v.node.copies.applied in
    let may : may_apply v.node.member n ≡ true = both_true _ _ (le-leb _ _ h.noted) (le-leb _ _ h.below) in
    let now : GroupWorld Message = at_work g w m v in
    let u : NodeWork = joins (note g m n v.node.member) v in
    let is : gnext g now (Event.Note m n) ≡ at_work g w m u = noted_is g w m n v on may in
    let keeps : StepKeeps g now (Event.Note m n) = subst (λ z. StepKeeps g z (Event.Note m n)) (sym h.reached.run) (laws.steps g small (b ++ h.reached.more) (Event.Note m n)) in
    let goes : GoesOn now (gnext g now (Event.Note m n)) =
    subst (λ z. GoesOn z (gnext g z (Event.Note m n))) (sym h.reached.run) (laws.forward g small (b ++ h.reached.more) (Event.Note m n ∷ [])) in
    let here : now.members m ≡ v.node.member = members_at g w m v in
    let there : (at_work g w m u).members m ≡ u.node.member = members_at g w m u in
    let noted : ((gnext g now (Event.Note m n)).members m).applied ≡ n =
    keeps.noted m n refl on (ap (λ s. may_apply s n) here ∙ may) in
    let level : u.node.member.applied ≡ n = ap (λ (z : Member Message). z.applied) (sym there) ∙ ap (λ (z : GroupWorld Message). (z.members m).applied) (sym is) ∙ noted in
    let accepted : v.node.member.accepted ≤ u.node.member.accepted =
    subst (λ (s : Member Message). s.accepted ≤ u.node.member.accepted) here
    (subst (λ (s : Member Message). (now.members m).accepted ≤ s.accepted) there
    (subst (λ (z : GroupWorld Message). (now.members m).accepted ≤ (z.members m).accepted) is (goes.forward m).accepted)) in
    record {
      good = record {
        reached = subst (Reached g b) is (reach g now (Event.Note m n) h.reached);
        noted = omega (arith, level);
        below = omega (arith, h.below, accepted);
        others = others_join (note g m n v.node.member).acts v.deeds
            (laws.others g m (Use.Orders ∷ Use.Reports ∷ []) (note g m n v.node.member).acts
            ((rows_of laws g now small h.reached).note m n v.node.member (low_of g w m on))) h.others;
      };
      level = level;
    }

-- where the applied number rose
pub rounds_notes : {b : List (Event Message)} (laws : Laws) (f : Frame) (w : World) (m : ℕ) (v : NodeWork) → 2 * (group f).resilience < (group f).nodes →
    (nat_lt m (group f).nodes && w.lives m) ≡ true → Good (group f) b w m v → Rounded (group f) b w m (notes f m v)
rounds_notes {b} laws f w m v small on h = cond_both (nat_lt v.node.member.applied v.node.copies.applied) _ _ (λ u. Rounded (group f) b w m u)
    (λ e. rounds_note laws (group f) w m v small on h)
    (λ e. record { good = h; level = omega (arith, h.noted, ltb-false v.node.member.applied v.node.copies.applied e) })

-- ---- a member catches up

pub good_applies : {b : List (Event Message)} (f : Frame) (w : World) (m : ℕ) (v : NodeWork) → Good (group f) b w m v → Good (group f) b w m (applies f m v)
good_applies {b} f w m v h =
    let a = applied_due f (group f) m m v h.below in
    record {
      reached = record { more = h.reached.more; run = at_still (group f) w m v (applies f m v) a.member (a.past w.past) ∙ h.reached.run };
      noted = omega (arith, h.noted, ap (λ (z : Member Message). z.applied) a.member, a.least);
      below = omega (arith, h.below, ap (λ (z : Member Message). z.accepted) a.member, a.most);
      others = a.others h.others;
    }

pub rounds_round : {b : List (Event Message)} (laws : Laws) (f : Frame) (w : World) (m : ℕ) (v : NodeWork) → 2 * (group f).resilience < (group f).nodes →
    (nat_lt m (group f).nodes && w.lives m) ≡ true → Good (group f) b w m v → Rounded (group f) b w m (round f m v)
rounds_round {b} laws f w m v small on h = rounds_notes laws f w m (applies f m v) small on (good_applies f w m v h)

rounds_all : {b : List (Event Message)} (laws : Laws) (f : Frame) (w : World) (m : ℕ) (waiting : List (Waiting Message)) (v : NodeWork) →
    2 * (group f).resilience < (group f).nodes → (nat_lt m (group f).nodes && w.lives m) ≡ true → Good (group f) b w m v →
    Rounded (group f) b w m (rounds f m waiting v)
rounds_all {b} laws f w m [] v small on h = rounds_round laws f w m v small on h
rounds_all {b} laws f w m (one ∷ more) v small on h =
    rounds_all laws f w m more (round f m v) small on (rounds_round laws f w m v small on h).good

pub caught_up : {b : List (Event Message)} (laws : Laws) (f : Frame) (w : World) (m : ℕ) (v : NodeWork) → 2 * (group f).resilience < (group f).nodes →
    (nat_lt m (group f).nodes && w.lives m) ≡ true → Good (group f) b w m v → Rounded (group f) b w m (catches_up f m v)
caught_up {b} laws f w m v small on h =
    let r = rounds_all laws f w m v.node.member.waiting v small on h in
    let s : Still (group f) m (applies_all f m v) (takes_reached f m (applies_all f m v)) = still_reached f (group f) m m (applies_all f m v) in
    record {
      good = good_still (group f) w m (applies_all f m v) (takes_reached f m (applies_all f m v)) s r.good;
      level = level_still (group f) m (applies_all f m v) (takes_reached f m (applies_all f m v)) s r.level;
    }

-- ---- a tick, a suspicion, a submission

pub good_timer : {b : List (Event Message)} (laws : Laws) (g : Group Message) (w : World) (m : ℕ) (v : NodeWork) → 2 * g.resilience < g.nodes →
    (nat_lt m g.nodes && w.lives m) ≡ true → Good g b w m v → Good g b w m (joins (timer g m v.node.member) v)
good_timer {b} laws g w m v small on h =
    good_joins laws g w m v v (timer g m v.node.member) (Event.Tick m) small refl h.others (ticked_is g w m v on) (λ e. e)
    (laws.others g m (Use.Orders ∷ Use.Announces ∷ Use.Invites ∷ Use.Accepts ∷ Use.Asks ∷ Use.Reports ∷ []) (timer g m v.node.member).acts
    ((rows_of laws g (at_work g w m v) small h.reached).timer m v.node.member (low_of g w m on))) h

pub good_coordinate : {b : List (Event Message)} (laws : Laws) (g : Group Message) (w : World) (m : ℕ) (v : NodeWork) → 2 * g.resilience < g.nodes →
    (nat_lt m g.nodes && w.lives m) ≡ true → Good g b w m v → Good g b w m (joins (coordinate g m v.node.member) v)
good_coordinate {b} laws g w m v small on h =
    good_joins laws g w m v v (coordinate g m v.node.member) (Event.Coordinate m) small refl h.others (coordinated_is g w m v on) (λ e. e)
    (laws.others g m (Use.Orders ∷ Use.Announces ∷ Use.Invites ∷ []) (coordinate g m v.node.member).acts
    ((rows_of laws g (at_work g w m v) small h.reached).coordinate m v.node.member (low_of g w m on))) h

pub good_submit : {b : List (Event Message)} (laws : Laws) (g : Group Message) (w : World) (m : ℕ) (x : Message) (v : NodeWork) → 2 * g.resilience < g.nodes →
    (nat_lt m g.nodes && w.lives m) ≡ true → may_submit g (at_work g w m v) m x ≡ true → Good g b w m v →
    Good g b w m (joins (submit g m x v.node.member) (does (Submits x) v))
good_submit {b} laws g w m x v small on may h =
    good_joins laws g w m v (does (Submits x) v) (submit g m x v.node.member) (Event.Submit m x) small refl h.others
    (submitted_is g w m x v on may) (λ e. e)
    (laws.others g m (Use.Orders ∷ Use.Asks ∷ []) (submit g m x v.node.member).acts
    ((rows_of laws g (at_work g w m v) small h.reached).submit m x v.node.member (low_of g w m on))) h

-- ---- a letter comes

to_others : {b : List (Event Message)} (laws : Laws) (g : Group Message) (w : GroupWorld Message) (m from k : ℕ) (kind : Kind Message) → 2 * g.resilience < g.nodes →
    Reached g b w → m < g.nodes → Sent w.past.letters (record { inc = k; from = from; kind = kind }) → (from ≡ m → ⊥) →
    ToOthers (deliver_kind g m from k kind (w.members m)).acts
to_others {b} laws g w m from k kind small r low sent apart = by kind sent
  where
    rows : RowsSend g w
    rows = rows_of laws g w small r

    sender : (kind : Kind Message) → Sent w.past.letters (record { inc = k; from = from; kind = kind }) → from < g.nodes
    sender kind s = (subst (λ z. Conditions g z) (sym r.run) (laws.calls g small (b ++ r.more))).sender (record { inc = k; from = from; kind = kind }) s

    received : (kind : Kind Message) → Sent w.past.letters (record { inc = k; from = from; kind = kind }) →
        ToOthers (receive g m from k kind (w.members m)).acts
    received kind s = laws.others g m (Use.Orders ∷ Use.Accepts ∷ Use.Announces ∷ Use.Lacks ∷ Use.Acknowledges ∷ [])
        (receive g m from k kind (w.members m)).acts
        (rows.receive m from k kind (w.members m) low (sender kind s) apart)

    by : (kind : Kind Message) → Sent w.past.letters (record { inc = k; from = from; kind = kind }) →
        ToOthers (deliver_kind g m from k kind (w.members m)).acts
    by Invite s = laws.others g m (Use.Answers ∷ []) (invited g m from k (w.members m)).acts (rows.invited m from k (w.members m) low)
    by (Join report) s = laws.others g m (Use.Orders ∷ Use.Announces ∷ []) (joined g m from k report (w.members m)).acts (rows.joined m from k report (w.members m) low)
    by (News accepted base members log) s = laws.others g m (Use.Asks ∷ Use.Acknowledges ∷ [])
        (announced g m from k accepted base members log (w.members m)).acts (rows.announced m from k accepted base members log low s)
    by (Request applied x) s = received (Request applied x) s
    by (Body applied x) s = received (Body applied x) s
    by (Order number process call accepted stable) s = received (Order number process call accepted stable) s
    by (Entry number accepted stable x) s = received (Entry number accepted stable x) s
    by (Ack count applied) s = received (Ack count applied) s
    by (Accept accepted stable) s = received (Accept accepted stable) s
    by (Nack first applied whole) s = received (Nack first applied whole) s
    by (Status count applied) s = received (Status count applied) s

not_same : (b : Bool) → b ≡ false → not b ≡ true
not_same b e = ap not e

pub delivered_is : (laws : Laws) (g : Group Message) (w : World) (v : NodeWork) (letter : Letter Message) →
    (nat_lt letter.to g.nodes && w.lives letter.to) ≡ true → (letter.to ≡ letter.packet.from → ⊥) →
    (which : ℕ) → letter_number (at_work g w letter.to v).past.letters which ≡ Some letter →
    gnext g (at_work g w letter.to v) (Event.Deliver which) ≡ at_work g w letter.to (joins (deliver g letter.to letter.packet v.node.member) v)
delivered_is laws g w v letter on apart which found =
    ap (arrive g (at_work g w letter.to v)) found
    ∙ if_true _ _ _ (both_true _ _ on (not_same (letter.to == letter.packet.from) (ne_eqb letter.to letter.packet.from apart)))
    ∙ row_is g w letter.to v (λ s. deliver g letter.to letter.packet s)

pub good_deliver : {b : List (Event Message)} (laws : Laws) (g : Group Message) (w : World) (v : NodeWork) (letter : Letter Message) → 2 * g.resilience < g.nodes →
    (nat_lt letter.to g.nodes && w.lives letter.to) ≡ true → Comes (at_work g w letter.to v).past.letters letter → Good g b w letter.to v →
    Good g b w letter.to (joins (deliver g letter.to letter.packet v.node.member) v)
good_deliver {b} laws g w v letter small on comes h =
    let now : GroupWorld Message = at_work g w letter.to v in
    let n = (laws.numbered now.past.letters).number letter comes.sent in
    let acts : ToOthers (deliver g letter.to letter.packet v.node.member).acts =
    subst (λ s. ToOthers (deliver g letter.to letter.packet s).acts) (members_at g w letter.to v)
    (to_others laws g now letter.to letter.packet.from letter.packet.inc letter.packet.kind small h.reached (low_of g w letter.to on)
    (laws.packets now.past.letters letter comes.sent) (λ e. comes.other (sym e))) in
    good_joins laws g w letter.to v v (deliver g letter.to letter.packet v.node.member) (Event.Deliver n.0) small refl h.others
    (delivered_is laws g w v letter on comes.other n.0 n.2) (λ e. e) acts h
