-- What the group says at each moment of an event.
use Rattle.std.proofs.Common.{◌≡◌, ◌≤◌, ◌<◌, ◌*◌, ℕ, zero, suc, min, true, List, [], ◌∷◌, ◌++◌, Some, length, take, slice_get, refl, sym, ap, ◌∙◌, subst, arith, inl, inr, nat_lt}
use Rattle.std.proofs.lemmas.Bool.{cond_both, le-leb}
use Rattle.group_law.specs.Agreed.{GoesOn}
use Rattle.group_rules.specs.Steps.{deliver, note, submit, timer}
use Rattle.group_rules.specs.Reset.{coordinate}
use Rattle.world_rules.specs.Nodes.Deed.{Submits}
use Rattle.value_core.specs.declared.message.Message.{Message}
use Rattle.group_rules.specs.Agree.{Agree}
use Rattle.group_rules.specs.Member.{Member, Letter}
use Rattle.group_rules.specs.Messages.{Group, Rises}
use Rattle.group_rules.specs.Sets.{In, Same}
use Rattle.group_rules.specs.World.{GroupWorld, list_of, may_submit, gnext, Event}
use Rattle.group_law.specs.Messages.{Messages, MessagesLaw}
use Rattle.group_law.specs.Promise.{Lasting, LastingLaw}
use Rattle.world_rules.specs.Applying.{applies_one, notes}
use Rattle.world_rules.specs.Frame.{Frame, group}
use Rattle.world_rules.specs.Nodes.{Node, NodeWork, idle, past_after, does, joins}
use Rattle.world_rules.specs.Steps.{untouched}
use Rattle.world_rules.specs.Worlds.{World, group_world}
use Rattle.world_law.specs.Grouped.{Grouped, Comes}
use Rattle.world_law.specs.Moments.{IsMoment, Knows, Others, MembersAgree, MomentsHold, world_at, Lives}
use Rattle.world_law.proofs.Applied.{Applied, applied_one}
use Rattle.world_law.proofs.AtWork.{at_work, Reached, at_still, both_true, coordinated_is, noted_is, submitted_is, ticked_is}
use Rattle.world_law.proofs.Events.{start_good, world_is}
use Rattle.world_law.proofs.Grouping.{Good, Laws, good_coordinate, good_deliver, good_submit, good_timer, rounds_notes, delivered_is, members_at}
use Rattle.world_law.proofs.Maps.{at_both}

-- the law of messages, and of what lasts, too
pub record MoreLaws : Type 0 where
  pub laws : Laws
  pub messages : MessagesLaw Message
  pub lasting : LastingLaw Message

-- ---- lists

got_take : {A : Type 0} (xs : List A) (n i : ℕ) → i < n → slice_get (take n xs) i ≡ slice_get xs i
got_take xs zero i less = absurd (omega (arith, less))
got_take [] (suc n) i less = refl
got_take (x ∷ xs) (suc n) zero less = refl
got_take (x ∷ xs) (suc n) (suc i) less = got_take xs n i (omega (arith, less))

got_less : {A : Type 0} (xs : List A) (n : ℕ) (x : A) → slice_get xs n ≡ Some x → n < length xs
got_less [] n x is = absurd (cc is)
got_less (y ∷ xs) zero x is = omega arith
got_less (y ∷ xs) (suc n) x is = let less = got_less xs n x is in omega (arith, less)

got_in : {A : Type 0} (xs : List A) (n : ℕ) (x : A) → slice_get xs n ≡ Some x → In x xs
got_in [] n x is = absurd (cc is)
got_in (y ∷ xs) zero x is = inl (let same : x ≡ y = cc in same)
got_in (y ∷ xs) (suc n) x is = inr (got_in xs n x is)

-- what begins so has the same at each number
got_same : {A : Type 0} (n i : ℕ) (xs ys : List A) → Same n xs ys → i < n → slice_get xs i ≡ slice_get ys i
got_same n i xs ys same less = sym (got_take xs n i less) ∙ ap (λ zs. slice_get zs i) same.is ∙ got_take ys n i less

-- with rising calls a message stands there once
rises_once : {M : Type 0} (g : Group M) (xs : List M) (n k : ℕ) (x : M) → Rises g xs → slice_get xs n ≡ Some x → slice_get xs k ≡ Some x → n ≡ k
rises_once g [] n k x rises one two = absurd (cc one)
rises_once g (y ∷ xs) zero zero x rises one two = refl
rises_once g (y ∷ xs) zero (suc k) x rises one two =
    let same : y ≡ x = cc in
    let less = rises.0 x (got_in xs k x two) (ap g.process same) in
    let more : g.call y ≡ g.call x = ap g.call same in
    absurd (omega (arith, less, more))
rises_once g (y ∷ xs) (suc n) zero x rises one two =
    let same : y ≡ x = cc in
    let less = rises.0 x (got_in xs n x one) (ap g.process same) in
    let more : g.call y ≡ g.call x = ap g.call same in
    absurd (omega (arith, less, more))
rises_once g (y ∷ xs) (suc n) (suc k) x rises one two = ap suc (rises_once g xs n k x rises.1 one two)

-- ---- members of a group that came to this

-- the entry stands in the list of the member's incarnation
listed : (g : Group Message) (w : GroupWorld Message) (m n : ℕ) (x : Message) → Agree g w → slice_get (w.members m).log n ≡ Some x →
    slice_get (list_of w.past (w.members m).installed) n ≡ Some x
listed g w m n x agree is =
    sym (got_same (length (w.members m).log) n (w.members m).log (list_of w.past (w.members m).installed) ((agree.holds m).log)
    (got_less (w.members m).log n x is)) ∙ is

same_entry : (more : MoreLaws) (g : Group Message) (w : GroupWorld Message) → 2 * g.resilience < g.nodes → Reached g [] w →
    (m k n : ℕ) (x y : Message) → Knows (w.members m) n x → Knows (w.members k) n y → x ≡ y
same_entry more g w small r m k n x y one two =
    let lasting : Lasting g w w = subst (λ z. Lasting g z z) (sym r.run) (more.lasting g small r.more []) in
    let e : Some x ≡ Some y =
    sym one.there ∙ got_same (min (w.members m).accepted (w.members k).accepted) n (w.members m).log (w.members k).log (lasting.members m k)
    (omega (arith, one.accepted, two.accepted)) ∙ two.there in
    let f : x ≡ y = cc in f

agree_at : (more : MoreLaws) (g : Group Message) (w : GroupWorld Message) → 2 * g.resilience < g.nodes → Reached g [] w → Agree g w
agree_at more g w small r = subst (Agree g) (sym r.run) (more.laws.worlds g small r.more)

once_entry : (more : MoreLaws) (g : Group Message) (w : GroupWorld Message) → 2 * g.resilience < g.nodes → Reached g [] w →
    (m n k : ℕ) (x : Message) → Knows (w.members m) n x → Knows (w.members m) k x → n ≡ k
once_entry more g w small r m n k x one two =
    let agree = agree_at more g w small r in
    rises_once g (list_of w.past (w.members m).installed) n k x (agree.in_order.rising (w.members m).installed (agree.holds m).up)
    (listed g w m n x agree one.there) (listed g w m k x agree two.there)

submitted_entry : (more : MoreLaws) (g : Group Message) (w : GroupWorld Message) → 2 * g.resilience < g.nodes → Reached g [] w →
    (m n : ℕ) (x : Message) → Knows (w.members m) n x → In x (w.past.submitted (g.process x))
submitted_entry more g w small r m n x one =
    let agree = agree_at more g w small r in
    let messages : Messages g w = subst (Messages g) (sym r.run) (more.messages g small r.more) in
    messages.listed (w.members m).installed x (agree.holds m).up
    (got_in (list_of w.past (w.members m).installed) n x (listed g w m n x agree one.there))

-- ---- at a moment of an event

reached_at : (f : Frame) (w : World) (m : ℕ) (v : NodeWork) → IsMoment f w m v → Reached (group f) [] (group_world (world_at f w m v))
reached_at f w m v h = record { more = h.events; run = h.run }

good_of : (f : Frame) (w : World) (m : ℕ) (v : NodeWork) → IsMoment f w m v → Good (group f) [] w m v
good_of f w m v h = record {
  reached = record { more = h.events; run = sym (world_is f m v (untouched w)) ∙ h.run };
  noted = h.noted;
  below = h.below;
  others = h.others;
}

pub moment_of : (f : Frame) (w : World) (m : ℕ) (v : NodeWork) → Good (group f) [] w m v → IsMoment f w m v
moment_of f w m v h = record {
  events = h.reached.more;
  run = world_is f m v (untouched w) ∙ h.reached.run;
  noted = h.noted;
  below = h.below;
  others = h.others;
}

pub facts : (more : MoreLaws) (f : Frame) → 2 * (group f).resilience < (group f).nodes → (w : World) (m : ℕ) (v : NodeWork) → Grouped f w →
    IsMoment f w m v → MembersAgree (world_at f w m v)
facts more f small w m v grouped h =
    let r = reached_at f w m v h in
    let before : Agree (group f) (group_world w) = subst (Agree (group f)) (sym grouped.run) (more.laws.worlds (group f) small grouped.events) in
    record {
      noted = λ k. at_both w.nodes m v.node k (λ (n : Node). n.member.applied ≤ n.copies.applied) (λ e. h.noted) (λ no. omega (arith, grouped.level k));
      within = λ k. at_both w.nodes m v.node k (λ (n : Node). n.copies.applied ≤ n.member.accepted) (λ e. h.below)
          (λ no. omega (arith, grouped.level k, (before.holds k).applied));
      same = same_entry more (group f) (group_world (world_at f w m v)) small r;
      once = once_entry more (group f) (group_world (world_at f w m v)) small r;
      submitted = submitted_entry more (group f) (group_world (world_at f w m v)) small r;
    }

moment_start : (more : MoreLaws) (f : Frame) → 2 * (group f).resilience < (group f).nodes → (w : World) (m : ℕ) → Grouped f w →
    IsMoment f w m (idle (w.nodes m))
moment_start more f small w m grouped =
    let h = start_good more.laws f w m small grouped in
    moment_of f w m (idle (w.nodes m)) (record {
      reached = record { more = grouped.events ++ h.reached.more; run = h.reached.run };
      noted = h.noted;
      below = h.below;
      others = h.others;
    })

moment_stays : (f : Frame) (w : World) (m : ℕ) (v u : NodeWork) → IsMoment f w m v → u.node.member ≡ v.node.member →
    past_after (group f) m u.deeds w.past ≡ past_after (group f) m v.deeds w.past → u.node.copies.applied ≡ v.node.copies.applied →
    Others u.deeds → IsMoment f w m u
moment_stays f w m v u h member past applied others =
    let g = good_of f w m v h in
    moment_of f w m u (record {
      reached = record { more = g.reached.more; run = at_still (group f) w m v u member past ∙ g.reached.run };
      noted = omega (arith, h.noted, applied, ap (λ (z : Member Message). z.applied) member);
      below = omega (arith, h.below, applied, ap (λ (z : Member Message). z.accepted) member);
      others = others;
    })

moment_applies : (f : Frame) (w : World) (m : ℕ) (x : Message) (v : NodeWork) → IsMoment f w m v →
    v.node.copies.applied < v.node.member.accepted → IsMoment f w m (applies_one f m x v)
moment_applies f w m x v h less =
    let g = good_of f w m v h in
    let a : Applied (group f) m 1 v (applies_one f m x v) = applied_one f (group f) m m x v in
    moment_of f w m (applies_one f m x v) (record {
      reached = record { more = g.reached.more; run = at_still (group f) w m v (applies_one f m x v) a.member (a.past w.past) ∙ g.reached.run };
      noted = omega (arith, h.noted, a.least, ap (λ (z : Member Message). z.applied) a.member);
      below = omega (arith, less, a.most, ap (λ (z : Member Message). z.accepted) a.member);
      others = a.others h.others;
    })

-- ---- what the copies applied stays in the log

less_same : {A : Type 0} (n k : ℕ) (xs ys : List A) → k ≤ n → take n xs ≡ take n ys → take k xs ≡ take k ys
less_same zero zero xs ys le same = refl
less_same zero (suc k) xs ys le same = absurd (omega (arith, le))
less_same (suc n) zero xs ys le same = refl
less_same (suc n) (suc k) [] [] le same = refl
less_same (suc n) (suc k) [] (y ∷ ys) le same = let e : [] ≡ y ∷ take n ys = same in absurd (cc e)
less_same (suc n) (suc k) (x ∷ xs) [] le same = let e : x ∷ take n xs ≡ [] = same in absurd (cc e)
less_same (suc n) (suc k) (x ∷ xs) (y ∷ ys) le same =
    let e : x ∷ take n xs ≡ y ∷ take n ys = same in
    let head : x ≡ y = cc in
    let rest : take n xs ≡ take n ys = cc in
    ap (λ z. z ∷ take k xs) head ∙ ap (λ zs. y ∷ zs) (less_same n k xs ys (omega (arith, le)) rest)

-- by one event of the group, where the copies applied accepted entries alone
pub kept_by : (more : MoreLaws) (f : Frame) → 2 * (group f).resilience < (group f).nodes → (w : World) (m : ℕ) (v u : NodeWork) (event : Event Message) →
    Good (group f) [] w m v → gnext (group f) (at_work (group f) w m v) event ≡ at_work (group f) w m u →
    take v.node.copies.applied u.node.member.log ≡ take v.node.copies.applied v.node.member.log
kept_by more f small w m v u event h is =
    let g = group f in
    let one : GroupWorld Message = at_work g w m v in
    let lasting : Lasting g one (gnext g one event) =
    subst (λ z. Lasting g z (gnext g z event)) (sym h.reached.run) (more.lasting g small h.reached.more (event ∷ [])) in
    let goes : GoesOn one (gnext g one event) =
    subst (λ z. GoesOn z (gnext g z event)) (sym h.reached.run) (more.laws.forward g small h.reached.more (event ∷ [])) in
    let same : Same (min (one.members m).accepted ((gnext g one event).members m).accepted) (one.members m).log ((gnext g one event).members m).log =
    lasting.members m m in
    let here : one.members m ≡ v.node.member = members_at g w m v in
    let there : (gnext g one event).members m ≡ u.node.member = ap (λ (z : GroupWorld Message). z.members m) is ∙ members_at g w m u in
    let low : v.node.copies.applied ≤ min (one.members m).accepted ((gnext g one event).members m).accepted =
    omega (arith, h.below, ap (λ (z : Member Message). z.accepted) here, (goes.forward m).accepted) in
    let e : take v.node.copies.applied (one.members m).log ≡ take v.node.copies.applied ((gnext g one event).members m).log =
    less_same _ v.node.copies.applied (one.members m).log ((gnext g one event).members m).log low same.is in
    ap (λ (z : Member Message). take v.node.copies.applied z.log) (sym there) ∙ sym e
    ∙ ap (λ (z : Member Message). take v.node.copies.applied z.log) here

pub kept_notes : (more : MoreLaws) (f : Frame) → 2 * (group f).resilience < (group f).nodes → (w : World) (m : ℕ) (v : NodeWork) → Lives f w m →
    Good (group f) [] w m v →
    take v.node.copies.applied (notes f m v).node.member.log ≡ take v.node.copies.applied v.node.member.log
kept_notes more f small w m v on h = cond_both (nat_lt v.node.member.applied v.node.copies.applied) _ _
    (λ (u : NodeWork). take v.node.copies.applied u.node.member.log ≡ take v.node.copies.applied v.node.member.log)
    (λ e. kept_by more f small w m v (joins (note (group f) m v.node.copies.applied v.node.member) v) (Event.Note m v.node.copies.applied) h
    (noted_is (group f) w m v.node.copies.applied v on (both_true _ _ (le-leb _ _ h.noted) (le-leb _ _ h.below))))
    (λ e. refl)

kept_member : (v u : NodeWork) → u.node.member ≡ v.node.member → take v.node.copies.applied u.node.member.log ≡ take v.node.copies.applied v.node.member.log
kept_member v u same = ap (λ (z : Member Message). take v.node.copies.applied z.log) same

pub kept_delivers : (more : MoreLaws) (f : Frame) → 2 * (group f).resilience < (group f).nodes → (w : World) (v : NodeWork) (letter : Letter Message) →
    Lives f w letter.to → Comes (past_after (group f) letter.to v.deeds w.past).letters letter → Good (group f) [] w letter.to v →
    take v.node.copies.applied (deliver (group f) letter.to letter.packet v.node.member).state.log ≡ take v.node.copies.applied v.node.member.log
kept_delivers more f small w v letter on comes h =
    let n = (more.laws.numbered (at_work (group f) w letter.to v).past.letters).number letter comes.sent in
    kept_by more f small w letter.to v (joins (deliver (group f) letter.to letter.packet v.node.member) v) (Event.Deliver n.0) h
    (delivered_is more.laws (group f) w v letter on comes.other n.0 n.2)

pub moments_hold : (more : MoreLaws) (f : Frame) → 2 * (group f).resilience < (group f).nodes → MomentsHold f
moments_hold more f small = record {
  start = moment_start more f small;
  facts = facts more f small;
  stays = λ w m v u h member past applied others. record { moment = moment_stays f w m v u h member past applied others; kept = kept_member v u member };
  applies = λ w m x v h less. record { moment = moment_applies f w m x v h less; kept = kept_member v (applies_one f m x v) (applied_one f (group f) m m x v).member };
  notes = λ w m v on h. record {
    moment = moment_of f w m _ (rounds_notes more.laws f w m v small on (good_of f w m v h)).good;
    kept = kept_notes more f small w m v on (good_of f w m v h);
  };
  ticks = λ w m v on h. record {
    moment = moment_of f w m _ (good_timer more.laws (group f) w m v small on (good_of f w m v h));
    kept = kept_by more f small w m v (joins (timer (group f) m v.node.member) v) (Event.Tick m) (good_of f w m v h) (ticked_is (group f) w m v on);
  };
  coordinates = λ w m v on h. record {
    moment = moment_of f w m _ (good_coordinate more.laws (group f) w m v small on (good_of f w m v h));
    kept = kept_by more f small w m v (joins (coordinate (group f) m v.node.member) v) (Event.Coordinate m) (good_of f w m v h)
        (coordinated_is (group f) w m v on);
  };
  submits = λ w m x v on may h.
      let allowed : may_submit (group f) (at_work (group f) w m v) m x ≡ true =
      subst (λ z. may_submit (group f) z m x ≡ true) (world_is f m v (untouched w)) may in
      record {
        moment = moment_of f w m _ (good_submit more.laws (group f) w m x v small on allowed (good_of f w m v h));
        kept = kept_by more f small w m v (joins (submit (group f) m x v.node.member) (does (Submits x) v)) (Event.Submit m x) (good_of f w m v h)
            (submitted_is (group f) w m x v on allowed);
      };
  delivers = λ w v letter on comes h. record {
    moment = moment_of f w letter.to _ (good_deliver more.laws (group f) w v letter small on comes (good_of f w letter.to v h));
    kept = kept_delivers more f small w v letter on comes (good_of f w letter.to v h);
  };
}
