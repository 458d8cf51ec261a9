-- A faultless step that is no tick leads from a world that is tied to moves to one that is.
use Rattle.std.proofs.Common.{◌≡◌, ◌<◌, ◌+◌, ℕ, suc, Bool, true, is_some, List, ◌∷◌, ◌++◌, length, Option, Some, None, refl, sym, ap, ◌∙◌, arith, subst, nat_lt}
use Rattle.std.specs.Prelude.{IsTrue}
use Rattle.std.proofs.lemmas.Bool.{and_parts, cond_both, lt-ltb}
use Rattle.value_core.specs.declared.message.Message.{Message}
use Rattle.group_rules.specs.Member.{Letter}
use Rattle.group_bound.specs.Flow.{Move, flow, opening_flow}
use Rattle.group_bound.specs.Enough.{Every, Usual}
use Rattle.net_rules.specs.declared.flight.Flight.{Flight}
use Rattle.net_rules.specs.Flights.{ready_copy}
use Rattle.world_rules.specs.declared.event.Event as world
use Rattle.world_rules.specs.declared.event.Event.TheVariants as event
use Rattle.world_rules.specs.declared.event.Step.{Step}
use Rattle.world_rules.specs.Frame.{Frame, group}
use Rattle.world_rules.specs.Mail.{Carried, Mail, bytes_in, is_whole, is_whole_at, posted, receiver_of}
use Rattle.world_rules.specs.Nodes.{Node, NodeWork, idle, mails_of}
use Rattle.world_rules.specs.Owners.{arrives}
use Rattle.world_rules.specs.Parts.{acts_of, catches_up, computes, receives_mail}
use Rattle.world_rules.specs.Steps.{AtWork, Known, Next, Possible, after_part, closes, comes, comes_whole, delivers, happens, lives_in, posts_all, untouched}
use Rattle.world_rules.specs.Worlds.{World, group_world, home_of}
use Rattle.world_law.specs.CaughtUp.{RoundsEnd}
use Rattle.world_law.specs.Grouped.{AllFly, Come, Grouped}
use Rattle.world_law.specs.Grouped.{Submits as MayAll}
use Rattle.world_law.specs.Moments.{Lives, MomentsHold}
use Rattle.world_enough.proofs.Flowing.{FlowLaw}
use Rattle.world_facts.specs.Passing.{AllPass}
use Rattle.world_enough.specs.Faultless.{IsFaultless, IsFirst, IsPlain, IsTick, delivers_by}
use Rattle.world_enough.specs.Tie.{AreCalm, IsCalm, Tied, letters_of, with_letter}
use Rattle.world_law.proofs.AtWork.{both_true, if_true, world_of}
use Rattle.world_enough.proofs.Posting.{Head, Posts, first_is, posts_each, sent_is}
use Rattle.world_law.proofs.Still.{still_arrives, still_on, still_performed}
use Rattle.world_enough.proofs.Tying.{Stands, Works, stands_acts, stands_delivered, stands_on, starts, works_catches, works_on, world_is}

-- ---- how many of the group's letters, and how many Asks and Answers, an event delivers

abbrev pub letters_by : Mail → ℕ
letters_by (Mail.Grouped letter) = 1
letters_by (Mail.Sends incarnation from to errand) = 0

abbrev pub errands_by : Mail → ℕ
errands_by (Mail.Grouped letter) = 0
errands_by (Mail.Sends incarnation from to errand) = 1

abbrev pub letters_found : Option (Flight Carried) → ℕ
letters_found None = 0
letters_found (Some flight) = letters_by flight.packet.mail

abbrev pub errands_found : Option (Flight Carried) → ℕ
errands_found None = 0
errands_found (Some flight) = errands_by flight.packet.mail

abbrev pub letters_come : World → world.Event → ℕ
letters_come w (event.Deliver packet copy) = letters_found (ready_copy packet copy w.flights)
letters_come w (event.Burst process place turns) = 0
letters_come w (event.Act process) = 0
letters_come w event.Tick = 0
letters_come w (event.Crash node) = 0
letters_come w (event.Suspect node) = 0
letters_come w event.Swap = 0

abbrev pub errands_come : World → world.Event → ℕ
errands_come w (event.Deliver packet copy) = errands_found (ready_copy packet copy w.flights)
errands_come w (event.Burst process place turns) = 0
errands_come w (event.Act process) = 0
errands_come w event.Tick = 0
errands_come w (event.Crash node) = 0
errands_come w (event.Suspect node) = 0
errands_come w event.Swap = 0

one_of : (mail : Mail) → 1 ≡ letters_by mail + errands_by mail
one_of (Mail.Grouped letter) = refl
one_of (Mail.Sends incarnation from to errand) = refl

found_of : (o : Option (Flight Carried)) → IsTrue (is_some o) → 1 ≡ letters_found o + errands_found o
found_of None some = absurd (cc some)
found_of (Some flight) some = one_of flight.packet.mail

pub all_of : (f : Frame) (w : World) (e : world.Event) (given : Known e) → Possible f w e given → delivers_by e ≡ letters_come w e + errands_come w e
all_of f w (event.Deliver packet copy) given may = found_of (ready_copy packet copy w.flights) may
all_of f w (event.Burst process place turns) given may = refl
all_of f w (event.Act process) given may = refl
all_of f w event.Tick given may = refl
all_of f w (event.Crash node) given may = refl
all_of f w (event.Suspect node) given may = refl
all_of f w event.Swap given may = refl

pub record Laws (f : Frame) : Type 0 where
  pub ends : RoundsEnd f
  pub moments : MomentsHold f
  pub homes : (w : World) (i : ℕ) → home_of f w i < f.settings.nodes
  pub enough : FlowLaw (group f)

-- ---- a member did its part, and its letters are posted

group_same : (u v : World) → v.nodes ≡ u.nodes → v.lives ≡ u.lives → v.past ≡ u.past → group_world v ≡ group_world u
group_same u v nodes lives past =
    ap (λ (n : ℕ → Node). world_of (λ m. (n m).member) v.lives v.past) nodes
    ∙ ap (λ l. world_of (λ m. (u.nodes m).member) l v.past) lives
    ∙ ap (λ p. world_of (λ m. (u.nodes m).member) u.lives p) past

closing : (f : Frame) (w start : World) (step : Step) (m d : ℕ) (v : NodeWork) → AllPass step.fates → length step.fates ≡ length (mails_of v.deeds) →
    AreCalm start.sent start.flights → ((k : ℕ) → start.lives k ≡ true) → Works f start m (letters_of start.flights) d v →
    Tied f (closes f w step (after_part f m v (untouched start))) d
closing f w start step m d v pass few calm lives h =
    let u : World = (after_part f m v (untouched start)).world in
    let t : World = posts_all f u (mails_of v.deeds) step.fates in
    let p : Posts f u t (mails_of v.deeds) = posts_each f u (mails_of v.deeds) step.fates pass few calm in
    record {
      moves = h.made;
      world = h.world ∙ sym (world_is f start m v) ∙ sym (group_same u t p.nodes p.lives p.past);
      queue = h.queue ∙ ap (λ z. letters_of start.flights ++ z) (sym (sent_is v.deeds)) ∙ sym p.letters;
      calm = p.calm;
      delivered = h.delivered;
      lives = λ k. ap (λ (l : ℕ → Bool). l k) p.lives ∙ lives k;
    }

-- ---- a letter comes

low_of : {f : Frame} (laws : Laws f) (m : ℕ) → m < f.settings.nodes → (w : World) → ((k : ℕ) → w.lives k ≡ true) → Lives f w m
low_of {f} laws m low w lives = both_true (nat_lt m f.settings.nodes) (w.lives m) (lt-ltb m f.settings.nodes low) (lives m)

pub whole_is : (f : Frame) (one : Carried) → one.cut ≡ None → is_whole f.settings.nodes one ≡ true
whole_is f one e = ap (is_whole_at (bytes_in (posted f.settings.nodes one.mail).packet)) e

nothing : (f : Frame) (w : World) (step : Step) (u : AtWork) (d : ℕ) → Tied f (closes f w step u) d → Tied f (closes f w step u) (0 + d)
nothing f w step u d h = subst (λ (k : ℕ). Tied f (closes f w step u) k) (let e : d ≡ 0 + d = omega arith in e) h

one_more_of : (f : Frame) (w : World) (step : Step) (u : AtWork) (d : ℕ) → Tied f (closes f w step u) (suc d) → Tied f (closes f w step u) (1 + d)
one_more_of f w step u d h = subst (λ (k : ℕ). Tied f (closes f w step u) k) (let e : suc d ≡ 1 + d = omega arith in e) h

-- a letter of the group is a move; an Ask or an Answer leaves the group
coming : (f : Frame) (w start : World) (step : Step) (mail : Mail) (d : ℕ) (made : List (Move Message)) → Laws f → Grouped f start →
    Come start.past.letters mail → AllPass step.fates → length step.fates ≡ length (comes f start mail).mails → AreCalm start.sent start.flights →
    ((k : ℕ) → start.lives k ≡ true) → (flow (group f) opening_flow made).world ≡ group_world start →
    (flow (group f) opening_flow made).queue ≡ with_letter mail (letters_of start.flights) → (flow (group f) opening_flow made).delivered ≡ d →
    Tied f (closes f w step (comes f start mail)) (letters_by mail + d)
coming f w start step (Mail.Grouped letter) d made laws grouped come pass few calm lives world queue delivered =
    let usual = (laws.enough made).smooth.letters in
    let first = subst (λ q. Every (Usual (group f)) q) queue usual in
    let on : Lives f start letter.to = low_of laws letter.to first.0.to start lives in
    let v : NodeWork = receives_mail f letter.to (Mail.Grouped letter) (idle (start.nodes letter.to)) in
    let s = stands_delivered f start (letters_of start.flights) d letter made laws.moments on grouped come world queue delivered in
    let k = works_catches f start letter.to (letters_of start.flights) (suc d) v laws.ends (and_parts (nat_lt letter.to f.settings.nodes) (start.lives letter.to) on).0
    (laws.ends.moments start letter.to v s.moment) s.works in
    let is : comes f start (Mail.Grouped letter) ≡ after_part f letter.to (catches_up f letter.to v) (untouched start) = if_true _ _ _ on in
    subst (λ u. Tied f (closes f w step u) (1 + d)) (sym is)
    (one_more_of f w step (after_part f letter.to (catches_up f letter.to v) (untouched start)) d
    (closing f w start step letter.to (suc d) (catches_up f letter.to v) pass (few ∙ ap (λ (u : AtWork). length u.mails) is) calm lives k))
coming f w start step (Mail.Sends incarnation from to errand) d made laws grouped come pass few calm lives world queue delivered =
    cond_both (lives_in f start to) (after_part f to (catches_up f to v) (untouched start)) (untouched start) (λ (u : AtWork). length step.fates ≡ length u.mails → Tied f (closes f w step u) (0 + d))
    (λ on few. nothing f w step (after_part f to (catches_up f to v) (untouched start)) d (closing f w start step to d (catches_up f to v) pass few calm lives
    (works_catches f start to (letters_of start.flights) d v laws.ends (and_parts (nat_lt to f.settings.nodes) (start.lives to) on).0 (laws.ends.moments start to v s.moment) s.works)))
    (λ off few. nothing f w step (untouched start) d (record { moves = made; world = world; queue = queue; delivered = delivered; calm = calm; lives = lives })) few
  where
    v : NodeWork
    v = arrives errand (idle (start.nodes to))

    s : Stands f start to (letters_of start.flights) d v
    s = stands_on f start to (letters_of start.flights) d (idle (start.nodes to)) v laws.moments (still_arrives (group f) to errand (idle (start.nodes to)))
        (starts f start to (letters_of start.flights) d made laws.moments grouped world queue delivered)

-- ---- a step

calm_tail : (n : ℕ) (flight : Flight Carried) (others flights : List (Flight Carried)) → flights ≡ flight ∷ others → AreCalm n flights →
    IsCalm n flight × AreCalm n others
calm_tail n flight others flights e h = subst (AreCalm n) e h

fly_tail : (letters : List (Letter Message)) (flight : Flight Carried) (others flights : List (Flight Carried)) → flights ≡ flight ∷ others → AllFly letters flights →
    Come letters flight.packet.mail × AllFly letters others
fly_tail letters flight others flights e h = subst (AllFly letters) e h

pub head_is : (f : Frame) (w : World) (number copy : ℕ) (head : Head w.flights number copy) → AreCalm w.sent w.flights → delivers f w number copy ≡ comes f (record w { flights = head.others }) head.flight.packet.mail
head_is f w number copy head calm =
    let start : World = record w { flights = head.others } in
    ap (λ z. comes_whole f (record w { flights = z }) (ready_copy number copy w.flights)) head.left
    ∙ ap (λ z. comes_whole f start z) head.found
    ∙ if_true _ _ _ (whole_is f head.flight.packet (calm_tail w.sent head.flight head.others w.flights head.is calm).0.whole)

delivering : (f : Frame) (w : World) (step : Step) (number copy d : ℕ) → Laws f → Grouped f w → Tied f w d → Head w.flights number copy → AllPass step.fates →
    length step.fates ≡ length (delivers f w number copy).mails → Tied f (closes f w step (delivers f w number copy)) (letters_found (ready_copy number copy w.flights) + d)
delivering f w step number copy d laws grouped tied head pass few =
    let start : World = record w { flights = head.others } in
    let c = calm_tail w.sent head.flight head.others w.flights head.is tied.calm in
    let y = fly_tail w.past.letters head.flight head.others w.flights head.is grouped.travels in
    let g : Grouped f start = record { events = grouped.events; run = grouped.run; level = grouped.level; travels = y.1 } in
    let is : delivers f w number copy ≡ comes f start head.flight.packet.mail = head_is f w number copy head tied.calm in
    subst (λ u. Tied f (closes f w step u) (letters_found (ready_copy number copy w.flights) + d)) (sym is)
    (subst (λ (o : Option (Flight Carried)). Tied f (closes f w step (comes f start head.flight.packet.mail)) (letters_found o + d)) (sym head.found)
    (coming f w start step head.flight.packet.mail d tied.moves laws g y.0 pass (few ∙ ap (λ (u : AtWork). length u.mails) is) c.1 tied.lives tied.world
    (tied.queue ∙ ap letters_of head.is) tied.delivered))

-- what is in flight after an event
calm_comes : (f : Frame) (start : World) (mail : Mail) → AreCalm start.sent start.flights → AreCalm (comes f start mail).world.sent (comes f start mail).world.flights
calm_comes f start mail calm = cond_both (lives_in f start (receiver_of mail)) _ _ (λ (u : AtWork). AreCalm u.world.sent u.world.flights) (λ e. calm) (λ e. calm)

pub calm_event : (f : Frame) (w : World) (e : world.Event) (given : Known e) → AreCalm w.sent w.flights → IsPlain e → IsFirst w e → (IsTick e → ⊥) →
    AreCalm (happens f w e given).world.sent (happens f w e given).world.flights
calm_event f w (event.Burst process place turns) given calm plain first none = calm
calm_event f w (event.Act process) given calm plain first none = calm
calm_event f w (event.Deliver packet copy) given calm plain first none =
    let head = first_is w.sent w.flights packet copy calm first in
    let start : World = record w { flights = head.others } in
    subst (λ (u : AtWork). AreCalm u.world.sent u.world.flights) (sym (head_is f w packet copy head calm))
    (calm_comes f start head.flight.packet.mail (calm_tail w.sent head.flight head.others w.flights head.is calm).1)
calm_event f w event.Tick given calm plain first none = absurd (none tt)
calm_event f w (event.Crash node) given calm plain first none = absurd plain
calm_event f w (event.Suspect node) given calm plain first none = absurd plain
calm_event f w event.Swap given calm plain first none = absurd plain

happening : (f : Frame) (w : World) (step : Step) (e : world.Event) (given : Known e) (d : ℕ) → e ≡ step.event → Laws f → Possible f w e given → MayAll f w e → Grouped f w → Tied f w d →
    IsFaultless w step → (IsTick e → ⊥) → length step.fates ≡ length (happens f w e given).mails → Tied f (closes f w step (happens f w e given)) (letters_come w e + d)
happening f w step (event.Burst process place turns) given d same laws may submit grouped tied less none few =
    let m : ℕ = home_of f w process.0 in
    let v : NodeWork = computes process.0 place given.reads given.end (w.nodes m) in
    let s = starts f w m (letters_of w.flights) d tied.moves laws.moments grouped tied.world tied.queue tied.delivered in
    nothing f w step _ d (closing f w w step m d v less.fates few tied.calm tied.lives
    (works_on f w m (letters_of w.flights) d (idle (w.nodes m)) v
    (still_on (still_performed (group f) m place given.reads (idle (w.nodes m))) (record { member = refl; past = λ p. refl; applied = refl; letters = refl; others = λ o. o })) s.works))
happening f w step (event.Act process) given d same laws may submit grouped tied less none few =
    let m : ℕ = home_of f w process.0 in
    let q = letters_of w.flights in
    let on : Lives f w m = low_of laws m (laws.homes w process.0) w tied.lives in
    let v : NodeWork = acts_of f m process.0 ((w.nodes m).played process.0) (idle (w.nodes m)) in
    let s = stands_acts f w m process.0 q d ((w.nodes m).played process.0) laws.moments on (λ r act here stands x i n. submit r act here stands x i n)
    (starts f w m q d tied.moves laws.moments grouped tied.world tied.queue tied.delivered) in
    nothing f w step _ d (closing f w w step m d (catches_up f m v) less.fates few tied.calm tied.lives
    (works_catches f w m q d v laws.ends (and_parts (nat_lt m f.settings.nodes) (w.lives m) on).0 (laws.ends.moments w m v s.moment) s.works))
happening f w step (event.Deliver packet copy) given d same laws may submit grouped tied less none few =
    let first = subst (λ z. IsFirst w z) (sym same) less.first in
    delivering f w step packet copy d laws grouped tied (first_is w.sent w.flights packet copy tied.calm first) less.fates few
happening f w step event.Tick given d same laws may submit grouped tied less none few = absurd (none tt)
happening f w step (event.Crash node) given d same laws may submit grouped tied less none few =
    absurd (subst (λ z. IsPlain z) (sym same) less.plain)
happening f w step (event.Suspect node) given d same laws may submit grouped tied less none few =
    absurd (subst (λ z. IsPlain z) (sym same) less.plain)
happening f w step event.Swap given d same laws may submit grouped tied less none few =
    absurd (subst (λ z. IsPlain z) (sym same) less.plain)

pub tied_step : (f : Frame) (w v : World) (step : Step) (d : ℕ) → Laws f → Next f w step v → MayAll f w step.event → Grouped f w → IsFaultless w step →
    (IsTick step.event → ⊥) → Tied f w d → Tied f v (letters_come w step.event + d)
tied_step f w v step d laws next submit grouped less none tied = subst (λ (z : World). Tied f z (letters_come w step.event + d)) (sym next.after)
    (happening f w step step.event next.given d refl laws next.possible submit grouped tied less none next.fates)
