-- An idle stretch of a run is a list of the group's moves from behind its first tick on: so it has at most N + 6 ticks.
use Rattle.std.proofs.Common.{◌≡◌, ◌≤◌, ◌+◌, ◌-◌, ◌⊎◌, inl, inr, ⊎_elim, ℕ, Bool, true, false, List, [], ◌∷◌, ◌++◌, length, refl, sym, ap, ◌∙◌, arith, subst, nat_lt, if◌then◌else◌}
use Rattle.std.specs.Prelude.{IsTrue}
use Rattle.std.proofs.lemmas.Bool.{and_parts, ltb-true}
use Rattle.value_core.specs.declared.message.Message.{Message}
use Rattle.group_law.specs.Agreed.{ForwardLaw}
use Rattle.group_rules.specs.Member.{Letter}
use Rattle.group_rules.specs.Sets.{In}
use Rattle.group_idle.specs.Idle.{Begins, Done, Idle, IdleLaw, Possible, Reached, Still}
use Rattle.group_idle.specs.Idle as net
use Rattle.group_idle.specs.Net.{Move, Net, moves}
use Rattle.net_rules.specs.declared.flight.Flight.{Flight}
use Rattle.world_rules.specs.declared.event.Event as world
use Rattle.world_rules.specs.declared.event.Event.TheVariants as event
use Rattle.world_rules.specs.declared.event.Step.{Step}
use Rattle.world_rules.specs.declared.standing.Standing.TheVariants.{Going}
use Rattle.world_rules.specs.Frame.{AreSettings, Frame, group}
use Rattle.world_rules.specs.Mail.{Carried, Mail, is_whole}
use Rattle.world_rules.specs.Standings.{is_quiet, standing}
use Rattle.world_rules.specs.Steps.{AtWork, Known, Leads, Next, Replays, closes, happens}
use Rattle.world_rules.specs.Steps as rules
use Rattle.world_rules.specs.Worlds.{World, group_world, opening_world, singles_in}
use Rattle.world_book.specs.Following.{HasCourse}
use Rattle.world_book.specs.Promise.{IsKept}
use Rattle.world_facts.specs.Rows.{IsQuiet as MomentQuiet, IsUnlimited, ReadsStanding}
use Rattle.world_law.specs.Grouped.{AllFly, Come, MaySubmit, StepsGrouped}
use Rattle.world_law.specs.Grouped.{Submits as MayAll}
use Rattle.world_law.specs.Holds.{Holds}
use Rattle.world_idle.specs.Faults.{crash_by, crashes_in, is_from_wire, is_fault, last_fault, most_held, tick_by, ticks_in}
use Rattle.world_idle.proofs.Letters.{AllHeld, flying, net_of, of_mail, of_packet}
use Rattle.world_idle.specs.Stretches.{AllInside, AllSame, IsIdleStretch, LeadsIdle}
use Rattle.world_idle.proofs.Behind.{NoFault, behind_last, each_passes, no_act, no_fault_back, no_fault_front}
use Rattle.world_idle.proofs.Behind as behind
use Rattle.world_idle.proofs.Flying.{held_most, none_flies}
use Rattle.world_idle.proofs.Lasting.{dead, dead_leads, held_leads, held_step, idle_leads, inside_step, leads_append, one_more, opening_dead}
use Rattle.world_idle.proofs.Moving.{AppliesNoMore, Laws, Moved, moved_by, ticked_by}
use Rattle.world_idle.proofs.Moving.Moved.{Rests, Submits, Delivers}
use Rattle.world_idle.proofs.Resting.{Facts, Lore, NoneInVain, all_noted, all_rest}
use Rattle.world_idle.proofs.Sent.{AllSent, opening_sent, sent_step}

-- ---- what other laws say of every world of a run

pub record Ruled (f : Frame) : Type 0 where
  pub laws : Laws f
  pub lore : Lore f
  pub forward : ForwardLaw Message
  pub grouped : StepsGrouped f
  pub reads : (w : World) → ReadsStanding f w
  pub idle : IdleLaw Message
  pub settings : AreSettings f.settings
  pub holds : (steps : List Step) (w : World) → Replays f steps w → Holds f w
  pub kept : (steps : List Step) (w : World) → Replays f steps w → IsKept f w
  pub may : (steps : List Step) (w : World) → Replays f steps w → (i : ℕ) → MaySubmit f w i
  pub course : (steps : List Step) (w : World) → Replays f steps w → HasCourse f (singles_in f w) w

pub may_all : (f : Frame) (w : World) (e : world.Event) → ((i : ℕ) → MaySubmit f w i) → MayAll f w e
may_all f w (event.Act process) may = may process.0
may_all f w (event.Burst process place turns) may = tt
may_all f w (event.Deliver packet copy) may = tt
may_all f w event.Tick may = tt
may_all f w (event.Crash node) may = tt
may_all f w (event.Suspect node) may = tt
may_all f w event.Swap may = tt

sent_leads : (f : Frame) → Ruled f → (steps past : List Step) (w v : World) → Replays f past w → AllSent w → Leads f w steps v → AllSent v
sent_leads f k [] past w v came all e = subst (λ (z : World). AllSent z) (sym e) all
sent_leads f k (step ∷ steps) past w v came all h =
    sent_leads f k steps (past ++ step ∷ []) h.0 v (one_more f (opening_world f) w h.0 past step came h.1)
    (sent_step f w h.0 step h.1 (may_all f w step.event (k.may past w came)) all) h.2

pub facts_of : (f : Frame) → Ruled f → (steps : List Step) (w : World) → Replays f steps w → Facts f w
facts_of f k steps w came = record {
  holds = k.holds steps w came;
  kept = k.kept steps w came;
  course = k.course steps w came;
  sent = sent_leads f k steps [] (opening_world f) w refl (opening_sent f) came;
}

-- who is inside at the end of steps was so before
inside_leads : (f : Frame) → Ruled f → (steps past : List Step) (w v : World) → Replays f past w → Leads f w steps v → AllInside f v → AllInside f w
inside_leads f k [] past w v came e inside = subst (AllInside f) e inside
inside_leads f k (step ∷ steps) past w v came h inside =
    inside_step f w h.0 step k.forward k.lore.small k.grouped h.1 (may_all f w step.event (k.may past w came)) (k.holds past w came).grouped
    (inside_leads f k steps (past ++ step ∷ []) h.0 v (one_more f (opening_world f) w h.0 past step came h.1) h.2 inside)

-- ---- who asks an owner

-- something that is so of a world from a tick on, while a stretch is idle, and by which nobody asks in vain where all is done
pub record Owing (f : Frame) (owes : World → Type 0) : Type 0 where
  pub starts :
      (past : List Step) (w v : World) (step : Step) → Replays f past w → Next f w step v → is_fault step ≡ false → AllSame f w v → AllInside f w → AllInside f v →
      dead f w.lives ≤ f.settings.resilience → tick_by step.event ≡ 1 → owes v
  pub stays :
      (past : List Step) (w v : World) (step : Step) → Replays f past w → Next f w step v → is_fault step ≡ false → AllSame f w v → AllInside f w → AllInside f v →
      dead f w.lives ≤ f.settings.resilience → AllHeld w.sent 0 w.flights → owes w → owes v
  pub serves :
      (past : List Step) (w : World) → Replays f past w → AllInside f w → dead f w.lives ≤ f.settings.resilience → w.flights ≡ [] → Done (group f) (group_world w) → owes w → NoneInVain f w

-- ---- one step

no_more : (f : Frame) (w v : World) → AllSame f w v → AppliesNoMore f w v
no_more f w v same m low = (same m low).applied

still_net : (f : Frame) (w v : World) → AllSame f w v → AllInside f w → AllInside f v → Still (group f) (net_of f w) (net_of f v)
still_net f w v same before after m low = record {
  promised = (same m low).promised;
  installed = (same m low).installed;
  accepted = (same m low).accepted;
  applied = (same m low).applied;
  inside = before m low;
  stays = after m low;
}

abbrev MoveOf : Frame → World → World → world.Event → Type 0
MoveOf f w v e = (Moved f w v × (tick_by e ≡ 0)) ⊎ ((net_of f v ≡ moves (group f) (net_of f w) Move.Ticks) × (tick_by e ≡ 1) × (is_quiet f w ≡ true))

if_yes : (b : Bool) → IsTrue b → b ≡ true
if_yes true h = refl
if_yes false h = absurd (cc h)

move_by : (f : Frame) (k : Ruled f) (past : List Step) (w : World) (step : Step) (e : world.Event) (given : rules.Known e) → Replays f past w → rules.Possible f w e given → is_from_wire e ≡ false → is_fault step ≡ false →
    length step.fates ≡ length (happens f w e given).mails → AllHeld w.sent 0 w.flights → AppliesNoMore f w (closes f w step (happens f w e given)) → MoveOf f w (closes f w step (happens f w e given)) e
move_by f k past w step (event.Burst process place turns) given came may plain fine few held still =
    inl (moved_by f 0 w step (event.Burst process place turns) given k.laws (k.holds past w came).grouped may tt plain refl (each_passes step fine) few held still, refl)
move_by f k past w step (event.Act process) given came may plain fine few held still =
    inl (moved_by f 0 w step (event.Act process) given k.laws (k.holds past w came).grouped may (k.may past w came process.0) plain refl (each_passes step fine) few held still, refl)
move_by f k past w step (event.Deliver packet copy) given came may plain fine few held still =
    inl (moved_by f 0 w step (event.Deliver packet copy) given k.laws (k.holds past w came).grouped may tt plain refl (each_passes step fine) few held still, refl)
move_by f k past w step event.Tick given came may plain fine few held still =
    inr (ticked_by f 0 w step k.laws (k.holds past w came).grouped (each_passes step fine) few held still, refl, if_yes (is_quiet f w) may)
move_by f k past w step (event.Crash node) given came may plain fine few held still = absurd (cc plain)
move_by f k past w step (event.Suspect node) given came may plain fine few held still = absurd (cc plain)
move_by f k past w step event.Swap given came may plain fine few held still = absurd (cc plain)

move_of : (f : Frame) (k : Ruled f) (past : List Step) (w v : World) (step : Step) → Replays f past w → Next f w step v → is_fault step ≡ false → AllHeld w.sent 0 w.flights → AppliesNoMore f w v → MoveOf f w v step.event
move_of f k past w v step came next fine held still =
    let u : World = closes f w step (happens f w step.event next.given) in
    subst (λ (z : World). MoveOf f w z step.event) (sym next.after)
    (move_by f k past w step step.event next.given came next.possible (no_act step fine) fine next.fates held (subst (λ (z : World). AppliesNoMore f w z) next.after still))

-- ---- from behind a tick on

pub record AsMoves (f : Frame) (w : World) (steps : List Step) : Type 0 where
  pub list : List (Move Message)
  pub idle : Idle (group f) (net_of f w) list
  pub ticks : net.ticks_in list ≡ ticks_in steps

-- one move more in front
in_front : (f : Frame) (w v : World) (step : Step) (steps : List Step) (move : Move Message) (n : ℕ) → net_of f v ≡ moves (group f) (net_of f w) move → Possible (group f) (net_of f w) move → Still (group f) (net_of f w) (net_of f v) →
    ((list : List (Move Message)) → net.ticks_in (move ∷ list) ≡ n + net.ticks_in list) → tick_by step.event ≡ n → AsMoves f v steps → AsMoves f w (step ∷ steps)
in_front f w v step steps move n is may still counts ticks rest = record {
  list = move ∷ rest.list;
  idle = (may, subst (λ (z : Net Message). Still (group f) (net_of f w) z) is still, subst (λ (z : Net Message). Idle (group f) z rest.list) is rest.idle);
  ticks = let a = counts rest.list in let b = rest.ticks in omega (arith, a, b, ticks);
}

-- no tick is possible where the group is done
not_done : (f : Frame) (k : Ruled f) (owes : World → Type 0) (o : Owing f owes) (past : List Step) (w : World) → Replays f past w → standing f w ≡ Going → is_quiet f w ≡ true → AllInside f w → dead f w.lives ≤ f.settings.resilience →
    w.flights ≡ [] → owes w → Done (group f) (group_world w) → ⊥
not_done f k owes o past w came going quiet inside few empty owing done =
    let reads = k.reads w in
    let moment : MomentQuiet f w = reads.quiet.0 quiet in
    (reads.says Going going).1 (inr (all_rest f w k.lore (facts_of f k past w came) done empty moment (o.serves past w came inside few empty done owing)))

free_step : (f : Frame) (w v : World) (step : Step) → Next f w step v → is_fault step ≡ false → AllHeld w.sent 0 w.flights → AllHeld v.sent 0 v.flights
free_step f w v step next fine held = subst (λ (j : ℕ). AllHeld v.sent j v.flights) (let e : 0 - tick_by step.event ≡ 0 = omega arith in e) (held_step f 0 w v step next fine held)

no_crash : (e : world.Event) → is_from_wire e ≡ false → crash_by e ≡ 0
no_crash (event.Burst process place turns) e = refl
no_crash (event.Act process) e = refl
no_crash (event.Deliver packet copy) e = refl
no_crash event.Tick e = refl
no_crash (event.Crash node) e = absurd (cc e)
no_crash (event.Suspect node) e = absurd (cc e)
no_crash event.Swap e = absurd (cc e)

few_step : (f : Frame) (w v : World) (step : Step) → Next f w step v → is_fault step ≡ false → dead f w.lives ≤ f.settings.resilience → dead f v.lives ≤ f.settings.resilience
few_step f w v step next fine few = let a = dead_leads f (step ∷ []) w v (v, next, refl) in let z = no_crash step.event (no_act step fine) in omega (arith, a, z, few)

tick_or : (e : world.Event) → (tick_by e ≡ 0) ⊎ (tick_by e ≡ 1)
tick_or (event.Burst process place turns) = inl refl
tick_or (event.Act process) = inl refl
tick_or (event.Deliver packet copy) = inl refl
tick_or event.Tick = inr refl
tick_or (event.Crash node) = inl refl
tick_or (event.Suspect node) = inl refl
tick_or event.Swap = inl refl

from_tick : (f : Frame) (k : Ruled f) (owes : World → Type 0) (o : Owing f owes) (steps past : List Step) (w v : World) → Replays f past w → NoFault steps → AllHeld w.sent 0 w.flights → dead f w.lives ≤ f.settings.resilience →
    LeadsIdle f w steps v → AllInside f v → owes w → AsMoves f w steps
from_tick f k owes o [] past w v came plain held few h inside owing = record { list = []; idle = tt; ticks = refl }
from_tick f k owes o (step ∷ steps) past w v came plain held few h inside owing =
    front (from_tick f k owes o steps (past ++ step ∷ []) u v came_on plain.1 held_on few_on h.3 inside
    (o.stays past w u step came next plain.0 same here inside_on few held owing))
  where
    u : World
    u = h.0

    next : Next f w step u
    next = h.1

    same : AllSame f w u
    same = h.2

    came_on : Replays f (past ++ step ∷ []) u
    came_on = one_more f (opening_world f) w u past step came next

    inside_on : AllInside f u
    inside_on = inside_leads f k steps (past ++ step ∷ []) u v came_on (idle_leads f steps u v h.3) inside

    here : AllInside f w
    here = inside_leads f k (step ∷ steps) past w v came (idle_leads f (step ∷ steps) w v h) inside

    held_on : AllHeld u.sent 0 u.flights
    held_on = free_step f w u step next plain.0 held

    few_on : dead f u.lives ≤ f.settings.resilience
    few_on = few_step f w u step next plain.0 few

    still : Still (group f) (net_of f w) (net_of f u)
    still = still_net f w u same here inside_on

    by : AsMoves f u steps → Moved f w u → tick_by step.event ≡ 0 → AsMoves f w (step ∷ steps)
    by rest (Rests e) z = record { list = rest.list; idle = subst (λ (n : Net Message). Idle (group f) n rest.list) e rest.idle; ticks = let t = rest.ticks in omega (arith, t, z) }
    by rest (Submits m x e) z = in_front f w u step steps (Move.Submits m x) 0 e tt still (λ list. omega arith) z rest
    by rest (Delivers place e) z = in_front f w u step steps (Move.Delivers place) 0 e tt still (λ list. omega arith) z rest

    front : AsMoves f u steps → AsMoves f w (step ∷ steps)
    front rest = ⊎_elim
        (λ (m : Moved f w u × (tick_by step.event ≡ 0)). by rest m.0 m.1)
        (λ (t : (net_of f u ≡ moves (group f) (net_of f w) Move.Ticks) × (tick_by step.event ≡ 1) × (is_quiet f w ≡ true)).
        let reads = k.reads w in
        let moment : MomentQuiet f w = reads.quiet.0 t.2 in
        let empty : w.flights ≡ [] = none_flies w.sent w.flights held moment.packets in
        in_front f w u step steps Move.Ticks 1 t.0 (ap (flying f.settings.nodes) empty, not_done f k owes o past w came next.going t.2 here few empty owing) still (λ list. omega arith) t.1 rest)
        (move_of f k past w u step came next plain.0 held (no_more f w u same))

-- ---- where the moves begin

in_append : {A : Type 0} (x : A) (xs ys : List A) → In x (xs ++ ys) → In x xs ⊎ In x ys
in_append x [] ys i = inr i
in_append x (z ∷ xs) ys (inl e) = inl (inl e)
in_append x (z ∷ xs) ys (inr i) = ⊎_elim (λ a. inl (inr a)) (λ b. inr b) (in_append x xs ys i)

mail_sent : (letters : List (Letter Message)) (mail : Mail) (l : Letter Message) → Come letters mail → In l (of_mail mail) → In l letters
mail_sent letters (Mail.Grouped letter) l come i = ⊎_elim (λ e. subst (λ (z : Letter Message). In z letters) (sym e) come.sent) (λ n. absurd n) i
mail_sent letters (Mail.Sends incarnation from to errand) l come i = absurd i

packet_sent : (n : ℕ) (letters : List (Letter Message)) (one : Carried) (l : Letter Message) → Come letters one.mail → In l (of_packet n one) → In l letters
packet_sent n letters one l come i = by (is_whole n one) i
  where
    by : (b : Bool) → In l (if b then of_mail one.mail else []) → In l letters
    by true j = mail_sent letters one.mail l come j
    by false j = absurd j

flying_sent : (n : ℕ) (letters : List (Letter Message)) (flights : List (Flight Carried)) (l : Letter Message) → AllFly letters flights → In l (flying n flights) → In l letters
flying_sent n letters [] l h i = absurd i
flying_sent n letters (one ∷ flights) l h i = ⊎_elim (λ a. packet_sent n letters one.packet l h.0 a) (λ b. flying_sent n letters flights l h.1 b)
    (in_append l (of_packet n one.packet) (flying n flights) i)

net_begins : (f : Frame) (k : Ruled f) (past : List Step) (w : World) → Replays f past w → dead f w.lives ≤ f.settings.resilience → IsUnlimited f w → Begins (group f) (net_of f w)
net_begins f k past w came few free =
    let holds = k.holds past w came in record {
      reached = record { events = holds.grouped.events; is = holds.grouped.run; sent = λ l i. flying_sent f.settings.nodes w.past.letters w.flights l holds.grouped.travels i };
      crashes = few;
      applied = λ m acts.
          let a = and_parts (nat_lt m f.settings.nodes) (w.lives m) acts in
          let low = ltb-true m f.settings.nodes a.0 in
          all_noted f w m k.lore holds low a.1 (free.members m low a.1);
    }

-- behind a tick there are at most N + 5
few_more : (f : Frame) (k : Ruled f) (owes : World → Type 0) (o : Owing f owes) (steps past : List Step) (w v : World) → Replays f past w → NoFault steps → AllHeld w.sent 0 w.flights → dead f w.lives ≤ f.settings.resilience →
    LeadsIdle f w steps v → AllInside f v → owes w → ticks_in steps ≤ f.settings.nodes + 5
few_more f k owes o [] past w v came plain held few h inside owing = omega arith
few_more f k owes o (step ∷ steps) past w v came plain held few h inside owing =
    let going = ((k.reads w).says Going h.1.going).0 in
    let m : AsMoves f w (step ∷ steps) = from_tick f k owes o (step ∷ steps) past w v came plain held few h inside owing in
    let most : f.settings.nodes ≤ 256 = let n = k.settings.few in omega (arith, n) in
    let l = k.idle (group f) k.lore.small most (net_of f w) (net_begins f k past w came few going.limits) m.list m.idle in
    let t = m.ticks in
    omega (arith, l, t)

-- up to the first tick
up_to_tick : (f : Frame) (k : Ruled f) (owes : World → Type 0) (o : Owing f owes) (steps past : List Step) (w v : World) → Replays f past w → NoFault steps → AllHeld w.sent 0 w.flights → dead f w.lives ≤ f.settings.resilience →
    LeadsIdle f w steps v → AllInside f v → ticks_in steps ≤ f.settings.nodes + 6
up_to_tick f k owes o [] past w v came plain held few h inside = omega arith
up_to_tick f k owes o (step ∷ steps) past w v came plain held few h inside =
    ⊎_elim
    (λ (z : tick_by step.event ≡ 0). let r = up_to_tick f k owes o steps (past ++ step ∷ []) u v came_on plain.1 held_on few_on h.3 inside in omega (arith, r, z))
    (λ (t : tick_by step.event ≡ 1).
    let r = few_more f k owes o steps (past ++ step ∷ []) u v came_on plain.1 held_on few_on h.3 inside (o.starts past w u step came next plain.0 h.2 here inside_on few t) in omega (arith, r, t))
    (tick_or step.event)
  where
    u : World
    u = h.0

    next : Next f w step u
    next = h.1

    came_on : Replays f (past ++ step ∷ []) u
    came_on = one_more f (opening_world f) w u past step came next

    inside_on : AllInside f u
    inside_on = inside_leads f k steps (past ++ step ∷ []) u v came_on (idle_leads f steps u v h.3) inside

    here : AllInside f w
    here = inside_leads f k (step ∷ steps) past w v came (idle_leads f (step ∷ steps) w v h) inside

    held_on : AllHeld u.sent 0 u.flights
    held_on = free_step f w u step next plain.0 held

    few_on : dead f u.lives ≤ f.settings.resilience
    few_on = few_step f w u step next plain.0 few

-- ---- a whole stretch

pub stretch : (f : Frame) (k : Ruled f) (owes : World → Type 0) (o : Owing f owes) (steps list : List Step) (w : World) → IsIdleStretch f steps list w → crashes_in steps ≤ f.settings.resilience → AllInside f w →
    ticks_in list ≤ f.settings.nodes + 6
stretch f k owes o steps list w s few inside = up_to_tick f k owes o list (s.faulty ++ s.waits) s.begin s.end came plain held dead_few s.idle inside_end
  where
    came : Replays f (s.faulty ++ s.waits) s.begin
    came = leads_append f s.faulty s.waits (opening_world f) s.fault s.begin s.to_fault s.to_begin

    behind_it : NoFault (s.waits ++ (list ++ s.rest))
    behind_it = behind_last s.faulty (s.waits ++ (list ++ s.rest)) (s.last ∙ ap last_fault s.cut)

    plain : NoFault list
    plain = no_fault_front list s.rest (no_fault_back s.waits (list ++ s.rest) behind_it)

    at_fault : AllHeld s.fault.sent (most_held s.fault.flights) s.fault.flights
    at_fault = held_most f s.fault.sent s.fault.flights (k.holds s.faulty s.fault s.to_fault).numbered.each

    held : AllHeld s.begin.sent 0 s.begin.flights
    held = subst (λ (j : ℕ). AllHeld s.begin.sent j s.begin.flights) (let h = s.held in let e : most_held s.fault.flights - ticks_in s.waits ≡ 0 = omega (arith, h) in e)
        (held_leads f s.waits (most_held s.fault.flights) s.fault s.begin s.to_begin (no_fault_front s.waits (list ++ s.rest) behind_it) at_fault)

    dead_few : dead f s.begin.lives ≤ f.settings.resilience
    dead_few =
        let a = dead_leads f (s.faulty ++ s.waits) (opening_world f) s.begin came in
        let z = opening_dead f in
        let c = behind.crashes_append s.faulty s.waits in
        let d = behind.crashes_append s.faulty (s.waits ++ (list ++ s.rest)) in
        let e = behind.crashes_append s.waits (list ++ s.rest) in
        let g = ap crashes_in s.cut in
        omega (arith, a, z, c, d, e, g, few)

    came_end : Replays f ((s.faulty ++ s.waits) ++ list) s.end
    came_end = leads_append f (s.faulty ++ s.waits) list (opening_world f) s.begin s.end came (idle_leads f list s.begin s.end s.idle)

    inside_end : AllInside f s.end
    inside_end = inside_leads f k s.rest ((s.faulty ++ s.waits) ++ list) s.end w came_end s.to_end inside
