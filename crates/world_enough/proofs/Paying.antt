-- In a faultless run each burst and each act is paid.
use Rattle.std.proofs.Common.{◌≡◌, ◌≤◌, ◌<◌, ◌*◌, ◌+◌, inl, inr, ⊎_elim, ℕ, zero, suc, Bool, true, false, List, [], ◌∷◌, ◌++◌, length, length-append, take, take_all, drop, Option, Some, None, refl, sym, ap, ◌∙◌, arith, subst}
use Rattle.std.specs.Prelude.{IsTrue}
use Rattle.std.proofs.lemmas.Bool.{and_parts, cond_both}
use Rattle.orca_base.specs.declared.limits.TheConstants.{BURST_TURNS}
use Rattle.value_core.specs.declared.action.Action.{Action}
use Rattle.value_core.specs.declared.action.Line.{Line}
use Rattle.value_core.specs.declared.message.Message.{Message}
use Rattle.group_rules.specs.Sets.{Begins, with_at}
use Rattle.net_rules.specs.declared.fate.Fate.{Fate}
use Rattle.net_rules.specs.declared.flight.Flight.{Flight}
use Rattle.net_rules.specs.Flights.{ready_copy, without}
use Rattle.world_rules.specs.declared.event.Event as world
use Rattle.world_rules.specs.declared.event.Event.TheVariants as event
use Rattle.world_rules.specs.declared.event.Step.{Step}
use Rattle.world_rules.specs.declared.standing.Standing.TheVariants.{Going}
use Rattle.world_rules.specs.Bursts.{last_turn}
use Rattle.world_rules.specs.Frame.{Frame}
use Rattle.world_rules.specs.Mail.{Carried, Mail, is_whole, receiver_of}
use Rattle.world_rules.specs.Nodes.{Node, NodeWork, idle, known, plays}
use Rattle.world_rules.specs.Parts.{acts_of, catches_up, computes, performs_all, receives, receives_mail}
use Rattle.world_rules.specs.Played.{Played, Stage}
use Rattle.world_rules.specs.Played.Stage.{Computing, Acting, Submitted, Reading, Asking, Over}
use Rattle.world_rules.specs.Processes.{processes_in}
use Rattle.world_rules.specs.Standings.{standing}
use Rattle.world_rules.specs.Steps.{AtWork, Known, Leads, Next, Possible, Replays, comes, comes_whole, happens, is_acting, lives_in, may_act_as, posts, posts_all}
use Rattle.world_rules.specs.Worlds.{World, agreed, applied_at, home_of, opening_world, played_in}
use Rattle.world_facts.specs.Processes.{AllBegin, ProcessesStand, StandsAt}
use Rattle.world_facts.specs.Rows.{IsBegun, ReadsStanding}
use Rattle.world_law.specs.Holds.{Holds}
use Rattle.world_law.specs.Homes.{StepsHome}
use Rattle.world_law.specs.Lists.{ListsGrow, OneList}
use Rattle.world_law.proofs.Onwards.{AreOnward, on_arrives, on_catches, on_on, stay}
use Rattle.world_enough.specs.Faultless.{IsFaultless, IsPlain, IsTick, LeadsFaultless, NoTick, worked, works_by}
use Rattle.world_enough.specs.Paid.{IsPaid, IsSpent, node_weight, stage_weight, sum, weight, weight_in}
use Rattle.world_law.proofs.Maps.{at_both, at_here}
use Rattle.world_enough.proofs.Weighing.{Acted, Fresh, acted, burst_pays, node_over, node_up, ran_far, sum_over, sum_up}

pub record Lore (f : Frame) : Type 0 where
  pub lists : ListsGrow f
  pub homes : (w : World) (i : ℕ) → home_of f w i < f.settings.nodes
  pub home : StepsHome f
  pub begins : AllBegin
  pub reads : (w : World) → ReadsStanding f w

pub record Facts (f : Frame) (w : World) : Type 0 where
  pub holds : Holds f w
  pub stands : ProcessesStand f w

-- ---- while a run is going nobody is spent

pub split_at : {A : Type 0} (n : ℕ) (ys : List A) → ys ≡ take n ys ++ drop n ys
split_at zero ys = refl
split_at (suc n) [] = refl
split_at (suc n) (y ∷ ys) = ap (λ z. y ∷ z) (split_at n ys)

pub counted_in : (f : Frame) (begins : AllBegin) (xs ys : List Message) → Begins xs ys → length (processes_in f xs) ≤ length (processes_in f ys)
counted_in f begins xs ys h =
    let rest : List Message = drop (length xs) ys in
    let is : ys ≡ xs ++ rest = split_at (length xs) ys ∙ ap (λ z. z ++ rest) (sym h.is ∙ take_all (length xs) xs (omega arith)) in
    let l = (begins f xs).longer rest in
    let n = length-append (processes_in f xs) l.0 in
    let e : length (processes_in f ys) ≡ length (processes_in f xs ++ l.0) = ap (λ z. length (processes_in f z)) is ∙ ap length l.1 in
    omega (arith, n, e)

le_same : (a : ℕ) → a ≤ a
le_same a = omega arith

le_less : (a b d : ℕ) → a + d ≤ b → a ≤ b
le_less a b d h = omega (arith, h)

le_as : (a b c d : ℕ) → a + d ≤ b → c ≡ b → a + d ≤ c
le_as a b c d h e = omega (arith, h, e)

pub spent_begun : (f : Frame) (w : World) → Lore f → Facts f w → (s : IsSpent f w) → IsBegun f w s.number s.process
spent_begun f w lore facts s =
    let m : ℕ = home_of f w s.number in
    let low : m < f.settings.nodes = lore.homes w s.number in
    let home : m ≡ s.member = lore.home.home w s.member s.number s.process facts.holds.grouped facts.holds.home s.here in
    let here : (w.nodes m).played s.number ≡ Some s.process = subst (λ (k : ℕ). (w.nodes k).played s.number ≡ Some s.process) (sym home) s.here in
    let known_low = (facts.holds.home m).known_here s.number s.process here in
    let one : OneList f w = lore.lists.one w facts.holds.grouped in
    let e : length (known f (w.nodes m)) ≡ length (processes_in f (applied_at w m)) = ap (λ z. length (processes_in f z)) (one.copies m low) in
    let n = counted_in f lore.begins (applied_at w m) (agreed f w) (one.begin m low) in
    record { exists = omega (arith, known_low, e, n); here = here }

pub paid_going : (f : Frame) (w : World) (n : ℕ) → Lore f → Facts f w → standing f w ≡ Going → IsPaid f w n → BURST_TURNS * n ≤ weight_in f w
paid_going f w n lore facts going (inl h) = h
paid_going f w n lore facts going (inr h) =
    let row = (lore.reads w).says Going going in
    let less = row.0.turns h.0.number h.0.process (spent_begun f w lore facts h.0) h.0.computes in
    absurd (omega (arith, less, h.0.turns))

-- ---- a member's part

pub fresh_at : (f : Frame) (w : World) (m : ℕ) → ProcessesStand f w → Fresh (w.nodes m)
fresh_at f w m stands i late = by ((w.nodes m).played i) refl
  where
    by : (o : Option Played) → (w.nodes m).played i ≡ o → (w.nodes m).played i ≡ None
    by None e = e
    by (Some r) e = let low = stands.fresh m i r e in absurd (omega (arith, late, low))

part_up : (f : Frame) (w : World) (m : ℕ) (node : Node) → node_weight (w.nodes m).played ≤ node_weight node.played →
    weight_in f w ≤ sum f.settings.nodes (λ k. node_weight (with_at w.nodes m node k).played)
part_up f w m node h = sum_up f.settings.nodes (λ k. node_weight (w.nodes k).played) (λ k. node_weight (with_at w.nodes m node k).played)
    (λ k low. at_both w.nodes m node k (λ (z : Node). node_weight (w.nodes k).played ≤ node_weight z.played)
    (λ e. subst (λ (j : ℕ). node_weight (w.nodes j).played ≤ node_weight node.played) (sym e) h) (λ no. le_same (node_weight (w.nodes k).played)))

part_over : (f : Frame) (w : World) (m d : ℕ) (node : Node) → m < f.settings.nodes → node_weight (w.nodes m).played + d ≤ node_weight node.played →
    weight_in f w + d ≤ sum f.settings.nodes (λ k. node_weight (with_at w.nodes m node k).played)
part_over f w m d node low h = sum_over f.settings.nodes m d (λ k. node_weight (w.nodes k).played) (λ k. node_weight (with_at w.nodes m node k).played) low
    (λ k l. at_both w.nodes m node k (λ (z : Node). node_weight (w.nodes k).played ≤ node_weight z.played)
    (λ e. subst (λ (j : ℕ). node_weight (w.nodes j).played ≤ node_weight node.played) (sym e) (le_less (node_weight (w.nodes m).played) (node_weight node.played) d h)) (λ no. le_same (node_weight (w.nodes k).played)))
    (let e : node_weight (with_at w.nodes m node m).played ≡ node_weight node.played = ap (λ (z : Node). node_weight z.played) (at_here w.nodes m node) in le_as (node_weight (w.nodes m).played) (node_weight node.played) (node_weight (with_at w.nodes m node m).played) d h e)

-- ---- events

pub performed_node : (place : ℕ) (lines : List Line) (v : NodeWork) → (performs_all place lines v).node ≡ v.node
performed_node place [] v = refl
performed_node place (line ∷ lines) v = performed_node place lines _

acting_as : (s : Stage) → is_acting s ≡ true → (act : Action) × (s ≡ Acting act)
acting_as (Acting act) e = (act, refl)
acting_as Computing e = absurd (cc e)
acting_as (Submitted act) e = absurd (cc e)
acting_as (Reading act) e = absurd (cc e)
acting_as (Asking act) e = absurd (cc e)
acting_as (Over act) e = absurd (cc e)

pub acting_of : (o : Option Played) → may_act_as o ≡ true → (r : Played) × (act : Action) × (o ≡ Some r) × (r.stage ≡ Acting act)
acting_of None e = absurd (cc e)
acting_of (Some r) e = let a = acting_as r.stage e in (r, a.0, refl, a.1)

pub is_true : (b : Bool) → IsTrue b → b ≡ true
is_true true h = refl
is_true false h = absurd (cc h)

coming_up : (f : Frame) (start : World) (mail : Mail) → ((m : ℕ) → Fresh (start.nodes m)) → weight_in f start ≤ weight_in f (comes f start mail).world
coming_up f start mail fresh = cond_both (lives_in f start (receiver_of mail)) _ _ (λ (u : AtWork). weight_in f start ≤ weight_in f u.world)
    (λ e.
    let m : ℕ = receiver_of mail in
    part_up f start m (receives f m mail (start.nodes m)).node
    (node_up (start.nodes m) (receives f m mail (start.nodes m)) (fresh m) (on_on (arriving m mail) (on_catches f m (receives_mail f m mail (idle (start.nodes m)))))))
    (λ e. omega arith)
  where
    arriving : (m : ℕ) (mail : Mail) → AreOnward (idle (start.nodes m)) (receives_mail f m mail (idle (start.nodes m)))
    arriving m (Mail.Grouped letter) = stay (idle (start.nodes m)) _ refl refl
    arriving m (Mail.Sends incarnation from to errand) = on_arrives errand (idle (start.nodes m))

whole_up : (f : Frame) (start : World) (o : Option (Flight Carried)) → ((m : ℕ) → Fresh (start.nodes m)) → weight_in f start ≤ weight_in f (comes_whole f start o).world
whole_up f start None fresh = omega arith
whole_up f start (Some flight) fresh = cond_both (is_whole f.settings.nodes flight.packet) _ _ (λ (u : AtWork). weight_in f start ≤ weight_in f u.world)
    (λ e. coming_up f start flight.packet.mail fresh) (λ e. omega arith)

happening : (f : Frame) (w : World) (e : world.Event) (given : Known e) (n : ℕ) → Lore f → Facts f w → Possible f w e given → IsPlain e → (IsTick e → ⊥) →
    BURST_TURNS * n ≤ weight_in f w → IsPaid f (happens f w e given).world (works_by e + n)
happening f w (event.Burst i place turns) given n lore facts may plain none h =
    let m : ℕ = home_of f w i.0 in
    let node : Node = w.nodes m in
    let low : m < f.settings.nodes = lore.homes w i.0 in
    let v : NodeWork = computes i.0 place given.reads given.end node in
    let here : node.played i.0 ≡ Some may.start = may.here in
    let counted = facts.stands.fresh m i.0 may.start here in
    let few = facts.stands.few m in
    let same : (performs_all place given.reads (idle node)).node ≡ node = performed_node place given.reads (idle node) in
    let on : AreOnward (plays i.0 given.end (idle node)) v =
    stay (plays i.0 given.end (idle node)) v (ap (λ (z : Node). z.copies.processes) same) (ap (λ (z : Node). with_at z.played i.0 (Some given.end)) same) in
    let c = ran_far f _ place i (last_turn f may.start) may.start given.reads given.end may.ran in
    ⊎_elim
    (λ (o : weight may.start + BURST_TURNS ≤ weight given.end).
    let a = part_over f w m BURST_TURNS v.node low
    (node_over node v i.0 BURST_TURNS may.start given.end (omega (arith, counted, few)) counted (fresh_at f w m facts.stands) here o on) in
    inl (omega (arith, a, h)))
    (λ (o : (given.end.stage ≡ Computing) × (f.settings.turns ≤ given.end.turns) × (weight may.start ≤ weight given.end)).
    let a = part_over f w m 0 v.node low
    (node_over node v i.0 0 may.start given.end (omega (arith, counted, few)) counted (fresh_at f w m facts.stands) here (omega (arith, o.2)) on) in
    inr (
      record {
        member = m;
        number = i.0;
        process = given.end;
        here = ap (λ (z : Node). z.played i.0) (at_here w.nodes m v.node) ∙ (ap (λ (z : Node). with_at z.played i.0 (Some given.end) i.0) same ∙ at_here node.played i.0 (Some given.end));
        computes = o.0;
        turns = o.1;
      },
      omega (arith, a, h),
    ))
    (burst_pays f may.start given.end may.computing c)
happening f w (event.Act i) given n lore facts may plain none h =
    let m : ℕ = home_of f w i.0 in
    let node : Node = w.nodes m in
    let low : m < f.settings.nodes = lore.homes w i.0 in
    let p = and_parts (w.lives m) (may_act_as (played_in f w i.0)) (is_true _ may) in
    let a = acting_of (played_in f w i.0) p.1 in
    let r : Played = a.0 in
    let here : node.played i.0 ≡ Some r = a.2 in
    let counted = facts.stands.fresh m i.0 r here in
    let few = facts.stands.few m in
    let stands : StandsAt f i r (Acting a.1) = subst (λ (s : Stage). StandsAt f i r s) a.3 (facts.stands.each m i r here).stands in
    let v : NodeWork = acts_of f m i.0 (node.played i.0) (idle node) in
    let act : Acted f m i.0 r node v = acted f m i.0 r a.1 (node.played i.0) node here a.3 stands.1 in
    let light : stage_weight r.stage ≡ 1 = ap stage_weight a.3 in
    let o = part_over f w m BURST_TURNS (catches_up f m v).node low
    (node_over node (catches_up f m v) i.0 BURST_TURNS r (record r { stage = act.stage }) (omega (arith, counted, few)) counted (fresh_at f w m facts.stands) here
    (omega (arith, light, act.heavy)) (on_on act.onward (on_catches f m v))) in
    inl (omega (arith, o, h))
happening f w (event.Deliver number copy) given n lore facts may plain none h =
    let a = whole_up f (record w { flights = without number copy w.flights }) (ready_copy number copy w.flights) (λ m. fresh_at f w m facts.stands) in
    inl (omega (arith, a, h))
happening f w event.Tick given n lore facts may plain none h = absurd (none tt)
happening f w (event.Crash node) given n lore facts may plain none h = absurd plain
happening f w (event.Suspect node) given n lore facts may plain none h = absurd plain
happening f w event.Swap given n lore facts may plain none h = absurd plain

-- ---- a step

posted_nodes : (f : Frame) (w : World) (mails : List Mail) (fates : List Fate) → (posts_all f w mails fates).nodes ≡ w.nodes
posted_nodes f w [] fates = refl
posted_nodes f w (mail ∷ mails) [] = refl
posted_nodes f w (mail ∷ mails) (one ∷ fates) = posted_nodes f (posts f w mail one) mails fates

paid_as : (f : Frame) (w v : World) (n : ℕ) → v.nodes ≡ w.nodes → IsPaid f w n → IsPaid f v n
paid_as f w v n e h =
    let same : weight_in f v ≡ weight_in f w = ap (λ (nodes : ℕ → Node). sum f.settings.nodes (λ m. node_weight (nodes m).played)) e in
    ⊎_elim
    (λ (o : BURST_TURNS * n ≤ weight_in f w). inl (omega (arith, o, same)))
    (λ (o : IsSpent f w × (BURST_TURNS * n ≤ weight_in f w + BURST_TURNS)). inr (
      record {
        member = o.0.member;
        number = o.0.number;
        process = o.0.process;
        here = ap (λ (nodes : ℕ → Node). (nodes o.0.member).played o.0.number) e ∙ o.0.here;
        computes = o.0.computes;
        turns = o.0.turns;
      },
      omega (arith, o.1, same),
    ))
    h

pub paid_step : (f : Frame) (w v : World) (step : Step) (n : ℕ) → Lore f → Facts f w → Next f w step v → IsFaultless w step → (IsTick step.event → ⊥) →
    IsPaid f w n → IsPaid f v (works_by step.event + n)
paid_step f w v step n lore facts next less none paid =
    let u : AtWork = happens f w step.event next.given in
    let h = happening f w step.event next.given n lore facts next.possible less.plain none (paid_going f w n lore facts next.going paid) in
    subst (λ (z : World). IsPaid f z (works_by step.event + n)) (sym next.after)
    (paid_as f u.world _ (works_by step.event + n) (posted_nodes f u.world u.mails step.fates) h)

pub one_more : (f : Frame) (w u v : World) (steps : List Step) (step : Step) → Leads f w steps u → Next f u step v → Leads f w (steps ++ step ∷ []) v
one_more f w u v [] step e next = (v, subst (λ (z : World). Next f z step v) e next, refl)
one_more f w u v (first ∷ steps) step h next = (h.0, h.1, one_more f h.0 u v steps step h.2 next)

pays_on : (f : Frame) (steps past : List Step) (w v : World) (n : ℕ) → Lore f → ((steps : List Step) (u : World) → Replays f steps u → Facts f u) → Replays f past w →
    LeadsFaultless f w steps v → NoTick steps → IsPaid f w n → IsPaid f v (worked steps + n)
pays_on f [] past w v n lore facts came e none paid = subst (λ (z : World). IsPaid f z (0 + n)) (sym e) (subst (λ (k : ℕ). IsPaid f w k) (let e : n ≡ 0 + n = omega arith in e) paid)
pays_on f (step ∷ steps) past w v n lore facts came h none paid =
    let on = paid_step f w h.0 step n lore (facts past w came) h.1 h.2 none.0 paid in
    let r = pays_on f steps (past ++ step ∷ []) h.0 v (works_by step.event + n) lore facts (one_more f (opening_world f) w h.0 past step came h.1) h.3 none.1 on in
    subst (λ (k : ℕ). IsPaid f v k) (let e : worked steps + (works_by step.event + n) ≡ (works_by step.event + worked steps) + n = omega arith in e) r

pub faultless_pays : (f : Frame) (steps : List Step) (w : World) → Lore f → ((steps : List Step) (u : World) → Replays f steps u → Facts f u) →
    LeadsFaultless f (opening_world f) steps w → NoTick steps → IsPaid f w (worked steps)
faultless_pays f steps w lore facts h none =
    let r = pays_on f steps [] (opening_world f) w 0 lore facts refl h none (inl (omega arith)) in
    subst (λ (k : ℕ). IsPaid f w k) (let e : worked steps + 0 ≡ worked steps = omega arith in e) r

-- faultless steps are steps
pub leads_of : (f : Frame) (steps : List Step) (w v : World) → LeadsFaultless f w steps v → Leads f w steps v
leads_of f [] w v h = h
leads_of f (step ∷ steps) w v h = (h.0, h.1, leads_of f steps h.0 v h.3)
