-- A faultless step: what is owed to processes that ask owners stays, and so does what each member holds for a later place.
use Rattle.std.proofs.Common.{◌≡◌, ◌<◌, ◌-◌, ℕ, true, false, Some, List, [], ◌∷◌, length, refl, sym, ap, ◌∙◌, arith, subst}
use Rattle.orca_base.specs.declared.ids.ObjectId.{ObjectId}
use Rattle.value_core.specs.declared.action.Action.{Action}
use Rattle.book_law.specs.Events.{Calls}
use Rattle.net_rules.specs.declared.flight.Flight.{Flight}
use Rattle.world_rules.specs.declared.event.Event as world
use Rattle.world_rules.specs.declared.event.Event.TheVariants as event
use Rattle.world_rules.specs.declared.event.Step.{Step}
use Rattle.world_rules.specs.Frame.{Frame}
use Rattle.world_rules.specs.Mail.{Carried}
use Rattle.world_rules.specs.Nodes.{Node, known}
use Rattle.world_rules.specs.Played.{Played}
use Rattle.world_rules.specs.Played.Stage.{Asking}
use Rattle.world_rules.specs.Processes.{home_in, owner_in}
use Rattle.world_rules.specs.Steps.{Next, happens}
use Rattle.world_rules.specs.Worlds.{World, home_of, opening_world, processes_of}
use Rattle.world_facts.specs.Processes.{AllBegin}
use Rattle.world_law.specs.Grouped.{Submits as MayAll}
use Rattle.world_law.specs.Homes.{StepsHome}
use Rattle.world_idle.specs.Faults.{is_from_wire, tick_by}
use Rattle.world_idle.proofs.Calls.{HasCall}
use Rattle.world_idle.proofs.Lasting.{held_event}
use Rattle.world_idle.proofs.Letters.{AllHeld}
use Rattle.world_idle.proofs.Owes.{Owed, owed_posts}
use Rattle.world_idle.proofs.OwnSteps.{AllOwn, Start, own_step}
use Rattle.world_idle.proofs.Resting.{Facts, Lore}
use Rattle.world_idle.proofs.Sent.{opening_computes, posts_keep}
use Rattle.world_idle.proofs.SingleLate.{late_event}
use Rattle.world_idle.proofs.Singles.{Owes}
use Rattle.world_idle.proofs.Taking.{AllLate}
use Rattle.world_enough.specs.Faultless.{IsFaultless, IsPlain, IsTick}
use Rattle.world_enough.specs.Tie.{AreCalm}
use Rattle.world_enough.proofs.Askers.{Asker, Given, asking_now, event_owed}
use Rattle.world_enough.proofs.Knowing.{home_known, home_stays, known_low, maker_known, reached_known, waits_known}

-- ---- what is given

pub record Lives (f : Frame) (w : World) : Type 0 where
  pub live : (m : ℕ) → m < f.settings.nodes → w.lives m ≡ true
  pub inside : (m : ℕ) → m < f.settings.nodes → (w.nodes m).member.outside ≡ false
  pub calm : AreCalm w.sent w.flights

pub record Held (f : Frame) (w : World) : Type 0 where
  pub owes : Owes f w
  pub own : AllOwn w.nodes

calm_held : (n : ℕ) (flights : List (Flight Carried)) → AreCalm n flights → AllHeld n 0 flights
calm_held n [] h = tt
calm_held n (one ∷ flights) h = (record { within = omega (arith, h.0.ready); known = h.0.known }, calm_held n flights h.1)

not_wire : (e : world.Event) → IsPlain e → is_from_wire e ≡ false
not_wire (event.Burst process place turns) plain = refl
not_wire (event.Act process) plain = refl
not_wire (event.Deliver packet copy) plain = refl
not_wire event.Tick plain = refl
not_wire (event.Crash node) plain = absurd plain
not_wire (event.Suspect node) plain = absurd plain
not_wire event.Swap plain = absurd plain

pub start_of : (f : Frame) (w : World) → Facts f w → AllOwn w.nodes → Start f w
start_of f w facts own = record {
  own = own;
  known = λ m i r act o here is calls. let l = maker_known f w m i r act o facts here is calls in let d = (facts.holds.home m).counted in omega (arith, l, d);
  home = facts.holds.home;
}

-- ---- a step

module _ (f : Frame) (begins : AllBegin) (lore : Lore f) (law : StepsHome f) (w v : World) (step : Step) (next : Next f w step v) (may : MayAll f w step.event) (less : IsFaultless w step) (none : IsTick step.event → ⊥)
    (before : Facts f w) (after : Facts f v) (lives : Lives f w) (still : Lives f v) (held : Held f w) where
  nodes : v.nodes ≡ (happens f w step.event next.given).world.nodes
  nodes = ap (λ (z : World). z.nodes) next.after ∙ (posts_keep f (happens f w step.event next.given).world (happens f w step.event next.given).mails step.fates).0

  free : AllHeld (happens f w step.event next.given).world.sent (0 - tick_by step.event) (happens f w step.event next.given).world.flights
  free = held_event f 0 w step.event next.given (not_wire step.event less.plain) (calm_held w.sent w.flights lives.calm)

  posted_on : (i c h k : ℕ) → Owed f.settings.nodes (happens f w step.event next.given).world.nodes (happens f w step.event next.given).world.flights (happens f w step.event next.given).mails i c h k → Owed f.settings.nodes v.nodes v.flights [] i c h k
  posted_on i c h k x =
      subst (λ (z : ℕ → Node). Owed f.settings.nodes z v.flights [] i c h k) (sym nodes)
      (subst (λ (z : World). Owed f.settings.nodes (happens f w step.event next.given).world.nodes z.flights [] i c h k) (sym next.after)
      (owed_posts f (0 - tick_by step.event) i c h k (happens f w step.event next.given).world (happens f w step.event next.given).mails step.fates less.fates next.fates free x))

  given : Given f w
  given = record {
    holds = before.holds;
    law = law;
    start = start_of f w before held.own;
    homes = λ j. lore.homes w j;
    inside = lives.inside;
    live = lives.live;
  }

  module _ (h i : ℕ) (r : Played) (act : Action) (o : ObjectId) (here : (v.nodes h).played i ≡ Some r) (is : r.stage ≡ Asking act) (calls : Calls act o) (other : h ≡ owner_in (processes_of f v) o → ⊥) where
    at_home : home_of f v i ≡ h
    at_home = law.home v h i r after.holds.grouped after.holds.home here

    low : h < f.settings.nodes
    low = subst (λ (x : ℕ). x < f.settings.nodes) at_home (lore.homes v i)

    -- who played it before
    was_home : (m : ℕ) (t : Played) → (w.nodes m).played i ≡ Some t → m ≡ h
    was_home m t was =
        let e : home_of f w i ≡ m = law.home w m i t before.holds.grouped before.holds.home was in
        let there : m < f.settings.nodes = subst (λ (x : ℕ). x < f.settings.nodes) e (lore.homes w i) in
        let a = (before.holds.home m).known_here i t was in
        let b = known_low f w m begins lore before.holds there in
        sym e ∙ (sym (home_stays f w v step i begins lore before.holds next may (omega (arith, a, b))) ∙ at_home)

    -- the object's owner stays, once its maker is known
    owner_as : o.process < length (known f (w.nodes h)) → owner_in (processes_of f w) o ≡ owner_in (processes_of f v) o
    owner_as lt =
        let b = known_low f w h begins lore before.holds low in
        sym (home_stays f w v step o.process begins lore before.holds next may (omega (arith, lt, b)))

    owed_before : (w.nodes h).played i ≡ Some r → Owed f.settings.nodes w.nodes w.flights [] i (length r.replies) h (owner_in (processes_of f v) o)
    owed_before was =
        let e = owner_as (maker_known f w h i r act o before was is calls) in
        subst (λ (k : ℕ). Owed f.settings.nodes w.nodes w.flights [] i (length r.replies) h k) e (held.owes.asks h i r act o was is calls (λ d. other (d ∙ e)))

    waits_before : (m : ℕ) → m < f.settings.nodes → (w.nodes h).played i ≡ Some r → HasCall i (length r.replies) (w.nodes m).copies.waits →
        (home_in (known f (w.nodes m)) i ≡ h) × (i < (w.nodes m).copies.processes)
    waits_before m there was has =
        let lt = waits_known f w h m i (length r.replies) r begins lore law before there was refl has in
        let d = (before.holds.home m).counted in
        (home_known f w m i begins lore before.holds there lt ∙ law.home w h i r before.holds.grouped before.holds.home was, omega (arith, lt, d))

    asker : Asker f w v.nodes i (length r.replies) h (owner_in (processes_of f v) o) r act o
    asker = record {
      here = here;
      is = is;
      calls = calls;
      number = refl;
      other = other;
      low = low;
      owner_low = lore.homes v o.process;
      inside = still.inside;
      counted = λ m. (after.holds.home m).counted;
      home = λ m there lt. home_known f v m i begins lore after.holds there lt ∙ at_home;
      reached = λ m there le. reached_known f v h m i r begins lore after there here le;
      plays = (after.holds.home h).known_here i r here;
      was_home = was_home;
      owner = λ lt. home_known f w h o.process begins lore before.holds low lt ∙ owner_as lt;
      before = owed_before;
      waits = waits_before;
    }

    owed_after : Owed f.settings.nodes v.nodes v.flights [] i (length r.replies) h (owner_in (processes_of f v) o)
    owed_after = posted_on i (length r.replies) h (owner_in (processes_of f v) o)
        (event_owed f w step.event next.given next.possible less.plain none i (length r.replies) h (owner_in (processes_of f v) o) r act o given
        (subst (λ (z : ℕ → Node). Asker f w z i (length r.replies) h (owner_in (processes_of f v) o) r act o) nodes asker))

  pub held_step : Held f v
  held_step = record {
    owes = record {
      late = λ m there. subst (λ (z : ℕ → Node). AllLate (z m).held (z m).copies.applied) (sym nodes)
          (late_event f w step.event next.given (not_wire step.event less.plain) lives.live (lore.homes w) held.owes.late (λ x l. ap (λ (z : ℕ → Node). (z x).member.outside) (sym nodes) ∙ still.inside x l) m there);
      asks = owed_after;
    };
    own = own_step f w v step next (start_of f w before held.own) (λ m i r here. (after.holds.home m).home i r here);
  }

-- ---- the opening world: nobody asks

pub opening_held : (f : Frame) → Held f (opening_world f)
opening_held f = record {
  owes = record {
    late = λ m there. tt;
    asks = λ h i r act o here is calls other. absurd (asking_now r act is (opening_computes f h i r here));
  };
  own = λ m i r act o s here is calls maker. absurd (asking_now r act is (opening_computes f m i r here));
}
