-- A step of a stretch: what is owed stays, and begins at a tick.
use Rattle.std.proofs.Common.{◌≡◌, ◌≤◌, ◌<◌, ◌-◌, ℕ, true, false, Some, List, [], ◌∷◌, ◌++◌, length, refl, sym, ap, ◌∙◌, arith, subst}
use Rattle.orca_base.specs.declared.ids.ObjectId.{ObjectId}
use Rattle.value_core.specs.declared.action.Action.{Action}
use Rattle.book_law.specs.Events.{Calls}
use Rattle.world_rules.specs.declared.event.Event as world
use Rattle.world_rules.specs.declared.event.Event.TheVariants as event
use Rattle.world_rules.specs.declared.event.Step.{Step}
use Rattle.world_rules.specs.Frame.{Frame}
use Rattle.world_rules.specs.Nodes.{Node, known}
use Rattle.world_rules.specs.Played.{Played}
use Rattle.world_rules.specs.Played.Stage.{Asking}
use Rattle.world_rules.specs.Processes.{Begun, home_in, owner_in, processes_in}
use Rattle.world_rules.specs.Steps.{AtWork, Known, Next, Replays, happens, passes_tick}
use Rattle.world_rules.specs.Worlds.{World, agreed, home_of, opening_world, processes_of}
use Rattle.world_law.specs.Homes.{StepsHome}
use Rattle.world_idle.specs.Faults.{is_fault, most_held, tick_by}
use Rattle.world_idle.proofs.Letters.{AllHeld}
use Rattle.world_idle.specs.Stretches.{AllInside, AllSame}
use Rattle.world_idle.proofs.Behind.{each_passes, no_act}
use Rattle.world_idle.proofs.Flying.{held_most}
use Rattle.world_idle.proofs.Lasting.{dead, held_event, one_more}
use Rattle.world_idle.proofs.Level.{AllLevel, all_live, known_level, level_back}
use Rattle.world_idle.proofs.Owes.{Owed, owed_posts}
use Rattle.world_idle.proofs.Owes.Owed.{AskSent}
use Rattle.world_idle.proofs.Sent.{posts_keep}
use Rattle.world_idle.proofs.Singles.{Asker, Given, Owes}
use Rattle.world_idle.proofs.Taking.{AllLate, AskFor, Has, MailTo}
use Rattle.world_idle.proofs.Walking.{Ruled, may_all}
use Rattle.world_idle.proofs.SingleLate.{event_owed, late_event, late_ticks}
use Rattle.world_idle.proofs.SingleTicks.{tick_mail}

-- ---- a step that isn't a fault

tick_is : (f : Frame) (w : World) (e : world.Event) (given : Known e) → tick_by e ≡ 1 → happens f w e given ≡ passes_tick f w
tick_is f w (event.Burst process place turns) burst t = absurd (omega (arith, t))
tick_is f w (event.Act process) given t = absurd (omega (arith, t))
tick_is f w (event.Deliver packet copy) given t = absurd (omega (arith, t))
tick_is f w event.Tick given t = refl
tick_is f w (event.Crash node) given t = absurd (omega (arith, t))
tick_is f w (event.Suspect node) given t = absurd (omega (arith, t))
tick_is f w event.Swap given t = absurd (omega (arith, t))

module _ (f : Frame) (k : Ruled f) (law : StepsHome f) (none : f.settings.resilience ≡ 0) (past : List Step) (w v : World) (step : Step) (came : Replays f past w) (next : Next f w step v) (fine : is_fault step ≡ false)
    (same : AllSame f w v) (before : AllInside f w) (after : AllInside f v) (few : dead f w.lives ≤ f.settings.resilience) (level : AllLevel f v) where
  on : Replays f (past ++ step ∷ []) v
  on = one_more f (opening_world f) w v past step came next

  some : 0 < f.settings.nodes
  some = let l = k.settings.some in omega (arith, l)

  back : AllLevel f w × (agreed f v ≡ agreed f w)
  back = level_back f w v step k.lore some (k.holds past w came) next (may_all f w step.event (k.may past w came)) same level

  live : (m : ℕ) → m < f.settings.nodes → w.lives m ≡ true
  live = all_live f.settings.nodes w.lives (omega (arith, few, none))

  nodes : v.nodes ≡ (happens f w step.event next.given).world.nodes
  nodes = ap (λ (z : World). z.nodes) next.after ∙ (posts_keep f (happens f w step.event next.given).world (happens f w step.event next.given).mails step.fates).0

  knows : (m : ℕ) → m < f.settings.nodes → known f (v.nodes m) ≡ processes_of f v
  knows m low = known_level f v m k.lore (k.holds (past ++ step ∷ []) v on) level low

  list : processes_of f v ≡ processes_of f w
  list = ap (processes_in f) back.1

  inside_on : (m : ℕ) → m < f.settings.nodes → ((happens f w step.event next.given).world.nodes m).member.outside ≡ false
  inside_on m low = ap (λ (z : ℕ → Node). (z m).member.outside) (sym nodes) ∙ after m low

  held : AllHeld (happens f w step.event next.given).world.sent (most_held w.flights - tick_by step.event) (happens f w step.event next.given).world.flights
  held = held_event f (most_held w.flights) w step.event next.given (no_act step fine) (held_most f w.sent w.flights (k.holds past w came).numbered.each)

  posted_on : (i c h owner : ℕ) → Owed f.settings.nodes (happens f w step.event next.given).world.nodes (happens f w step.event next.given).world.flights (happens f w step.event next.given).mails i c h owner →
      Owed f.settings.nodes v.nodes v.flights [] i c h owner
  posted_on i c h owner x =
      subst (λ (z : ℕ → Node). Owed f.settings.nodes z v.flights [] i c h owner) (sym nodes)
      (subst (λ (z : World). Owed f.settings.nodes (happens f w step.event next.given).world.nodes z.flights [] i c h owner) (sym next.after)
      (owed_posts f (most_held w.flights - tick_by step.event) i c h owner (happens f w step.event next.given).world (happens f w step.event next.given).mails step.fates (each_passes step fine) next.fates held x))

  module _ (h i : ℕ) (r : Played) (act : Action) (o : ObjectId) (here : (v.nodes h).played i ≡ Some r) (is : r.stage ≡ Asking act) (calls : Calls act o) (other : h ≡ owner_in (processes_of f v) o → ⊥) where
    at_home : home_of f v i ≡ h
    at_home = let holds = k.holds (past ++ step ∷ []) v on in law.home v h i r holds.grouped holds.home here

    low : h < f.settings.nodes
    low = subst (λ (x : ℕ). x < f.settings.nodes) at_home (k.lore.homes v i)

    ticked_owed : tick_by step.event ≡ 1 → Owed f.settings.nodes (happens f w step.event next.given).world.nodes (happens f w step.event next.given).world.flights (happens f w step.event next.given).mails i (length r.replies) h (owner_in (processes_of f v) o)
    ticked_owed t =
        let e = tick_is f w step.event next.given t in
        AskSent (subst (λ (z : AtWork). Has (MailTo (owner_in (processes_of f v) o) (AskFor i (length r.replies))) z.mails) (sym e)
        (tick_mail f k.laws w v (nodes ∙ ap (λ (z : AtWork). z.world.nodes) e) (k.holds past w came) (k.holds (past ++ step ∷ []) v on) same after h low (live h low) (knows h low) i r act o here is calls at_home other))

    asker : Asker (happens f w step.event next.given).world.nodes (processes_of f w) i (length r.replies) h (owner_in (processes_of f v) o) r act o
    asker = record {
      here = ap (λ (z : ℕ → Node). (z h).played i) (sym nodes) ∙ here;
      is = is;
      calls = calls;
      number = refl;
      owner = ap (λ (z : List Begun). owner_in z o) (sym list);
      other = other;
      home = ap (λ (z : List Begun). home_in z i) (sym list) ∙ at_home;
    }

  pub stays_owed : (AllLevel f w → Owes f w) → Owes f v
  stays_owed owing = record {
    late = λ m low. subst (λ (z : ℕ → Node). AllLate (z m).held (z m).copies.applied) (sym nodes) (late_event f w step.event next.given (no_act step fine) live (k.lore.homes w) (owing back.0).late inside_on m low);
    asks = λ h i r act o here is calls other. posted_on i (length r.replies) h (owner_in (processes_of f v) o)
        (event_owed f w step.event next.given next.possible (no_act step fine) (processes_of f w) i (length r.replies) h (owner_in (processes_of f v) o) r act o (ticked_owed h i r act o here is calls other) given (asker h i r act o here is calls other));
  }
    where
      given : Given f w (happens f w step.event next.given).world.nodes (processes_of f w)
      given = record {
        holds = k.holds past w came;
        law = law;
        homes = λ j. k.lore.homes w j;
        same = refl;
        known_before = λ m low. known_level f w m k.lore (k.holds past w came) back.0 low;
        known_after = λ m low. ap (λ (z : ℕ → Node). known f (z m)) (sym nodes) ∙ knows m low ∙ list;
        inside_before = before;
        inside_after = inside_on;
        live = live;
        owes = owing back.0;
      }

  pub starts_owed : tick_by step.event ≡ 1 → Owes f v
  starts_owed t = record {
    late = λ m low. subst (λ (z : ℕ → Node). AllLate (z m).held (z m).copies.applied) (sym (nodes ∙ ap (λ (z : AtWork). z.world.nodes) (tick_is f w step.event next.given t)))
        (late_ticks f w live (λ x l. ap (λ (z : ℕ → Node). (z x).member.outside) (sym (nodes ∙ ap (λ (z : AtWork). z.world.nodes) (tick_is f w step.event next.given t))) ∙ after x l) m low);
    asks = λ h i r act o here is calls other. posted_on i (length r.replies) h (owner_in (processes_of f v) o) (ticked_owed h i r act o here is calls other t);
  }
