-- Where each member applied the whole list and nothing is in flight, what is owed to a process that asks an owner is a call that waits there.
use Rattle.std.proofs.Common.{◌≡◌, ◌<◌, ◌==◌, ℕ, Bool, true, false, Some, List, [], length, refl, sym, ap, ◌∙◌, arith, subst}
use Rattle.std.specs.Prelude.{slice_get}
use Rattle.std.proofs.lemmas.Bool.{eqb-false, eqb-true, lt-ltb}
use Rattle.orca_base.specs.declared.ids.ObjectId.{ObjectId}
use Rattle.value_core.specs.declared.action.Action.{Action}
use Rattle.book_law.specs.Events.{Calls}
use Rattle.book_law.specs.Singles.{waiting}
use Rattle.world_rules.specs.Frame.{Frame}
use Rattle.world_rules.specs.Mail.{Mail}
use Rattle.world_rules.specs.Nodes.{known}
use Rattle.world_rules.specs.Played.{Played}
use Rattle.world_rules.specs.Played.Stage.{Asking}
use Rattle.world_rules.specs.Processes.{Begun, home_or_first, owner_in}
use Rattle.world_rules.specs.Standings.{waits_at_owner}
use Rattle.world_rules.specs.Worlds.{World, agreed, processes_of}
use Rattle.world_law.specs.Homes.{StepsHome}
use Rattle.world_idle.proofs.Calls.{HasCall}
use Rattle.world_idle.proofs.Level.{AllLevel, known_level}
use Rattle.world_idle.proofs.Owed.{Flies}
use Rattle.world_idle.proofs.Owes.{Owed}
use Rattle.world_idle.proofs.Owes.Owed.{AskFlies, AnswerFlies, AskSent, AnswerSent, AskHeld, CallWaits, AnswerHeld}
use Rattle.world_idle.proofs.Resting.{Facts, Lore, among, got}
use Rattle.world_idle.proofs.SingleDone.{answers_late, asks_late, some_waits, waits_true}
use Rattle.world_idle.proofs.Taking.{AnswerFor, AskFor, MailTo}
use Rattle.world_enough.proofs.Knowing.{maker_known}
use Rattle.world_enough.proofs.Owing.{Held, Lives}

module _ (f : Frame) (lore : Lore f) (law : StepsHome f) (w : World) (facts : Facts f w) (lives : Lives f w) (held : Held f w) (empty : w.flights ≡ []) (level : AllLevel f w) where
  copied : (m : ℕ) → m < f.settings.nodes → (w.nodes m).copies.applied ≡ length (agreed f w)
  copied m low = sym (facts.holds.grouped.level m) ∙ level m low

  no_flight : (P : Mail → Type 0) → Flies f.settings.nodes P w.flights → ⊥
  no_flight P x = subst (Flies f.settings.nodes P) empty x

  module _ (h i : ℕ) (r : Played) (act : Action) (o : ObjectId) (low : h < f.settings.nodes) (here : (w.nodes h).played i ≡ Some r) (is : r.stage ≡ Asking act) (calls : Calls act o) where
    owner_low : owner_in (processes_of f w) o < f.settings.nodes
    owner_low = lore.homes w o.process

    served : HasCall i (length r.replies) (w.nodes (owner_in (processes_of f w) o)).copies.waits → waits_at_owner f w i act ≡ true
    served has = waits_true f w i act o calls (lives.live (owner_in (processes_of f w) o) owner_low) (lives.inside (owner_in (processes_of f w) o) owner_low)
        (lt-ltb 0 (waiting i (w.nodes (owner_in (processes_of f w) o)).copies.waits) (some_waits i (length r.replies) (w.nodes (owner_in (processes_of f w) o)).copies.waits has))

    by_owed : Owed f.settings.nodes w.nodes w.flights [] i (length r.replies) h (owner_in (processes_of f w) o) → waits_at_owner f w i act ≡ true
    by_owed (AskFlies x) = absurd (no_flight (MailTo (owner_in (processes_of f w) o) (AskFor i (length r.replies))) x)
    by_owed (AnswerFlies x) = absurd (no_flight (MailTo h (AnswerFor i (length r.replies))) x)
    by_owed (AskSent x) = absurd x
    by_owed (AnswerSent x) = absurd x
    by_owed (AskHeld x) =
        let owner = owner_in (processes_of f w) o in
        let l = asks_late f w h i (w.nodes owner).copies.applied r (w.nodes owner).held law facts.holds here (facts.holds.asks.held owner) (held.owes.late owner owner_low) x in
        let p = facts.holds.places.processes h i r here in
        let a = copied owner owner_low in
        let b = copied h low in
        absurd (omega (arith, l, p, a, b))
    by_owed (CallWaits x) = served x
    by_owed (AnswerHeld x) =
        let l = answers_late w.aside i (length r.replies) (w.nodes h).copies.applied (length (agreed f w)) (w.nodes h).held (λ p has. (facts.kept.beside p (among p w.aside has)).0) (facts.holds.answers.held h) (held.owes.late h low) x in
        let b = copied h low in
        absurd (omega (arith, l, b))

    -- its own member owns the object
    by_own : h ≡ owner_in (processes_of f w) o → waits_at_owner f w i act ≡ true
    by_own e =
        let knows : known f (w.nodes h) ≡ processes_of f w = known_level f w h lore facts.holds level low in
        let l = maker_known f w h i r act o facts here is calls in
        let n = ap (λ (ps : List Begun). length ps) knows in
        let b = got (processes_of f w) o.process (omega (arith, l, n)) in
        let begun = facts.kept.processes.begun h o.process b.0 (ap (λ (ps : List Begun). slice_get ps o.process) knows ∙ b.1) (sym (ap home_or_first b.1) ∙ sym e) in
        served (subst (λ (x : ℕ). HasCall i (length r.replies) (w.nodes x).copies.waits) e (held.own h i r act o begun.0 here is calls begun.1))

    pub waits_there : waits_at_owner f w i act ≡ true
    waits_there = by (h == owner_in (processes_of f w) o) refl
      where
        by : (q : Bool) → (h == owner_in (processes_of f w) o) ≡ q → waits_at_owner f w i act ≡ true
        by true e = by_own (eqb-true h (owner_in (processes_of f w) o) e)
        by false e = by_owed (held.owes.asks h i r act o here is calls (eqb-false h (owner_in (processes_of f w) o) e))
