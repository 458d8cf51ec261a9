-- Runs that may lose no member, with single objects: what is owed to processes that ask owners stays in an idle stretch, behind a tick.
use Rattle.std.proofs.Common.{◌≡◌, ◌<◌, ◌==◌, ◌⊎◌, inl, inr, ⊎_elim, ℕ, Bool, true, false, Option, Some, List, [], length, refl, sym, ap, ◌∙◌, subst}
use Rattle.std.proofs.lemmas.Bool.{eqb-false, eqb-true}
use Rattle.orca_base.specs.declared.ids.ObjectId.{ObjectId}
use Rattle.value_core.specs.declared.action.Action.{Action}
use Rattle.value_core.specs.declared.action.Line.{Line}
use Rattle.book_law.specs.Events.{Calls}
use Rattle.group_rules.specs.Sets.{with_at}
use Rattle.net_rules.specs.declared.flight.Flight.{Flight}
use Rattle.world_rules.specs.Frame.{Frame}
use Rattle.world_rules.specs.Mail.{Carried, Mail}
use Rattle.world_rules.specs.Nodes.{Node, NodeWork, idle, known, mails_of}
use Rattle.world_rules.specs.Parts.{acts_of, catches_up, computes, performs_all}
use Rattle.world_rules.specs.Played.{Played}
use Rattle.world_rules.specs.Played.Stage.{Asking, Computing}
use Rattle.world_rules.specs.Processes.{Begun, home_in, owner_in}
use Rattle.world_rules.specs.Worlds.{World, home_of, processes_of}
use Rattle.world_law.specs.Holds.{Holds}
use Rattle.world_law.specs.Homes.{StepsHome}
use Rattle.world_idle.proofs.Acted.{Acted, acted}
use Rattle.world_idle.proofs.Calls.{HasCall}
use Rattle.world_idle.proofs.Level.{bounded_at, held_low}
use Rattle.world_law.proofs.Maps.{at_both, at_here}
use Rattle.world_law.proofs.Onwards.{on_catches}
use Rattle.world_idle.proofs.Owed.{Caught}
use Rattle.world_idle.proofs.Owed.{part_mails}
use Rattle.world_idle.proofs.Owes.{After, Begins, Owed, asked_here, heard_here, part_owed}
use Rattle.world_idle.proofs.Owes.Owed.{AskFlies, AnswerFlies, AskSent, AnswerSent, AskHeld, CallWaits, AnswerHeld}
use Rattle.world_idle.proofs.Sent.{IsOutAt, same_node, stayed}
use Rattle.world_idle.proofs.Taking.{AllLate, AllUpTo, AnswerFor, AskFor, Bounded, Has, MailTo}

-- what holds of a world behind a tick, where each member applied the whole list
pub record Owes (f : Frame) (w : World) : Type 0 where
  pub late : (m : ℕ) → m < f.settings.nodes → AllLate (w.nodes m).held (w.nodes m).copies.applied
  pub asks :
      (h i : ℕ) (r : Played) (act : Action) (o : ObjectId) → (w.nodes h).played i ≡ Some r → r.stage ≡ Asking act → Calls act o →
      (h ≡ owner_in (processes_of f w) o → ⊥) → Owed f.settings.nodes w.nodes w.flights [] i (length r.replies) h (owner_in (processes_of f w) o)

asking_now : (r : Played) (act : Action) → r.stage ≡ Asking act → r.stage ≡ Computing → ⊥
asking_now r act e d = let c : Asking act ≡ Computing = sym e ∙ d in cc c

-- a process that asks at the end of a member's part
pub record Asker (nodes : ℕ → Node) (ps : List Begun) (i c h k : ℕ) (r : Played) (act : Action) (o : ObjectId) : Type 0 where
  pub here : (nodes h).played i ≡ Some r
  pub is : r.stage ≡ Asking act
  pub calls : Calls act o
  pub number : length r.replies ≡ c
  pub owner : owner_in ps o ≡ k
  pub other : h ≡ k → ⊥
  pub home : home_in ps i ≡ h

-- what is given of the step
pub record Given (f : Frame) (w : World) (nodes : ℕ → Node) (ps : List Begun) : Type 0 where
  pub holds : Holds f w
  pub law : StepsHome f
  pub homes : (j : ℕ) → home_of f w j < f.settings.nodes
  pub same : processes_of f w ≡ ps
  pub known_before : (m : ℕ) → m < f.settings.nodes → known f (w.nodes m) ≡ ps
  pub known_after : (m : ℕ) → m < f.settings.nodes → known f (nodes m) ≡ ps
  pub inside_before : (m : ℕ) → m < f.settings.nodes → (w.nodes m).member.outside ≡ false
  pub inside_after : (m : ℕ) → m < f.settings.nodes → (nodes m).member.outside ≡ false
  pub live : (m : ℕ) → m < f.settings.nodes → w.lives m ≡ true
  pub owes : Owes f w

pub owed_before : (f : Frame) (w : World) (nodes : ℕ → Node) (ps : List Begun) (i c h k : ℕ) (r : Played) (act : Action) (o : ObjectId) → Given f w nodes ps → Asker nodes ps i c h k r act o → (w.nodes h).played i ≡ Some r →
    Owed f.settings.nodes w.nodes w.flights [] i c h k
owed_before f w nodes ps i c h k r act o g a old =
    let e : owner_in (processes_of f w) o ≡ k = ap (λ (z : List Begun). owner_in z o) g.same ∙ a.owner in
    subst (λ (n : ℕ). Owed f.settings.nodes w.nodes w.flights [] i n h k) a.number
    (subst (λ (n : ℕ). Owed f.settings.nodes w.nodes w.flights [] i (length r.replies) h n) e
    (g.owes.asks h i r act o old a.is a.calls (λ d. a.other (d ∙ e))))

-- the nodes keep what is held and what waits
pub owed_nodes : (n : ℕ) (nodes more : ℕ → Node) (flights : List (Flight Carried)) (mails : List Mail) (i c h k : ℕ) → ((x : ℕ) → (more x).held ≡ (nodes x).held) → ((x : ℕ) → (more x).copies.waits ≡ (nodes x).copies.waits) →
    Owed n nodes flights [] i c h k → Owed n more flights mails i c h k
owed_nodes n nodes more flights mails i c h k held waits (AskFlies x) = AskFlies x
owed_nodes n nodes more flights mails i c h k held waits (AnswerFlies x) = AnswerFlies x
owed_nodes n nodes more flights mails i c h k held waits (AskSent x) = absurd x
owed_nodes n nodes more flights mails i c h k held waits (AnswerSent x) = absurd x
owed_nodes n nodes more flights mails i c h k held waits (AskHeld x) = AskHeld (subst (Has (AskFor i c)) (sym (held k)) x)
owed_nodes n nodes more flights mails i c h k held waits (CallWaits x) = CallWaits (subst (HasCall i c) (sym (waits k)) x)
owed_nodes n nodes more flights mails i c h k held waits (AnswerHeld x) = AnswerHeld (subst (Has (AnswerFor i c)) (sym (held h)) x)

-- ---- a burst

pub burst_owed : (f : Frame) (w : World) (j place turns : ℕ) (lines : List Line) (end : Played) (m : ℕ) (ps : List Begun) (i c h k : ℕ) (r : Played) (act : Action) (o : ObjectId) → (IsOutAt end.stage → ⊥) →
    let v = computes j place lines end (w.nodes m) in
    Given f w (with_at w.nodes m v.node) ps → Asker (with_at w.nodes m v.node) ps i c h k r act o → Owed f.settings.nodes (with_at w.nodes m v.node) w.flights (mails_of v.deeds) i c h k
burst_owed f w j place turns lines end m ps i c h k r act o never g a =
    owed_nodes f.settings.nodes w.nodes (with_at w.nodes m v.node) w.flights (mails_of v.deeds) i c h k
    (λ x. at_both w.nodes m v.node x (λ (n : Node). n.held ≡ (w.nodes x).held) (λ e. ap (λ (n : Node). n.held) same ∙ ap (λ (y : ℕ). (w.nodes y).held) (sym e)) (λ no. refl))
    (λ x. at_both w.nodes m v.node x (λ (n : Node). n.copies.waits ≡ (w.nodes x).copies.waits) (λ e. ap (λ (n : Node). n.copies.waits) same ∙ ap (λ (y : ℕ). (w.nodes y).copies.waits) (sym e)) (λ no. refl))
    (owed_before f w (with_at w.nodes m v.node) ps i c h k r act o g a old)
  where
    v : NodeWork
    v = computes j place lines end (w.nodes m)

    p : NodeWork
    p = performs_all place lines (idle (w.nodes m))

    same : p.node ≡ w.nodes m
    same = same_node place lines (idle (w.nodes m))

    old : (w.nodes h).played i ≡ Some r
    old = at_both w.nodes m v.node h (λ (n : Node). n.played i ≡ Some r → (w.nodes h).played i ≡ Some r)
        (λ e d. at_both p.node.played j (Some end) i (λ (q : Option Played). q ≡ Some r → (w.nodes h).played i ≡ Some r)
        (λ x y. let z : end ≡ r = cc in absurd (never (subst (λ (s : Played). IsOutAt s.stage) (sym z) (subst IsOutAt (sym a.is) tt))))
        (λ x y. ap (λ (n : ℕ). (w.nodes n).played i) e ∙ ap (λ (n : Node). n.played i) (sym same) ∙ y) d)
        (λ no d. d) a.here

-- ---- a member's part

-- what it begins with: what was owed, but for a packet that came
abbrev pub Starts : Frame → World → List (Flight Carried) → ℕ → ℕ → ℕ → ℕ → ℕ → NodeWork → Type 0
Starts f w flights m i c h k first = Owed f.settings.nodes w.nodes flights [] i c h k ⊎ (((m ≡ k) × Has (AskFor i c) first.node.held) ⊎ ((m ≡ h) × Has (AnswerFor i c) first.node.held))

pub record Part (f : Frame) (w : World) (flights : List (Flight Carried)) (m i c h k : ℕ) (r : Played) (first : NodeWork) : Type 0 where
  pub low : m < f.settings.nodes
  pub back : first.node.played i ≡ Some r → ((w.nodes m).played i ≡ Some r) ⊎ (m ≡ h → Has (MailTo k (AskFor i c)) (mails_of first.deeds))
  pub begins : (w.nodes h).played i ≡ Some r → Begins f m i c h k (w.nodes m) first
  pub starts : Owed f.settings.nodes w.nodes w.flights [] i c h k → Starts f w flights m i c h k first

pub part_goes : (f : Frame) (w : World) (flights : List (Flight Carried)) (m : ℕ) (first : NodeWork) (ps : List Begun) (i c h k : ℕ) (r : Played) (act : Action) (o : ObjectId) →
    Given f w (with_at w.nodes m (catches_up f m first).node) ps → Asker (with_at w.nodes m (catches_up f m first).node) ps i c h k r act o → Part f w flights m i c h k r first →
    Owed f.settings.nodes (with_at w.nodes m (catches_up f m first).node) flights (mails_of (catches_up f m first).deeds) i c h k
part_goes f w flights m first ps i c h k r act o g a p = by (h == m) refl
  where
    v : NodeWork
    v = catches_up f m first

    more : ℕ → Node
    more = with_at w.nodes m (catches_up f m first).node

    caught : Caught f m i h first
    caught = record {
      inside = sym (ap (λ (n : Node). n.member.outside) (at_here w.nodes m (catches_up f m first).node)) ∙ g.inside_after m p.low;
      home = ap (λ (z : List Begun). home_in z i) (sym (ap (known f) (at_here w.nodes m (catches_up f m first).node)) ∙ g.known_after m p.low) ∙ a.home;
    }

    at_end : m ≡ h → (catches_up f m first).node.played i ≡ Some r
    at_end e = sym (ap (λ (n : Node). n.played i) (at_here w.nodes m (catches_up f m first).node)) ∙ ap (λ (x : ℕ). (with_at w.nodes m (catches_up f m first).node x).played i) e ∙ a.here

    finish : After f w.nodes flights m i c h k first caught a.other → Owed f.settings.nodes (with_at w.nodes m (catches_up f m first).node) flights (mails_of (catches_up f m first).deeds) i c h k
    finish (inl owed) = owed
    finish (inr ended) = absurd (ended.1 r act (at_end ended.0) a.is a.number)

    old : (w.nodes h).played i ≡ Some r → Owed f.settings.nodes (with_at w.nodes m (catches_up f m first).node) flights (mails_of (catches_up f m first).deeds) i c h k
    old was = finish (go (p.starts (owed_before f w (with_at w.nodes m (catches_up f m first).node) ps i c h k r act o g a was)))
      where
        go : Starts f w flights m i c h k first → After f w.nodes flights m i c h k first caught a.other
        go (inl owed) = part_owed f w.nodes flights m i c h k first caught a.other (p.begins was) owed
        go (inr (inl x)) = let b = (p.begins was).bound x.0 in asked_here f w.nodes flights m i c h k first caught a.other x.0 b.0 b.1 x.1
        go (inr (inr x)) = heard_here f w.nodes flights m i c h k first caught a.other x.0 x.1

    by : (q : Bool) → (h == m) ≡ q → Owed f.settings.nodes (with_at w.nodes m (catches_up f m first).node) flights (mails_of (catches_up f m first).deeds) i c h k
    by true e =
        let at : m ≡ h = sym (eqb-true h m e) in
        let earlier = stayed first.node.copies.processes i (first.node.played i) ((catches_up f m first).node.played i) r ((on_catches f m first).each i) (at_end at) (asking_now r act a.is) in
        ⊎_elim (λ was. old (ap (λ (x : ℕ). (w.nodes x).played i) (sym at) ∙ was)) (λ sent. AskSent (part_mails f m i c h first caught (MailTo k (AskFor i c)) (sent at))) (p.back earlier)
    by false e = old (at_both w.nodes m (catches_up f m first).node h (λ (n : Node). n.played i ≡ Some r → (w.nodes h).played i ≡ Some r) (λ d. absurd (eqb-false h m e d)) (λ no d. d) a.here)

-- ---- an action

pub act_owed : (f : Frame) (w : World) (j : ℕ) (ps : List Begun) (i c h k : ℕ) (r : Played) (act : Action) (o : ObjectId) →
    let m = home_of f w j in
    let v = catches_up f m (acts_of f m j ((w.nodes m).played j) (idle (w.nodes m))) in
    Given f w (with_at w.nodes m v.node) ps → Asker (with_at w.nodes m v.node) ps i c h k r act o → Owed f.settings.nodes (with_at w.nodes m v.node) w.flights (mails_of v.deeds) i c h k
act_owed f w j ps i c h k r act o g a = part_goes f w w.flights m first ps i c h k r act o g a (record {
  low = g.homes j;
  back = back;
  begins = λ was. record {
    asks = λ e x. subst (Has (AskFor i c)) (sym did.held) x;
    waits = λ e x. did.waits i c h (ap (λ (z : List Begun). home_in z i) (g.known_before m (g.homes j)) ∙ a.home) (λ d. a.other (sym d ∙ e)) x;
    heard = λ e x. subst (Has (AnswerFor i c)) (sym did.held) x;
    bound = λ e. (
      did.bound i c (λ d. a.other (sym (mine d) ∙ e)) (subst (λ (z : ℕ). Bounded i z (idle (w.nodes m))) a.number (bounded_at f w m h i r g.law g.holds was)),
      subst (AllUpTo i c) (sym did.held) (subst (λ (z : ℕ). AllUpTo i z (w.nodes m).held) a.number (held_low f w h i r (w.nodes m).held g.law g.holds was (g.holds.asks.held m))),
    );
  };
  starts = λ x. inl x;
})
  where
    m : ℕ
    m = home_of f w j

    first : NodeWork
    first = acts_of f m j ((w.nodes m).played j) (idle (w.nodes m))

    did : Acted f m j (w.nodes m) first
    did = acted f m j ((w.nodes m).played j) (w.nodes m)

    -- its own member
    mine : i ≡ j → m ≡ h
    mine d = ap (λ (x : ℕ). home_in (processes_of f w) x) (sym d) ∙ ap (λ (z : List Begun). home_in z i) g.same ∙ a.home

    knows : known f (w.nodes m) ≡ ps
    knows = g.known_before m (g.homes j)

    back : first.node.played i ≡ Some r → ((w.nodes m).played i ≡ Some r) ⊎ (m ≡ h → Has (MailTo k (AskFor i c)) (mails_of first.deeds))
    back here = by (i == j) refl
      where
        by : (q : Bool) → (i == j) ≡ q → ((w.nodes m).played i ≡ Some r) ⊎ (m ≡ h → Has (MailTo k (AskFor i c)) (mails_of first.deeds))
        by false e = inl (did.others i r act (eqb-false i j e) here a.is)
        by true e =
            let d = eqb-true i j e in
            let owner : owner_in (known f (w.nodes m)) o ≡ k = ap (λ (z : List Begun). owner_in z o) knows ∙ a.owner in
            ⊎_elim
            (λ (sent : Has (MailTo (owner_in (known f (w.nodes m)) o) (AskFor j (length r.replies))) (mails_of first.deeds)).
            inr (λ x. subst (λ (y : ℕ). Has (MailTo k (AskFor i y)) (mails_of first.deeds)) a.number (subst (λ (y : ℕ). Has (MailTo k (AskFor y (length r.replies))) (mails_of first.deeds)) (sym d)
            (subst (λ (y : ℕ). Has (MailTo y (AskFor j (length r.replies))) (mails_of first.deeds)) owner sent))))
            (λ was. inl (ap (w.nodes m).played d ∙ was))
            (did.asks r act o (ap first.node.played (sym d) ∙ here) a.is a.calls (λ x. a.other (sym (mine d) ∙ sym x ∙ owner)))
