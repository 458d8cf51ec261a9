-- What a process that asks an owner elsewhere is owed stays in every event of a faultless run: its Ask or its Answer is on its way or held, or its
-- call waits at the owner. An Ask may come before its owner knows the process; it is held then, until its place is reached.
use Rattle.std.proofs.Common.{◌≡◌, ◌≤◌, ◌<◌, ◌==◌, ◌||◌, ◌⊎◌, inl, inr, ⊎_elim, ℕ, Bool, true, false, Option, Some, None, List, [], ◌∷◌, ◌++◌, length, refl, sym, ap, ◌∙◌, arith, subst, nat_lt, nat_le, if◌then◌else◌, is_some}
use Rattle.std.specs.Prelude.{IsTrue}
use Rattle.std.specs.List.{find}
use Rattle.std.proofs.lemmas.Bool.{and_parts, cases_lt, cond_both, eqb-false, eqb-true, leb-true, ltb-true}
use Rattle.orca_base.specs.declared.ids.ObjectId.{ObjectId}
use Rattle.value_core.specs.declared.action.Action.{Action}
use Rattle.value_core.specs.declared.action.Line.{Line}
use Rattle.value_core.specs.declared.message.Message.{Message}
use Rattle.book_law.specs.Events.{Calls}
use Rattle.group_rules.specs.Member.{Letter}
use Rattle.group_rules.specs.Sets.{with_at}
use Rattle.group_rules.specs.Steps.{deliver}
use Rattle.net_rules.specs.declared.flight.Flight.{Flight}
use Rattle.net_rules.specs.Flights.{is_ready_copy, without}
use Rattle.net_rules.specs.Script.{without_first}
use Rattle.world_rules.specs.declared.event.Event as world
use Rattle.world_rules.specs.declared.event.Event.TheVariants as event
use Rattle.world_rules.specs.Applying.{applies_all}
use Rattle.world_rules.specs.Frame.{Frame, group}
use Rattle.world_rules.specs.Mail.{Carried, Errand, Mail, is_whole, place_of}
use Rattle.world_rules.specs.Mail.Errand.{Ask, Answer}
use Rattle.world_rules.specs.Nodes.{Node, NodeWork, becomes, idle, joins, known, mails_of}
use Rattle.world_rules.specs.Owners.{arrives, holds, is_held, takes, takes_each}
use Rattle.world_rules.specs.Parts.{acts_of, catches_up, computes, performs_all}
use Rattle.world_rules.specs.Played.{Played}
use Rattle.world_rules.specs.Played.Stage.{Asking, Computing}
use Rattle.world_rules.specs.Processes.{home_in, owner_in}
use Rattle.world_rules.specs.Steps.{AtWork, Known, Possible, after_part, comes, comes_whole, happens, lives_in, untouched}
use Rattle.world_rules.specs.Worlds.{World, home_of}
use Rattle.world_law.specs.Asks.{AskIsTrue, AsksAreTrue, MailAsksTrue, WasAsked}
use Rattle.world_law.specs.Holds.{Holds}
use Rattle.world_law.specs.Homes.{StepsHome}
use Rattle.world_law.proofs.Maps.{at_both, at_here}
use Rattle.world_law.proofs.Onwards.{on_arrives, on_catches}
use Rattle.world_law.proofs.Still.{still_reached, still_takes}
use Rattle.world_idle.proofs.Acted.{Acted, acted}
use Rattle.world_idle.proofs.Calls.{HasCall}
use Rattle.world_idle.proofs.Level.{bounded_at, errand_low, held_low, same_player}
use Rattle.world_idle.proofs.Own.{even_rounds}
use Rattle.world_idle.proofs.OwnSteps.{First, Start, first_acts}
use Rattle.world_idle.proofs.Owed.{Caught, part_mails}
use Rattle.world_idle.proofs.Owes.{After, Owed, arrived_answer, arrived_ask, asked_here, begins_arrives, heard_here, part_owed}
use Rattle.world_idle.proofs.Owes.Owed.{AskFlies, AnswerFlies, AskSent, AnswerSent, AskHeld, CallWaits, AnswerHeld}
use Rattle.world_idle.proofs.Sent.{IsOutAt, never_ran, same_node, stayed}
use Rattle.world_idle.proofs.SingleEvents.{asks_found, both_on, gone_by, not_off, starts_by}
use Rattle.world_idle.proofs.Singles.{Part, Starts, owed_nodes}
use Rattle.world_idle.proofs.Taking.{AllUpTo, AnswerFor, AskFor, AskUpTo, Bounded, Has, MailTo, has_left, has_right, takes_held}
use Rattle.world_enough.specs.Faultless.{IsPlain, IsTick}

-- ---- what is given

-- of the world before the event
pub record Given (f : Frame) (w : World) : Type 0 where
  pub holds : Holds f w
  pub law : StepsHome f
  pub start : Start f w
  pub homes : (j : ℕ) → home_of f w j < f.settings.nodes
  pub inside : (m : ℕ) → m < f.settings.nodes → (w.nodes m).member.outside ≡ false
  pub live : (m : ℕ) → m < f.settings.nodes → w.lives m ≡ true

-- of a process of member h that asks owner k with call c, by what members know after the event, and before it
pub record Asker (f : Frame) (w : World) (nodes : ℕ → Node) (i c h k : ℕ) (r : Played) (act : Action) (o : ObjectId) : Type 0 where
  pub here : (nodes h).played i ≡ Some r
  pub is : r.stage ≡ Asking act
  pub calls : Calls act o
  pub number : length r.replies ≡ c
  pub other : h ≡ k → ⊥
  pub low : h < f.settings.nodes
  pub owner_low : k < f.settings.nodes
  pub inside : (m : ℕ) → m < f.settings.nodes → (nodes m).member.outside ≡ false
  pub counted : (m : ℕ) → (nodes m).copies.processes ≡ length (known f (nodes m))
  pub home : (m : ℕ) → m < f.settings.nodes → i < length (known f (nodes m)) → home_in (known f (nodes m)) i ≡ h
  pub reached : (m : ℕ) → m < f.settings.nodes → r.place ≤ (nodes m).copies.applied → i < length (known f (nodes m))
  pub plays : i < length (known f (nodes h))
  -- whoever played it before is its member; the object's owner, where its maker was known; where it asked before, what was owed, and who
  -- had its call waiting knew it
  pub was_home : (m : ℕ) (t : Played) → (w.nodes m).played i ≡ Some t → m ≡ h
  pub owner : o.process < length (known f (w.nodes h)) → owner_in (known f (w.nodes h)) o ≡ k
  pub before : (w.nodes h).played i ≡ Some r → Owed f.settings.nodes w.nodes w.flights [] i c h k
  pub waits :
      (m : ℕ) → m < f.settings.nodes → (w.nodes h).played i ≡ Some r → HasCall i c (w.nodes m).copies.waits →
      (home_in (known f (w.nodes m)) i ≡ h) × (i < (w.nodes m).copies.processes)

abbrev pub GoesOn : Frame → World → ℕ → ℕ → ℕ → ℕ → Played → Action → ObjectId → AtWork → Type 0
GoesOn f w i c h k r act o u = Given f w → Asker f w u.world.nodes i c h k r act o → Owed f.settings.nodes u.world.nodes u.world.flights u.mails i c h k

pub asking_now : (r : Played) (act : Action) → r.stage ≡ Asking act → r.stage ≡ Computing → ⊥
asking_now r act e d = let c : Asking act ≡ Computing = sym e ∙ d in cc c

-- ---- an Ask whose place isn't reached is held

abbrev Late : ℕ → ℕ → ℕ → Errand → Type 0
Late i c n e = AskFor i c e × (n < place_of e)

late_place : (r : Played) (place n c : ℕ) (x : Message) → x.call.0 ≡ c → length r.replies ≡ c → n < r.place → WasAsked r place x → n < place
late_place r place n c x number e late (inl l) = absurd (omega (arith, number, e, l))
late_place r place n c x number e late (inr l) = subst (λ (y : ℕ). n < y) (sym l.2) late

late_ask : (f : Frame) (w : World) (h i n c : ℕ) (r : Played) (e : Errand) → StepsHome f → Holds f w → (w.nodes h).played i ≡ Some r → length r.replies ≡ c → n < r.place → AskIsTrue w.nodes e → AskFor i c e → n < place_of e
late_ask f w h i n c r (Ask place x) law holds here number late s is =
    let e = same_player f w s.member h i r s.process law holds (ap (w.nodes s.member).played (sym is.0) ∙ s.here) here in
    late_place r place n c x is.1 number late (subst (λ (z : Played). WasAsked z place x) e s.was)
late_ask f w h i n c r (Answer place j call reply) law holds here number late s is = absurd is

late_asks : (f : Frame) (w : World) (h i n c : ℕ) (r : Played) (es : List Errand) → StepsHome f → Holds f w → (w.nodes h).played i ≡ Some r → length r.replies ≡ c → n < r.place → AsksAreTrue w.nodes es → Has (AskFor i c) es → Has (Late i c n) es
late_asks f w h i n c r [] law holds here number late s has = absurd has
late_asks f w h i n c r (e ∷ es) law holds here number late s (inl x) = inl (x, late_ask f w h i n c r e law holds here number late s.0 x)
late_asks f w h i n c r (e ∷ es) law holds here number late s (inr x) = inr (late_asks f w h i n c r es law holds here number late s.1 x)

asks_of : (i c n : ℕ) (es : List Errand) → Has (Late i c n) es → Has (AskFor i c) es
asks_of i c n [] h = absurd h
asks_of i c n (e ∷ es) (inl x) = inl x.0
asks_of i c n (e ∷ es) (inr x) = inr (asks_of i c n es x)

each_keeps : (f : Frame) (m i c n : ℕ) (es : List Errand) (v : NodeWork) → v.node.copies.applied ≡ n → Has (Late i c n) es ⊎ Has (AskFor i c) v.node.held → Has (AskFor i c) (takes_each f m es v).node.held
each_keeps f m i c n [] v e (inl x) = absurd x
each_keeps f m i c n [] v e (inr x) = x
each_keeps f m i c n (one ∷ es) v e h = each_keeps f m i c n es u both.0 both.1
  where
    u : NodeWork
    u = if nat_le (place_of one) v.node.copies.applied then takes f m one v else holds one v

    taken : nat_le (place_of one) v.node.copies.applied ≡ true → Has (Late i c n) (one ∷ es) ⊎ Has (AskFor i c) v.node.held → Has (Late i c n) es ⊎ Has (AskFor i c) (takes f m one v).node.held
    taken d (inl (inl x)) = let l = x.1 in let g = leb-true (place_of one) v.node.copies.applied d in absurd (omega (arith, l, g, e))
    taken d (inl (inr x)) = inl x
    taken d (inr x) = inr (subst (Has (AskFor i c)) (sym (takes_held f m 0 0 0 [] refl one v)) x)

    held : Has (Late i c n) (one ∷ es) ⊎ Has (AskFor i c) v.node.held → Has (Late i c n) es ⊎ Has (AskFor i c) (holds one v).node.held
    held (inl (inl x)) = inr (has_right (AskFor i c) v.node.held (one ∷ []) (inl x.0))
    held (inl (inr x)) = inl x
    held (inr x) = inr (has_left (AskFor i c) v.node.held (one ∷ []) x)

    both : (u.node.copies.applied ≡ n) × (Has (Late i c n) es ⊎ Has (AskFor i c) u.node.held)
    both = cond_both (nat_le (place_of one) v.node.copies.applied) (takes f m one v) (holds one v) (λ (z : NodeWork). (z.node.copies.applied ≡ n) × (Has (Late i c n) es ⊎ Has (AskFor i c) z.node.held))
        (λ d. ((still_takes f (group f) m m one v).applied ∙ e, taken d h)) (λ d. (e, held h))

caught_keeps : (f : Frame) (m i c n : ℕ) (first : NodeWork) → (catches_up f m first).node.copies.applied ≡ n → Has (Late i c n) first.node.held → Has (AskFor i c) (catches_up f m first).node.held
caught_keeps f m i c n first e x = cond_both u.node.member.outside u (takes_each f m u.node.held (becomes (record u.node { held = [] }) u)) (λ (z : NodeWork). Has (AskFor i c) z.node.held)
    (λ d. asks_of i c n u.node.held late) (λ d. each_keeps f m i c n u.node.held (becomes (record u.node { held = [] }) u) level (inl late))
  where
    u : NodeWork
    u = applies_all f m first

    late : Has (Late i c n) (applies_all f m first).node.held
    late = subst (Has (Late i c n)) (sym (even_rounds f m first.node.member.waiting first).held) x

    level : (applies_all f m first).node.copies.applied ≡ n
    level = sym (still_reached f (group f) m m (applies_all f m first)).applied ∙ e

-- ---- a burst

burst_owed : (f : Frame) (w : World) (j place : ℕ) (lines : List Line) (end : Played) (m i c h k : ℕ) (r : Played) (act : Action) (o : ObjectId) → (IsOutAt end.stage → ⊥) →
    GoesOn f w i c h k r act o (after_part f m (computes j place lines end (w.nodes m)) (untouched w))
burst_owed f w j place lines end m i c h k r act o never g a =
    owed_nodes f.settings.nodes w.nodes (with_at w.nodes m v.node) w.flights (mails_of v.deeds) i c h k
    (λ x. at_both w.nodes m v.node x (λ (n : Node). n.held ≡ (w.nodes x).held) (λ e. ap (λ (n : Node). n.held) same ∙ ap (λ (y : ℕ). (w.nodes y).held) (sym e)) (λ no. refl))
    (λ x. at_both w.nodes m v.node x (λ (n : Node). n.copies.waits ≡ (w.nodes x).copies.waits) (λ e. ap (λ (n : Node). n.copies.waits) same ∙ ap (λ (y : ℕ). (w.nodes y).copies.waits) (sym e)) (λ no. refl))
    (a.before old)
  where
    v : NodeWork
    v = computes j place lines end (w.nodes m)

    p : NodeWork
    p = performs_all place lines (idle (w.nodes m))

    same : p.node ≡ w.nodes m
    same = same_node place lines (idle (w.nodes m))

    old : (w.nodes h).played i ≡ Some r
    old = at_both w.nodes m v.node h (λ (n : Node). n.played i ≡ Some r → (w.nodes h).played i ≡ Some r)
        (λ e d. at_both p.node.played j (Some end) i (λ (q : Option Played). q ≡ Some r → (w.nodes h).played i ≡ Some r)
        (λ x y. let z : end ≡ r = cc in absurd (never (subst (λ (s : Played). IsOutAt s.stage) (sym z) (subst IsOutAt (sym a.is) tt))))
        (λ x y. ap (λ (n : ℕ). (w.nodes n).played i) e ∙ ap (λ (n : Node). n.played i) (sym same) ∙ y) d)
        (λ no d. d) a.here

-- ---- a member's part

part_goes : (f : Frame) (w : World) (flights : List (Flight Carried)) (m : ℕ) (first : NodeWork) (i c h k : ℕ) (r : Played) (act : Action) (o : ObjectId) → Given f w →
    Asker f w (with_at w.nodes m (catches_up f m first).node) i c h k r act o → Part f w flights m i c h k r first → AsksAreTrue w.nodes first.node.held → first.node.copies.processes ≡ (w.nodes m).copies.processes →
    Owed f.settings.nodes (with_at w.nodes m (catches_up f m first).node) flights (mails_of (catches_up f m first).deeds) i c h k
part_goes f w flights m first i c h k r act o g a p asks count = by (h == m) refl
  where
    at : with_at w.nodes m (catches_up f m first).node m ≡ (catches_up f m first).node
    at = at_here w.nodes m (catches_up f m first).node

    to_end : i < length (known f (with_at w.nodes m (catches_up f m first).node m)) → i < length (known f (catches_up f m first).node)
    to_end lt = subst (λ (n : Node). i < length (known f n)) at lt

    caught : i < length (known f (catches_up f m first).node) → Caught f m i h first
    caught lt = record {
      inside = sym (ap (λ (n : Node). n.member.outside) at) ∙ a.inside m p.low;
      home = sym (ap (λ (n : Node). home_in (known f n) i) at) ∙ a.home m p.low (subst (λ (n : Node). i < length (known f n)) (sym at) lt);
    }

    at_end : m ≡ h → (catches_up f m first).node.played i ≡ Some r
    at_end e = sym (ap (λ (n : Node). n.played i) at) ∙ ap (λ (x : ℕ). (with_at w.nodes m (catches_up f m first).node x).played i) e ∙ a.here

    mine : m ≡ h → i < length (known f (catches_up f m first).node)
    mine e = to_end (subst (λ (x : ℕ). i < length (known f (with_at w.nodes m (catches_up f m first).node x))) (sym e) a.plays)

    finish : (lt : i < length (known f (catches_up f m first).node)) → After f w.nodes flights m i c h k first (caught lt) a.other → Owed f.settings.nodes (with_at w.nodes m (catches_up f m first).node) flights (mails_of (catches_up f m first).deeds) i c h k
    finish lt (inl owed) = owed
    finish lt (inr ended) = absurd (ended.1 r act (at_end ended.0) a.is a.number)

    -- it is known here at the end
    known_goes : (w.nodes h).played i ≡ Some r → i < length (known f (catches_up f m first).node) → Owed f.settings.nodes (with_at w.nodes m (catches_up f m first).node) flights (mails_of (catches_up f m first).deeds) i c h k
    known_goes was lt = finish lt (go (p.starts (a.before was)))
      where
        go : Starts f w flights m i c h k first → After f w.nodes flights m i c h k first (caught lt) a.other
        go (inl owed) = part_owed f w.nodes flights m i c h k first (caught lt) a.other (p.begins was) owed
        go (inr (inl x)) = let b = (p.begins was).bound x.0 in asked_here f w.nodes flights m i c h k first (caught lt) a.other x.0 b.0 b.1 x.1
        go (inr (inr x)) = heard_here f w.nodes flights m i c h k first (caught lt) a.other x.0 x.1

    -- or it isn't: then its place isn't reached here
    unknown_goes : (w.nodes h).played i ≡ Some r → length (known f (catches_up f m first).node) ≤ i → Owed f.settings.nodes (with_at w.nodes m (catches_up f m first).node) flights (mails_of (catches_up f m first).deeds) i c h k
    unknown_goes was le = go (p.starts (a.before was))
      where
        never : i < length (known f (catches_up f m first).node) → ⊥
        never lt = absurd (omega (arith, lt, le))

        far : m ≡ h → ⊥
        far e = never (mine e)

        late : (catches_up f m first).node.copies.applied < r.place
        late = ⊎_elim (λ l. l) (λ l. absurd (never (to_end (a.reached m p.low (subst (λ (n : Node). r.place ≤ n.copies.applied) (sym at) l))))) (cases_lt (catches_up f m first).node.copies.applied r.place)

        stays : Has (AskFor i c) first.node.held → Has (AskFor i c) (catches_up f m first).node.held
        stays x = caught_keeps f m i c (catches_up f m first).node.copies.applied first refl (late_asks f w h i (catches_up f m first).node.copies.applied c r first.node.held g.law g.holds was a.number late asks x)

        held_here : m ≡ k → Has (AskFor i c) first.node.held → Owed f.settings.nodes (with_at w.nodes m (catches_up f m first).node) flights (mails_of (catches_up f m first).deeds) i c h k
        held_here e x = AskHeld (subst (λ (j : ℕ). Has (AskFor i c) (with_at w.nodes m (catches_up f m first).node j).held) e (subst (λ (n : Node). Has (AskFor i c) n.held) (sym at) (stays x)))

        grows : (w.nodes m).copies.processes ≤ length (known f (with_at w.nodes m (catches_up f m first).node m))
        grows = let up = (on_catches f m first).more in let e = a.counted m in let d = ap (λ (n : Node). n.copies.processes) at in omega (arith, up, e, d, count)

        owed : Owed f.settings.nodes w.nodes flights [] i c h k → Owed f.settings.nodes (with_at w.nodes m (catches_up f m first).node) flights (mails_of (catches_up f m first).deeds) i c h k
        owed (AskFlies x) = AskFlies x
        owed (AnswerFlies x) = AnswerFlies x
        owed (AskSent x) = absurd x
        owed (AnswerSent x) = absurd x
        owed (AskHeld x) = by (k == m) refl
          where
            by : (q : Bool) → (k == m) ≡ q → Owed f.settings.nodes (with_at w.nodes m (catches_up f m first).node) flights (mails_of (catches_up f m first).deeds) i c h k
            by true e = let s = sym (eqb-true k m e) in held_here s ((p.begins was).asks s (subst (λ (j : ℕ). Has (AskFor i c) (w.nodes j).held) (sym s) x))
            by false e = AskHeld (at_both w.nodes m (catches_up f m first).node k (λ (n : Node). Has (AskFor i c) n.held) (λ d. absurd (eqb-false k m e d)) (λ d. x))
        owed (CallWaits x) = by (k == m) refl
          where
            by : (q : Bool) → (k == m) ≡ q → Owed f.settings.nodes (with_at w.nodes m (catches_up f m first).node) flights (mails_of (catches_up f m first).deeds) i c h k
            by true e =
                let s : m ≡ k = sym (eqb-true k m e) in
                let l = (a.waits m p.low was (subst (λ (j : ℕ). HasCall i c (w.nodes j).copies.waits) (sym s) x)).1 in
                let up = grows in
                absurd (never (to_end (omega (arith, l, up))))
            by false e = CallWaits (at_both w.nodes m (catches_up f m first).node k (λ (n : Node). HasCall i c n.copies.waits) (λ d. absurd (eqb-false k m e d)) (λ d. x))
        owed (AnswerHeld x) = AnswerHeld (at_both w.nodes m (catches_up f m first).node h (λ (n : Node). Has (AnswerFor i c) n.held) (λ d. absurd (far (sym d))) (λ d. x))

        go : Starts f w flights m i c h k first → Owed f.settings.nodes (with_at w.nodes m (catches_up f m first).node) flights (mails_of (catches_up f m first).deeds) i c h k
        go (inl x) = owed x
        go (inr (inl x)) = held_here x.0 x.1
        go (inr (inr x)) = absurd (far x.0)

    old : (w.nodes h).played i ≡ Some r → Owed f.settings.nodes (with_at w.nodes m (catches_up f m first).node) flights (mails_of (catches_up f m first).deeds) i c h k
    old was = ⊎_elim (λ lt. known_goes was lt) (λ le. unknown_goes was le) (cases_lt i (length (known f (catches_up f m first).node)))

    by : (q : Bool) → (h == m) ≡ q → Owed f.settings.nodes (with_at w.nodes m (catches_up f m first).node) flights (mails_of (catches_up f m first).deeds) i c h k
    by true e =
        let here : m ≡ h = sym (eqb-true h m e) in
        let earlier = stayed first.node.copies.processes i (first.node.played i) ((catches_up f m first).node.played i) r ((on_catches f m first).each i) (at_end here) (asking_now r act a.is) in
        ⊎_elim (λ was. old (ap (λ (x : ℕ). (w.nodes x).played i) (sym here) ∙ was)) (λ sent. AskSent (part_mails f m i c h first (caught (mine here)) (MailTo k (AskFor i c)) (sent here))) (p.back earlier)
    by false e = old (at_both w.nodes m (catches_up f m first).node h (λ (n : Node). n.played i ≡ Some r → (w.nodes h).played i ≡ Some r) (λ d. absurd (eqb-false h m e d)) (λ no d. d) a.here)

-- ---- an action

act_owed : (f : Frame) (w : World) (j i c h k : ℕ) (r : Played) (act : Action) (o : ObjectId) →
    GoesOn f w i c h k r act o (after_part f (home_of f w j) (catches_up f (home_of f w j) (acts_of f (home_of f w j) j ((w.nodes (home_of f w j)).played j) (idle (w.nodes (home_of f w j))))) (untouched w))
act_owed f w j i c h k r act o g a = part_goes f w w.flights m first i c h k r act o g a (record {
  low = g.homes j;
  back = back;
  begins = λ was. record {
    asks = λ e x. subst (Has (AskFor i c)) (sym did.held) x;
    waits = λ e x. did.waits i c h (a.waits m (g.homes j) was x).0 (λ d. a.other (sym d ∙ e)) x;
    heard = λ e x. subst (Has (AnswerFor i c)) (sym did.held) x;
    bound = λ e. (
      did.bound i c (λ d. a.other (sym (mine was d) ∙ e)) (subst (λ (z : ℕ). Bounded i z (idle (w.nodes m))) a.number (bounded_at f w m h i r g.law g.holds was)),
      subst (AllUpTo i c) (sym did.held) (subst (λ (z : ℕ). AllUpTo i z (w.nodes m).held) a.number (held_low f w h i r (w.nodes m).held g.law g.holds was (g.holds.asks.held m))),
    );
  };
  starts = λ x. inl x;
}) (subst (AsksAreTrue w.nodes) (sym did.held) (g.holds.asks.held m)) begun.count
  where
    m : ℕ
    m = home_of f w j

    first : NodeWork
    first = acts_of f m j ((w.nodes m).played j) (idle (w.nodes m))

    did : Acted f m j (w.nodes m) first
    did = acted f m j ((w.nodes m).played j) (w.nodes m)

    begun : First (w.nodes m) first
    begun = first_acts f m j ((w.nodes m).played j) (w.nodes m) refl (g.start.home m) (g.start.known m) (g.start.own m)

    -- its own member
    mine : (w.nodes h).played i ≡ Some r → i ≡ j → m ≡ h
    mine was d = ap (λ (x : ℕ). home_of f w x) (sym d) ∙ g.law.home w h i r g.holds.grouped g.holds.home was

    back : first.node.played i ≡ Some r → ((w.nodes m).played i ≡ Some r) ⊎ (m ≡ h → Has (MailTo k (AskFor i c)) (mails_of first.deeds))
    back here = by (i == j) refl
      where
        by : (q : Bool) → (i == j) ≡ q → ((w.nodes m).played i ≡ Some r) ⊎ (m ≡ h → Has (MailTo k (AskFor i c)) (mails_of first.deeds))
        by false e = inl (did.others i r act (eqb-false i j e) here a.is)
        by true e =
            let d = eqb-true i j e in
            let there = begun.before i r here in
            let at : m ≡ h = a.was_home m there.0 there.1 in
            let low = begun.known i r act o here a.is a.calls in
            let count = begun.count in
            let all = (g.start.home m).counted in
            let owner : owner_in (known f (w.nodes m)) o ≡ k = ap (λ (x : ℕ). owner_in (known f (w.nodes x)) o) at ∙ a.owner (subst (λ (x : ℕ). o.process < length (known f (w.nodes x))) at (omega (arith, low, count, all))) in
            ⊎_elim
            (λ (sent : Has (MailTo (owner_in (known f (w.nodes m)) o) (AskFor j (length r.replies))) (mails_of first.deeds)).
            inr (λ x. subst (λ (y : ℕ). Has (MailTo k (AskFor i y)) (mails_of first.deeds)) a.number (subst (λ (y : ℕ). Has (MailTo k (AskFor y (length r.replies))) (mails_of first.deeds)) (sym d)
            (subst (λ (y : ℕ). Has (MailTo y (AskFor j (length r.replies))) (mails_of first.deeds)) owner sent))))
            (λ was. inl (ap (w.nodes m).played d ∙ was))
            (did.asks r act o (ap first.node.played (sym d) ∙ here) a.is a.calls (λ x. a.other (sym at ∙ sym x ∙ owner)))

-- ---- a packet comes

true_push : (nodes : ℕ → Node) (es : List Errand) (e : Errand) → AsksAreTrue nodes es → AskIsTrue nodes e → AsksAreTrue nodes (es ++ e ∷ [])
true_push nodes [] e h k = (k, tt)
true_push nodes (x ∷ es) e h k = (h.0, true_push nodes es e h.1 k)

true_arrives : (nodes : ℕ → Node) (n : Node) (e : Errand) → AsksAreTrue nodes n.held → AskIsTrue nodes e → AsksAreTrue nodes (arrives e (idle n)).node.held
true_arrives nodes n e h k = cond_both (n.member.outside || is_held e n.held) (idle n) (holds e (idle n)) (λ (u : NodeWork). AsksAreTrue nodes u.node.held) (λ d. h) (λ d. true_push nodes n.held e h k)

count_arrives : (n : Node) (e : Errand) → (arrives e (idle n)).node.copies.processes ≡ n.copies.processes
count_arrives n e = cond_both (n.member.outside || is_held e n.held) (idle n) (holds e (idle n)) (λ (u : NodeWork). u.node.copies.processes ≡ n.copies.processes) (λ d. refl) (λ d. refl)

letter_owed : (f : Frame) (w : World) (P : Flight Carried → Bool) (flight : Flight Carried) (letter : Letter Message) (i c h k : ℕ) (r : Played) (act : Action) (o : ObjectId) → find P w.flights ≡ Some flight → flight.packet.mail ≡ Mail.Grouped letter →
    GoesOn f w i c h k r act o (comes f (record w { flights = without_first P w.flights }) (Mail.Grouped letter))
letter_owed f w P flight letter i c h k r act o found is =
    cond_both (lives_in f start letter.to) (after_part f letter.to (catches_up f letter.to first) (untouched start)) (untouched start) (GoesOn f w i c h k r act o)
    (λ e g a. part_goes f w (without_first P w.flights) letter.to first i c h k r act o g a (record {
      low = ltb-true letter.to f.settings.nodes (and_parts (nat_lt letter.to f.settings.nodes) (w.lives letter.to) e).0;
      back = λ here. inl here;
      begins = λ was. record {
        asks = λ s x. x;
        waits = λ s x. inl x;
        heard = λ s x. x;
        bound = λ s. let b = subst (λ (z : ℕ). Bounded i z (idle (w.nodes letter.to))) a.number (bounded_at f w letter.to h i r g.law g.holds was) in (
          record { given = b.given; waits = b.waits },
          subst (λ (z : ℕ). AllUpTo i z (w.nodes letter.to).held) a.number (held_low f w h i r (w.nodes letter.to).held g.law g.holds was (g.holds.asks.held letter.to)),
        );
      };
      starts = starts_by f w P flight (Mail.Grouped letter) letter.to i c h k first found is (λ x. absurd x) (λ x. absurd x);
    }) (g.holds.asks.held letter.to) refl)
    (λ e g a. gone_by f w P flight i c h k found (λ x. subst (MailTo k (AskFor i c)) is x.1) (λ x. subst (MailTo h (AnswerFor i c)) is x.1) (a.before a.here))
  where
    start : World
    start = record w { flights = without_first P w.flights }

    first : NodeWork
    first = joins (deliver (group f) letter.to letter.packet (w.nodes letter.to).member) (idle (w.nodes letter.to))

errand_owed : (f : Frame) (w : World) (P : Flight Carried → Bool) (flight : Flight Carried) (incarnation from to : ℕ) (errand : Errand) (i c h k : ℕ) (r : Played) (act : Action) (o : ObjectId) → find P w.flights ≡ Some flight → flight.packet.mail ≡ Mail.Sends incarnation from to errand →
    GoesOn f w i c h k r act o (comes f (record w { flights = without_first P w.flights }) (Mail.Sends incarnation from to errand))
errand_owed f w P flight incarnation from to errand i c h k r act o found is =
    cond_both (lives_in f start to) (after_part f to (catches_up f to first) (untouched start)) (untouched start) (GoesOn f w i c h k r act o)
    (λ e g a.
    let low = ltb-true to f.settings.nodes (and_parts (nat_lt to f.settings.nodes) (w.lives to) e).0 in
    let asks = subst (MailAsksTrue w.nodes) is (asks_found w.nodes P w.flights flight g.holds.asks.flights found) in
    part_goes f w (without_first P w.flights) to first i c h k r act o g a (record {
      low = low;
      back = λ here. inl (stayed (w.nodes to).copies.processes i ((w.nodes to).played i) (first.node.played i) r ((on_arrives errand (idle (w.nodes to))).each i) here (asking_now r act a.is));
      begins = λ was. begins_arrives f to i c h k errand (w.nodes to) (λ s. (
        subst (λ (z : ℕ). Bounded i z (idle (w.nodes to))) a.number (bounded_at f w to h i r g.law g.holds was),
        subst (λ (z : ℕ). AllUpTo i z (w.nodes to).held) a.number (held_low f w h i r (w.nodes to).held g.law g.holds was (g.holds.asks.held to)),
        subst (λ (z : ℕ). AskUpTo i z errand) a.number (errand_low f w h i r errand g.law g.holds was asks),
      ));
      starts = starts_by f w P flight (Mail.Sends incarnation from to errand) to i c h k first found is
          (λ x. (x.0, arrived_ask i c errand (w.nodes to) (g.inside to low) x.1)) (λ x. (x.0, arrived_answer i c errand (w.nodes to) (g.inside to low) x.1));
    }) (true_arrives w.nodes (w.nodes to) errand (g.holds.asks.held to) asks) (count_arrives (w.nodes to) errand))
    (λ e g a. gone_by f w P flight i c h k found
    (λ x. let y = subst (MailTo k (AskFor i c)) is x.1 in not_off (lives_in f w to) (ap (lives_in f w) y.0 ∙ both_on f w k a.owner_low (g.live k a.owner_low)) e)
    (λ x. let y = subst (MailTo h (AnswerFor i c)) is x.1 in not_off (lives_in f w to) (ap (lives_in f w) y.0 ∙ both_on f w h a.low (g.live h a.low)) e)
    (a.before a.here))
  where
    start : World
    start = record w { flights = without_first P w.flights }

    first : NodeWork
    first = arrives errand (idle (w.nodes to))

mail_owed : (f : Frame) (w : World) (P : Flight Carried → Bool) (flight : Flight Carried) (mail : Mail) (i c h k : ℕ) (r : Played) (act : Action) (o : ObjectId) → find P w.flights ≡ Some flight → flight.packet.mail ≡ mail →
    GoesOn f w i c h k r act o (comes f (record w { flights = without_first P w.flights }) mail)
mail_owed f w P flight (Mail.Grouped letter) i c h k r act o found is = letter_owed f w P flight letter i c h k r act o found is
mail_owed f w P flight (Mail.Sends incarnation from to errand) i c h k r act o found is = errand_owed f w P flight incarnation from to errand i c h k r act o found is

flight_owed : (f : Frame) (w : World) (P : Flight Carried → Bool) (flight : Flight Carried) (i c h k : ℕ) (r : Played) (act : Action) (o : ObjectId) → find P w.flights ≡ Some flight →
    GoesOn f w i c h k r act o (comes_whole f (record w { flights = without_first P w.flights }) (Some flight))
flight_owed f w P flight i c h k r act o found =
    cond_both (is_whole f.settings.nodes flight.packet) (comes f (record w { flights = without_first P w.flights }) flight.packet.mail) (untouched (record w { flights = without_first P w.flights })) (GoesOn f w i c h k r act o)
    (λ e g a. mail_owed f w P flight flight.packet.mail i c h k r act o found refl g a)
    (λ e g a. gone_by f w P flight i c h k found (λ x. not_off (is_whole f.settings.nodes flight.packet) x.0 e) (λ x. not_off (is_whole f.settings.nodes flight.packet) x.0 e) (a.before a.here))

deliver_owed : (f : Frame) (w : World) (packet copy i c h k : ℕ) (r : Played) (act : Action) (o : ObjectId) (found : Option (Flight Carried)) → find (is_ready_copy packet copy) w.flights ≡ found → IsTrue (is_some found) →
    GoesOn f w i c h k r act o (comes_whole f (record w { flights = without packet copy w.flights }) found)
deliver_owed f w packet copy i c h k r act o None e some = absurd (cc some)
deliver_owed f w packet copy i c h k r act o (Some flight) e some = flight_owed f w (is_ready_copy packet copy) flight i c h k r act o e

-- ---- each event

pub event_owed : (f : Frame) (w : World) (e : world.Event) (given : Known e) → Possible f w e given → IsPlain e → (IsTick e → ⊥) → (i c h k : ℕ) (r : Played) (act : Action) (o : ObjectId) → GoesOn f w i c h k r act o (happens f w e given)
event_owed f w (event.Burst process place turns) burst possible plain none i c h k r act o =
    burst_owed f w process.0 place burst.reads burst.end (home_of f w process.0) i c h k r act o (λ d. never_ran f _ place process _ possible.start burst.reads burst.end possible.ran d)
event_owed f w (event.Act process) given possible plain none i c h k r act o = act_owed f w process.0 i c h k r act o
event_owed f w (event.Deliver packet copy) given possible plain none i c h k r act o = deliver_owed f w packet copy i c h k r act o (find (is_ready_copy packet copy) w.flights) refl possible
event_owed f w event.Tick given possible plain none i c h k r act o = absurd (none tt)
event_owed f w (event.Crash node) given possible plain none i c h k r act o = absurd plain
event_owed f w (event.Suspect node) given possible plain none i c h k r act o = absurd plain
event_owed f w event.Swap given possible plain none i c h k r act o = absurd plain
