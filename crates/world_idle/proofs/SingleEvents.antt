-- A delivery, and a tick.
use Rattle.std.proofs.Common.{◌≡◌, ◌<◌, ◌==◌, ◌&&◌, inl, inr, ⊎_elim, ℕ, zero, suc, Bool, true, false, cond, Some, None, List, [], ◌∷◌, refl, sym, ap, ◌∙◌, arith, subst, nat_lt}
use Rattle.std.specs.List.{find}
use Rattle.std.proofs.lemmas.Bool.{and_parts, cond_both, eqb-false, eqb-true, lt-ltb, ltb-true}
use Rattle.orca_base.specs.declared.ids.ObjectId.{ObjectId}
use Rattle.value_core.specs.declared.action.Action.{Action}
use Rattle.value_core.specs.declared.message.Message.{Message}
use Rattle.group_rules.specs.Member.{Letter}
use Rattle.group_rules.specs.Steps.{deliver}
use Rattle.net_rules.specs.declared.flight.Flight.{Flight}
use Rattle.net_rules.specs.Script.{without_first}
use Rattle.world_rules.specs.Frame.{Frame, group}
use Rattle.world_rules.specs.Mail.{Carried, Errand, Mail, is_whole}
use Rattle.world_rules.specs.Nodes.{Node, NodeWork, idle, joins, mails_of}
use Rattle.world_rules.specs.Owners.{arrives}
use Rattle.world_rules.specs.Parts.{catches_up, ticks}
use Rattle.world_rules.specs.Played.{Played}
use Rattle.world_rules.specs.Played.Stage.{Asking, Computing}
use Rattle.world_rules.specs.Processes.{Begun, home_in}
use Rattle.world_rules.specs.Steps.{AtWork, after_part, comes, comes_whole, lives_in, ticks_at, ticks_below, untouched}
use Rattle.world_rules.specs.Worlds.{World}
use Rattle.world_law.specs.Asks.{FliesAsking, MailAsksTrue}
use Rattle.world_idle.proofs.Level.{bounded_at, errand_low, held_low}
use Rattle.world_law.proofs.Onwards.{on_arrives}
use Rattle.world_idle.proofs.Owed.{flies_taken}
use Rattle.world_idle.proofs.Owes.{Owed, arrived_answer, arrived_ask, begins_arrives}
use Rattle.world_idle.proofs.Owes.Owed.{AskFlies, AnswerFlies, AskSent, AnswerSent, AskHeld, CallWaits, AnswerHeld}
use Rattle.world_idle.proofs.Sent.{stayed}
use Rattle.world_idle.proofs.Singles.{Asker, Given, Starts, owed_before, part_goes}
use Rattle.world_idle.proofs.Taking.{AllUpTo, AnswerFor, AskFor, AskUpTo, Bounded, Has, MailTo, has_left, has_right}
use Rattle.world_idle.proofs.Ticking.{Timed, timed}

-- ---- a packet is taken out

pub starts_by : (f : Frame) (w : World) (P : Flight Carried → Bool) (flight : Flight Carried) (mail : Mail) (m i c h k : ℕ) (first : NodeWork) → find P w.flights ≡ Some flight → flight.packet.mail ≡ mail →
    (MailTo k (AskFor i c) mail → (m ≡ k) × Has (AskFor i c) first.node.held) → (MailTo h (AnswerFor i c) mail → (m ≡ h) × Has (AnswerFor i c) first.node.held) →
    Owed f.settings.nodes w.nodes w.flights [] i c h k → Starts f w (without_first P w.flights) m i c h k first
starts_by f w P flight mail m i c h k first found is ask answer (AskFlies x) = ⊎_elim (λ y. inl (AskFlies y)) (λ y. inr (inl (ask (subst (MailTo k (AskFor i c)) is y.1)))) (flies_taken f.settings.nodes (MailTo k (AskFor i c)) P w.flights flight found x)
starts_by f w P flight mail m i c h k first found is ask answer (AnswerFlies x) = ⊎_elim (λ y. inl (AnswerFlies y)) (λ y. inr (inr (answer (subst (MailTo h (AnswerFor i c)) is y.1)))) (flies_taken f.settings.nodes (MailTo h (AnswerFor i c)) P w.flights flight found x)
starts_by f w P flight mail m i c h k first found is ask answer (AskSent x) = absurd x
starts_by f w P flight mail m i c h k first found is ask answer (AnswerSent x) = absurd x
starts_by f w P flight mail m i c h k first found is ask answer (AskHeld x) = inl (AskHeld x)
starts_by f w P flight mail m i c h k first found is ask answer (CallWaits x) = inl (CallWaits x)
starts_by f w P flight mail m i c h k first found is ask answer (AnswerHeld x) = inl (AnswerHeld x)

-- where it comes to nobody
pub gone_by : (f : Frame) (w : World) (P : Flight Carried → Bool) (flight : Flight Carried) (i c h k : ℕ) → find P w.flights ≡ Some flight →
    ((is_whole f.settings.nodes flight.packet ≡ true) × MailTo k (AskFor i c) flight.packet.mail → ⊥) → ((is_whole f.settings.nodes flight.packet ≡ true) × MailTo h (AnswerFor i c) flight.packet.mail → ⊥) →
    Owed f.settings.nodes w.nodes w.flights [] i c h k → Owed f.settings.nodes w.nodes (without_first P w.flights) [] i c h k
gone_by f w P flight i c h k found ask answer (AskFlies x) = ⊎_elim (λ y. AskFlies y) (λ y. absurd (ask y)) (flies_taken f.settings.nodes (MailTo k (AskFor i c)) P w.flights flight found x)
gone_by f w P flight i c h k found ask answer (AnswerFlies x) = ⊎_elim (λ y. AnswerFlies y) (λ y. absurd (answer y)) (flies_taken f.settings.nodes (MailTo h (AnswerFor i c)) P w.flights flight found x)
gone_by f w P flight i c h k found ask answer (AskSent x) = absurd x
gone_by f w P flight i c h k found ask answer (AnswerSent x) = absurd x
gone_by f w P flight i c h k found ask answer (AskHeld x) = AskHeld x
gone_by f w P flight i c h k found ask answer (CallWaits x) = CallWaits x
gone_by f w P flight i c h k found ask answer (AnswerHeld x) = AnswerHeld x

pub asks_found : (nodes : ℕ → Node) (P : Flight Carried → Bool) (flights : List (Flight Carried)) (flight : Flight Carried) → FliesAsking nodes flights → find P flights ≡ Some flight → MailAsksTrue nodes flight.packet.mail
asks_found nodes P [] flight h e = absurd (let c : None ≡ Some flight = e in cc c)
asks_found nodes P (one ∷ more) flight h e = go (P one) (λ d. asks_found nodes P more flight h.1 d) e
  where
    go : (b : Bool) → (find P more ≡ Some flight → MailAsksTrue nodes flight.packet.mail) → cond b (Some one) (find P more) ≡ Some flight → MailAsksTrue nodes flight.packet.mail
    go true r d = let c : one ≡ flight = cc in subst (λ (z : Flight Carried). MailAsksTrue nodes z.packet.mail) c h.0
    go false r d = r d

-- ---- a packet comes

abbrev pub GoesOn : Frame → World → List Begun → ℕ → ℕ → ℕ → ℕ → Played → Action → ObjectId → AtWork → Type 0
GoesOn f w ps i c h k r act o u = Given f w u.world.nodes ps → Asker u.world.nodes ps i c h k r act o → Owed f.settings.nodes u.world.nodes u.world.flights u.mails i c h k

owner_low : (f : Frame) (w : World) (nodes : ℕ → Node) (ps : List Begun) (i c h k : ℕ) (r : Played) (act : Action) (o : ObjectId) → Given f w nodes ps → Asker nodes ps i c h k r act o → k < f.settings.nodes
owner_low f w nodes ps i c h k r act o g a = subst (λ (x : ℕ). x < f.settings.nodes) (ap (λ (z : List Begun). home_in z o.process) g.same ∙ a.owner) (g.homes o.process)

home_low : (f : Frame) (w : World) (nodes : ℕ → Node) (ps : List Begun) (i c h k : ℕ) (r : Played) (act : Action) (o : ObjectId) → Given f w nodes ps → Asker nodes ps i c h k r act o → h < f.settings.nodes
home_low f w nodes ps i c h k r act o g a = subst (λ (x : ℕ). x < f.settings.nodes) (ap (λ (z : List Begun). home_in z i) g.same ∙ a.home) (g.homes i)

pub both_on : (f : Frame) (w : World) (m : ℕ) → m < f.settings.nodes → w.lives m ≡ true → lives_in f w m ≡ true
both_on f w m low live = ap (λ b. b && w.lives m) (lt-ltb m f.settings.nodes low) ∙ live

pub not_off : (b : Bool) → b ≡ true → b ≡ false → ⊥
not_off true e d = cc d
not_off false e d = cc e

letter_owed : (f : Frame) (w : World) (P : Flight Carried → Bool) (flight : Flight Carried) (letter : Letter Message) (ps : List Begun) (i c h k : ℕ) (r : Played) (act : Action) (o : ObjectId) → find P w.flights ≡ Some flight → flight.packet.mail ≡ Mail.Grouped letter →
    GoesOn f w ps i c h k r act o (comes f (record w { flights = without_first P w.flights }) (Mail.Grouped letter))
letter_owed f w P flight letter ps i c h k r act o found is =
    cond_both (lives_in f start letter.to) (after_part f letter.to (catches_up f letter.to first) (untouched start)) (untouched start) (GoesOn f w ps i c h k r act o)
    (λ e g a. part_goes f w (without_first P w.flights) letter.to first ps i c h k r act o g a (record {
      low = ltb-true letter.to f.settings.nodes (and_parts (nat_lt letter.to f.settings.nodes) (w.lives letter.to) e).0;
      back = λ here. inl here;
      begins = λ was. record {
        asks = λ s x. x;
        waits = λ s x. inl x;
        heard = λ s x. x;
        bound = λ s. let b = subst (λ (z : ℕ). Bounded i z (idle (w.nodes letter.to))) a.number (bounded_at f w letter.to h i r g.law g.holds was) in (
          record { given = b.given; waits = b.waits },
          subst (λ (z : ℕ). AllUpTo i z (w.nodes letter.to).held) a.number (held_low f w h i r (w.nodes letter.to).held g.law g.holds was (g.holds.asks.held letter.to)),
        );
      };
      starts = starts_by f w P flight (Mail.Grouped letter) letter.to i c h k first found is (λ x. absurd x) (λ x. absurd x);
    }))
    (λ e g a. gone_by f w P flight i c h k found (λ x. subst (MailTo k (AskFor i c)) is x.1) (λ x. subst (MailTo h (AnswerFor i c)) is x.1) (owed_before f w w.nodes ps i c h k r act o g a a.here))
  where
    start : World
    start = record w { flights = without_first P w.flights }

    first : NodeWork
    first = joins (deliver (group f) letter.to letter.packet (w.nodes letter.to).member) (idle (w.nodes letter.to))

errand_owed : (f : Frame) (w : World) (P : Flight Carried → Bool) (flight : Flight Carried) (incarnation from to : ℕ) (errand : Errand) (ps : List Begun) (i c h k : ℕ) (r : Played) (act : Action) (o : ObjectId) → find P w.flights ≡ Some flight → flight.packet.mail ≡ Mail.Sends incarnation from to errand →
    GoesOn f w ps i c h k r act o (comes f (record w { flights = without_first P w.flights }) (Mail.Sends incarnation from to errand))
errand_owed f w P flight incarnation from to errand ps i c h k r act o found is =
    cond_both (lives_in f start to) (after_part f to (catches_up f to first) (untouched start)) (untouched start) (GoesOn f w ps i c h k r act o)
    (λ e g a.
    let low = ltb-true to f.settings.nodes (and_parts (nat_lt to f.settings.nodes) (w.lives to) e).0 in
    part_goes f w (without_first P w.flights) to first ps i c h k r act o g a (record {
      low = low;
      back = λ here. inl (stayed (w.nodes to).copies.processes i ((w.nodes to).played i) (first.node.played i) r ((on_arrives errand (idle (w.nodes to))).each i) here (asks_now a.is));
      begins = λ was. begins_arrives f to i c h k errand (w.nodes to) (λ s. (
        subst (λ (z : ℕ). Bounded i z (idle (w.nodes to))) a.number (bounded_at f w to h i r g.law g.holds was),
        subst (λ (z : ℕ). AllUpTo i z (w.nodes to).held) a.number (held_low f w h i r (w.nodes to).held g.law g.holds was (g.holds.asks.held to)),
        subst (λ (z : ℕ). AskUpTo i z errand) a.number (errand_low f w h i r errand g.law g.holds was (subst (MailAsksTrue w.nodes) is (asks_found w.nodes P w.flights flight g.holds.asks.flights found))),
      ));
      starts = starts_by f w P flight (Mail.Sends incarnation from to errand) to i c h k first found is
          (λ x. (x.0, arrived_ask i c errand (w.nodes to) (g.inside_before to low) x.1)) (λ x. (x.0, arrived_answer i c errand (w.nodes to) (g.inside_before to low) x.1));
    }))
    (λ e g a. gone_by f w P flight i c h k found
    (λ x. let y = subst (MailTo k (AskFor i c)) is x.1 in let low = owner_low f w w.nodes ps i c h k r act o g a in not_off (lives_in f w to) (ap (lives_in f w) y.0 ∙ both_on f w k low (g.live k low)) e)
    (λ x. let y = subst (MailTo h (AnswerFor i c)) is x.1 in let low = home_low f w w.nodes ps i c h k r act o g a in not_off (lives_in f w to) (ap (lives_in f w) y.0 ∙ both_on f w h low (g.live h low)) e)
    (owed_before f w w.nodes ps i c h k r act o g a a.here))
  where
    start : World
    start = record w { flights = without_first P w.flights }

    first : NodeWork
    first = arrives errand (idle (w.nodes to))

    asks_now : r.stage ≡ Asking act → r.stage ≡ Computing → ⊥
    asks_now q d = let x : Asking act ≡ Computing = sym q ∙ d in cc x

mail_owed : (f : Frame) (w : World) (P : Flight Carried → Bool) (flight : Flight Carried) (mail : Mail) (ps : List Begun) (i c h k : ℕ) (r : Played) (act : Action) (o : ObjectId) → find P w.flights ≡ Some flight → flight.packet.mail ≡ mail →
    GoesOn f w ps i c h k r act o (comes f (record w { flights = without_first P w.flights }) mail)
mail_owed f w P flight (Mail.Grouped letter) ps i c h k r act o found is = letter_owed f w P flight letter ps i c h k r act o found is
mail_owed f w P flight (Mail.Sends incarnation from to errand) ps i c h k r act o found is = errand_owed f w P flight incarnation from to errand ps i c h k r act o found is

pub deliver_owed : (f : Frame) (w : World) (P : Flight Carried → Bool) (flight : Flight Carried) (ps : List Begun) (i c h k : ℕ) (r : Played) (act : Action) (o : ObjectId) → find P w.flights ≡ Some flight →
    GoesOn f w ps i c h k r act o (comes_whole f (record w { flights = without_first P w.flights }) (Some flight))
deliver_owed f w P flight ps i c h k r act o found =
    cond_both (is_whole f.settings.nodes flight.packet) (comes f (record w { flights = without_first P w.flights }) flight.packet.mail) (untouched (record w { flights = without_first P w.flights })) (GoesOn f w ps i c h k r act o)
    (λ e g a. mail_owed f w P flight flight.packet.mail ps i c h k r act o found refl g a)
    (λ e g a. gone_by f w P flight i c h k found (λ x. not_off (is_whole f.settings.nodes flight.packet) x.0 e) (λ x. not_off (is_whole f.settings.nodes flight.packet) x.0 e) (owed_before f w w.nodes ps i c h k r act o g a a.here))

-- ---- a tick

pub ticks_mails : (f : Frame) (w : World) (Q : Mail → Type 0) (n x : ℕ) → x < n → w.lives x ≡ true → Has Q (mails_of (ticks f x (w.nodes x)).deeds) → Has Q (ticks_below f n (untouched w)).mails
ticks_mails f w Q zero x low live has = absurd (omega (arith, low))
ticks_mails f w Q (suc n) x low live has = by (x == n) refl (λ l. ticks_mails f w Q n x l live has)
  where
    u : AtWork
    u = ticks_below f n (untouched w)

    t : Timed f w n (ticks_below f n (untouched w))
    t = timed f w n

    by : (b : Bool) → (x == n) ≡ b → (x < n → Has Q (ticks_below f n (untouched w)).mails) → Has Q (ticks_at f n (ticks_below f n (untouched w))).mails
    by true e rec =
        let d = eqb-true x n e in
        let on : (ticks_below f n (untouched w)).world.lives n ≡ true = ap (λ (l : ℕ → Bool). l n) t.lives ∙ ap w.lives (sym d) ∙ live in
        let same : (ticks_below f n (untouched w)).world.nodes n ≡ w.nodes n = t.rests n (omega arith) in
        cond_both ((ticks_below f n (untouched w)).world.lives n) (after_part f n (ticks f n ((ticks_below f n (untouched w)).world.nodes n)) (ticks_below f n (untouched w))) (ticks_below f n (untouched w)) (λ (z : AtWork). Has Q z.mails)
        (λ y. has_right Q (ticks_below f n (untouched w)).mails _ (subst (λ (z : Node). Has Q (mails_of (ticks f n z).deeds)) (sym same) (subst (λ (y : ℕ). Has Q (mails_of (ticks f y (w.nodes y)).deeds)) d has)))
        (λ y. absurd (not_off ((ticks_below f n (untouched w)).world.lives n) on y))
    by false e rec = cond_both ((ticks_below f n (untouched w)).world.lives n) (after_part f n (ticks f n ((ticks_below f n (untouched w)).world.nodes n)) (ticks_below f n (untouched w))) (ticks_below f n (untouched w)) (λ (z : AtWork). Has Q z.mails)
        (λ y. has_left Q (ticks_below f n (untouched w)).mails _ (rec (less x n low (eqb-false x n e)))) (λ y. rec (less x n low (eqb-false x n e)))
      where
        less : (a b : ℕ) → a < suc b → (a ≡ b → ⊥) → a < b
        less a b l ne = let q = ne in grind arith
