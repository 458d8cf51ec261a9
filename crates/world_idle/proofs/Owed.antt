-- In an idle stretch, behind a tick: of each process that asks the owner of an object elsewhere, its Ask or Answer is on its way or held,
-- or its call waits at the owner.
use Rattle.std.proofs.Common.{◌≡◌, ◌⊎◌, inl, inr, ⊎_elim, ℕ, Bool, true, false, cond, Some, List, [], ◌∷◌, ◌++◌, length, refl, sym, ap, ◌∙◌, arith, subst}
use Rattle.std.specs.List.{find}
use Rattle.net_rules.specs.declared.fate.Fate.{Fate}
use Rattle.net_rules.specs.declared.flight.Flight.{Flight}
use Rattle.net_rules.specs.Script.{without_first}
use Rattle.world_rules.specs.Applying.{applies_all}
use Rattle.world_rules.specs.Frame.{Frame, group}
use Rattle.world_rules.specs.Mail.{Carried, Mail, is_whole}
use Rattle.world_rules.specs.Nodes.{NodeWork, becomes, known, mails_of}
use Rattle.world_rules.specs.Owners.{takes_each}
use Rattle.world_rules.specs.Parts.{catches_up}
use Rattle.world_rules.specs.Processes.{home_in}
use Rattle.world_rules.specs.Steps.{posts, posts_all}
use Rattle.world_rules.specs.Worlds.{World}
use Rattle.world_idle.proofs.Letters.{AllHeld}
use Rattle.world_facts.specs.Passing.{AllPass}
use Rattle.world_idle.proofs.Calls.{CallsUpTo, HasCall}
use Rattle.world_idle.proofs.Flying.{new_flight, posted_last, posts_one}
use Rattle.world_idle.proofs.Own.{Even, even_mails, even_rounds}
use Rattle.world_law.proofs.Still.{Still, still_reached}
use Rattle.world_idle.proofs.Taking.{AllLate, AllUpTo, AnswerFor, AskFor, Bounded, Has, Served, Taken, each_asked, each_heard, each_late, each_mails, each_taken, known_same}

-- ---- packets

abbrev pub Flies : ℕ → (Mail → Type 0) → List (Flight Carried) → Type 0
Flies n Q [] = ⊥
Flies n Q (one ∷ flights) = ((is_whole n one.packet ≡ true) × Q one.packet.mail) ⊎ Flies n Q flights

flies_left : (n : ℕ) (Q : Mail → Type 0) (xs ys : List (Flight Carried)) → Flies n Q xs → Flies n Q (xs ++ ys)
flies_left n Q [] ys h = absurd h
flies_left n Q (x ∷ xs) ys (inl e) = inl e
flies_left n Q (x ∷ xs) ys (inr h) = inr (flies_left n Q xs ys h)

flies_right : (n : ℕ) (Q : Mail → Type 0) (xs ys : List (Flight Carried)) → Flies n Q ys → Flies n Q (xs ++ ys)
flies_right n Q [] ys h = h
flies_right n Q (x ∷ xs) ys h = inr (flies_right n Q xs ys h)

pub flies_posts : (f : Frame) (k : ℕ) (Q : Mail → Type 0) (w : World) (mails : List Mail) (fates : List Fate) → AllPass fates → length fates ≡ length mails → AllHeld w.sent k w.flights →
    Flies f.settings.nodes Q w.flights ⊎ Has Q mails → Flies f.settings.nodes Q (posts_all f w mails fates).flights
flies_posts f k Q w [] fates pass few held (inl h) = h
flies_posts f k Q w [] fates pass few held (inr h) = absurd h
flies_posts f k Q w (mail ∷ mails) [] pass few held h = absurd (omega (arith, few))
flies_posts f k Q w (mail ∷ mails) (one ∷ fates) pass few held h =
    flies_posts f k Q (posts f w mail one) mails fates pass.1 (omega (arith, few)) (posts_one f k w mail one pass.0 held).free (by h)
  where
    is : (posts f w mail one).flights ≡ w.flights ++ new_flight f w mail ∷ []
    is = posted_last f k w mail one pass.0 held

    by : Flies f.settings.nodes Q w.flights ⊎ Has Q (mail ∷ mails) → Flies f.settings.nodes Q (posts f w mail one).flights ⊎ Has Q mails
    by (inl a) = inl (subst (Flies f.settings.nodes Q) (sym is) (flies_left f.settings.nodes Q w.flights (new_flight f w mail ∷ []) a))
    by (inr (inl q)) = inl (subst (Flies f.settings.nodes Q) (sym is) (flies_right f.settings.nodes Q w.flights (new_flight f w mail ∷ []) (inl (refl, q))))
    by (inr (inr more)) = inr more

-- one more delivery takes it out, or another
pub flies_taken : (n : ℕ) (Q : Mail → Type 0) (P : Flight Carried → Bool) (flights : List (Flight Carried)) (flight : Flight Carried) → find P flights ≡ Some flight → Flies n Q flights →
    Flies n Q (without_first P flights) ⊎ ((is_whole n flight.packet ≡ true) × Q flight.packet.mail)
flies_taken n Q P [] flight e h = absurd h
flies_taken n Q P (one ∷ more) flight e h = go (P one) (λ d k. flies_taken n Q P more flight d k) e h
  where
    go : (b : Bool) → (find P more ≡ Some flight → Flies n Q more → Flies n Q (without_first P more) ⊎ ((is_whole n flight.packet ≡ true) × Q flight.packet.mail)) →
        cond b (Some one) (find P more) ≡ Some flight → Flies n Q (one ∷ more) → Flies n Q (cond b more (one ∷ without_first P more)) ⊎ ((is_whole n flight.packet ≡ true) × Q flight.packet.mail)
    go true rec d (inl x) = let s : one ≡ flight = cc in inr (subst (λ (z : Flight Carried). (is_whole n z.packet ≡ true) × Q z.packet.mail) s x)
    go true rec d (inr x) = inl x
    go false rec d (inl x) = inl (inl x)
    go false rec d (inr x) = ⊎_elim (λ a. inl (inr a)) (λ b. inr b) (rec d x)

-- ---- a member's part

-- it catches up from here, and isn't outside then
pub record Caught (f : Frame) (m i h : ℕ) (first : NodeWork) : Type 0 where
  pub inside : (catches_up f m first).node.member.outside ≡ false
  pub home : home_in (known f (catches_up f m first).node) i ≡ h

module _ (f : Frame) (m i c h : ℕ) (first : NodeWork) (caught : Caught f m i h first) where
  u : NodeWork
  u = applies_all f m first

  even_u : Even first (applies_all f m first)
  even_u = even_rounds f m first.node.member.waiting first

  s : Still (group f) m (applies_all f m first) (catches_up f m first)
  s = still_reached f (group f) m m (applies_all f m first)

  v_is : catches_up f m first ≡ takes_each f m (applies_all f m first).node.held (becomes (record (applies_all f m first).node { held = [] }) (applies_all f m first))
  v_is = ap (λ (b : Bool). cond b (applies_all f m first) (takes_each f m (applies_all f m first).node.held (becomes (record (applies_all f m first).node { held = [] }) (applies_all f m first))))
      (ap (λ t. t.outside) (sym s.member) ∙ caught.inside)

  knows : known f (applies_all f m first).node ≡ known f (catches_up f m first).node
  knows = known_same f (applies_all f m first).node (catches_up f m first).node (sym s.member) (sym s.applied)

  pub part_late : AllLate (catches_up f m first).node.held (catches_up f m first).node.copies.applied
  part_late = subst (λ (z : NodeWork). AllLate z.node.held z.node.copies.applied) (sym v_is)
      (each_late f m i c h (known f (catches_up f m first).node) caught.home (applies_all f m first).node.held (becomes (record (applies_all f m first).node { held = [] }) (applies_all f m first)) tt)

  pub part_mails : (Q : Mail → Type 0) → Has Q (mails_of first.deeds) → Has Q (mails_of (catches_up f m first).deeds)
  part_mails Q has = subst (λ (z : NodeWork). Has Q (mails_of z.deeds)) (sym v_is)
      (each_mails f m i c h (known f (catches_up f m first).node) caught.home Q (applies_all f m first).node.held (becomes (record (applies_all f m first).node { held = [] }) (applies_all f m first)) (even_mails first (applies_all f m first) even_u Q has))

  pub part_waits : HasCall i c first.node.copies.waits → Taken f m i c h (known f (catches_up f m first).node) caught.home (catches_up f m first)
  part_waits has = subst (λ (z : NodeWork). Taken f m i c h (known f (catches_up f m first).node) caught.home z) (sym v_is)
      (each_taken f m i c h (known f (catches_up f m first).node) caught.home (applies_all f m first).node.held (becomes (record (applies_all f m first).node { held = [] }) (applies_all f m first)) knows
      (inl (subst (HasCall i c) (sym even_u.waits) has)))

  pub part_asked : (m ≡ h → ⊥) → Bounded i c first → AllUpTo i c first.node.held → Has (AskFor i c) first.node.held →
      Has (AskFor i c) (catches_up f m first).node.held ⊎ Taken f m i c h (known f (catches_up f m first).node) caught.home (catches_up f m first)
  part_asked other b low has = subst (λ (z : NodeWork). Has (AskFor i c) z.node.held ⊎ Taken f m i c h (known f (catches_up f m first).node) caught.home z) (sym v_is)
      (each_asked f m i c h (known f (catches_up f m first).node) caught.home (applies_all f m first).node.held (becomes (record (applies_all f m first).node { held = [] }) (applies_all f m first)) other knows
      (record { given = λ one e. b.given one (ap (λ g. g i) (sym even_u.given) ∙ e); waits = subst (CallsUpTo i c) (sym even_u.waits) b.waits })
      (subst (AllUpTo i c) (sym even_u.held) low) (inl (subst (Has (AskFor i c)) (sym even_u.held) has)))

  pub part_heard : m ≡ h → Has (AnswerFor i c) first.node.held →
      Has (AnswerFor i c) (catches_up f m first).node.held ⊎ Served f m i c h (known f (catches_up f m first).node) caught.home (catches_up f m first)
  part_heard here has = subst (λ (z : NodeWork). Has (AnswerFor i c) z.node.held ⊎ Served f m i c h (known f (catches_up f m first).node) caught.home z) (sym v_is)
      (each_heard f m i c h (known f (catches_up f m first).node) caught.home (applies_all f m first).node.held (becomes (record (applies_all f m first).node { held = [] }) (applies_all f m first)) here
      (inl (subst (Has (AnswerFor i c)) (sym even_u.held) has)))
