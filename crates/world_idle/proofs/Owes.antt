-- What is owed to a process that asks an owner elsewhere, and what a member's part makes of it.
use Rattle.std.proofs.Common.{◌≡◌, ◌==◌, ◌||◌, ◌⊎◌, inl, inr, ⊎_elim, ℕ, Bool, true, false, List, [], ◌∷◌, ◌++◌, length, refl, sym, ◌∙◌, subst}
use Rattle.std.proofs.lemmas.Bool.{and_parts, cond_both, eqb-false, eqb-true}
use Rattle.group_rules.specs.Sets.{with_at}
use Rattle.net_rules.specs.declared.fate.Fate.{Fate}
use Rattle.net_rules.specs.declared.flight.Flight.{Flight}
use Rattle.world_rules.specs.Frame.{Frame}
use Rattle.world_rules.specs.Mail.{Carried, Errand, Mail, same_errand}
use Rattle.world_rules.specs.Mail.Errand.{Ask, Answer}
use Rattle.world_rules.specs.Nodes.{Node, NodeWork, idle, known, mails_of}
use Rattle.world_rules.specs.Owners.{arrives, holds, is_held}
use Rattle.world_rules.specs.Parts.{catches_up}
use Rattle.world_rules.specs.Steps.{posts_all}
use Rattle.world_rules.specs.Worlds.{World}
use Rattle.world_idle.proofs.Letters.{AllHeld}
use Rattle.world_facts.specs.Passing.{AllPass}
use Rattle.world_idle.proofs.Calls.{HasCall}
use Rattle.world_law.proofs.Maps.{at_both, at_here}
use Rattle.world_idle.proofs.Owed.{Caught, Flies, flies_posts, part_asked, part_heard, part_mails, part_waits}
use Rattle.world_idle.proofs.Taking.{AllUpTo, AnswerFor, AskFor, AskUpTo, Bounded, Has, MailTo, NotAsking, Taken, has_left, has_right}

-- its Ask to owner k or its Answer is on its way, is being sent, or is held; or its call waits at k: call c of process i of member h
pub data Owed (n : ℕ) (nodes : ℕ → Node) (flights : List (Flight Carried)) (mails : List Mail) (i c h k : ℕ) : Type 0 where
  AskFlies : Flies n (MailTo k (AskFor i c)) flights → Owed n nodes flights mails i c h k
  AnswerFlies : Flies n (MailTo h (AnswerFor i c)) flights → Owed n nodes flights mails i c h k
  AskSent : Has (MailTo k (AskFor i c)) mails → Owed n nodes flights mails i c h k
  AnswerSent : Has (MailTo h (AnswerFor i c)) mails → Owed n nodes flights mails i c h k
  AskHeld : Has (AskFor i c) (nodes k).held → Owed n nodes flights mails i c h k
  CallWaits : HasCall i c (nodes k).copies.waits → Owed n nodes flights mails i c h k
  AnswerHeld : Has (AnswerFor i c) (nodes h).held → Owed n nodes flights mails i c h k

-- what was sent is on its way
pub owed_posts : (f : Frame) (q i c h k : ℕ) (w : World) (mails : List Mail) (fates : List Fate) → AllPass fates → length fates ≡ length mails → AllHeld w.sent q w.flights → Owed f.settings.nodes w.nodes w.flights mails i c h k →
    Owed f.settings.nodes w.nodes (posts_all f w mails fates).flights [] i c h k
owed_posts f q i c h k w mails fates pass few held (AskFlies x) = AskFlies (flies_posts f q (MailTo k (AskFor i c)) w mails fates pass few held (inl x))
owed_posts f q i c h k w mails fates pass few held (AnswerFlies x) = AnswerFlies (flies_posts f q (MailTo h (AnswerFor i c)) w mails fates pass few held (inl x))
owed_posts f q i c h k w mails fates pass few held (AskSent x) = AskFlies (flies_posts f q (MailTo k (AskFor i c)) w mails fates pass few held (inr x))
owed_posts f q i c h k w mails fates pass few held (AnswerSent x) = AnswerFlies (flies_posts f q (MailTo h (AnswerFor i c)) w mails fates pass few held (inr x))
owed_posts f q i c h k w mails fates pass few held (AskHeld x) = AskHeld x
owed_posts f q i c h k w mails fates pass few held (CallWaits x) = CallWaits x
owed_posts f q i c h k w mails fates pass few held (AnswerHeld x) = AnswerHeld x

-- ---- a member's part, from its first piece on

pub record Begins (f : Frame) (m i c h k : ℕ) (n : Node) (first : NodeWork) : Type 0 where
  pub asks : m ≡ k → Has (AskFor i c) n.held → Has (AskFor i c) first.node.held
  pub waits : m ≡ k → HasCall i c n.copies.waits → HasCall i c first.node.copies.waits ⊎ Has (MailTo h (AnswerFor i c)) (mails_of first.deeds)
  pub heard : m ≡ h → Has (AnswerFor i c) n.held → Has (AnswerFor i c) first.node.held
  pub bound : m ≡ k → Bounded i c first × AllUpTo i c first.node.held

-- it asks no more
abbrev pub AsksNoMore : ℕ → ℕ → ℕ → ℕ → NodeWork → Type 0
AsksNoMore m i c h v = (m ≡ h) × NotAsking i c v.node.played

module _ (f : Frame) (nodes : ℕ → Node) (flights : List (Flight Carried)) (m i c h k : ℕ) (first : NodeWork) (caught : Caught f m i h first) (other : h ≡ k → ⊥) where
  abbrev pub After : Type 0
  After = Owed f.settings.nodes (with_at nodes m (catches_up f m first).node) flights (mails_of (catches_up f m first).deeds) i c h k ⊎ AsksNoMore m i c h (catches_up f m first)

  at_owner : m ≡ k → m ≡ h → ⊥
  at_owner e d = other (sym d ∙ e)

  here : (x : ℕ) (P : Node → Type 0) → m ≡ x → P (catches_up f m first).node → P (with_at nodes m (catches_up f m first).node x)
  here x P e p = subst (λ (j : ℕ). P (with_at nodes m (catches_up f m first).node j)) e (subst P (sym (at_here nodes m (catches_up f m first).node)) p)

  taken : m ≡ k → Taken f m i c h (known f (catches_up f m first).node) caught.home (catches_up f m first) → After
  taken e (inl has) = inl (CallWaits (here k (λ (n : Node). HasCall i c n.copies.waits) e has))
  taken e (inr (inl sent)) = inl (AnswerSent sent.1)
  taken e (inr (inr more)) = absurd (at_owner e more.0)

  pub asked_here : m ≡ k → Bounded i c first → AllUpTo i c first.node.held → Has (AskFor i c) first.node.held → After
  asked_here e b low has = ⊎_elim (λ x. inl (AskHeld (here k (λ (n : Node). Has (AskFor i c) n.held) e x))) (λ x. taken e x) (part_asked f m i c h first caught (at_owner e) b low has)

  pub heard_here : m ≡ h → Has (AnswerFor i c) first.node.held → After
  heard_here e has = ⊎_elim (λ x. inl (AnswerHeld (here h (λ (n : Node). Has (AnswerFor i c) n.held) e x)))
      (λ x. ⊎_elim (λ (y : (m ≡ h → ⊥) × Has (MailTo h (AnswerFor i c)) (mails_of (catches_up f m first).deeds)). inl (AnswerSent y.1)) (λ y. inr y) x) (part_heard f m i c h first caught e has)

  waits_here : m ≡ k → HasCall i c first.node.copies.waits ⊎ Has (MailTo h (AnswerFor i c)) (mails_of first.deeds) → After
  waits_here e (inl has) = taken e (part_waits f m i c h first caught has)
  waits_here e (inr sent) = inl (AnswerSent (part_mails f m i c h first caught (MailTo h (AnswerFor i c)) sent))

  -- what was owed before
  pub part_owed : Begins f m i c h k (nodes m) first → Owed f.settings.nodes nodes flights [] i c h k → After
  part_owed b (AskFlies x) = inl (AskFlies x)
  part_owed b (AnswerFlies x) = inl (AnswerFlies x)
  part_owed b (AskSent x) = absurd x
  part_owed b (AnswerSent x) = absurd x
  part_owed b (AskHeld x) = by (k == m) refl
    where
      by : (q : Bool) → (k == m) ≡ q → After
      by true e = let s = sym (eqb-true k m e) in let d = b.bound s in asked_here s d.0 d.1 (b.asks s (subst (λ (j : ℕ). Has (AskFor i c) (nodes j).held) (sym s) x))
      by false e = inl (AskHeld (at_both nodes m (catches_up f m first).node k (λ (n : Node). Has (AskFor i c) n.held) (λ d. absurd (eqb-false k m e d)) (λ d. x)))
  part_owed b (CallWaits x) = by (k == m) refl
    where
      by : (q : Bool) → (k == m) ≡ q → After
      by true e = let s = sym (eqb-true k m e) in waits_here s (b.waits s (subst (λ (j : ℕ). HasCall i c (nodes j).copies.waits) (sym s) x))
      by false e = inl (CallWaits (at_both nodes m (catches_up f m first).node k (λ (n : Node). HasCall i c n.copies.waits) (λ d. absurd (eqb-false k m e d)) (λ d. x)))
  part_owed b (AnswerHeld x) = by (h == m) refl
    where
      by : (q : Bool) → (h == m) ≡ q → After
      by true e = let s = sym (eqb-true h m e) in heard_here s (b.heard s (subst (λ (j : ℕ). Has (AnswerFor i c) (nodes j).held) (sym s) x))
      by false e = inl (AnswerHeld (at_both nodes m (catches_up f m first).node h (λ (n : Node). Has (AnswerFor i c) n.held) (λ d. absurd (eqb-false h m e d)) (λ d. x)))

-- ---- an Ask or Answer arrives

same_ask : (i c : ℕ) (one other : Errand) → same_errand one other ≡ true → AskFor i c one → AskFor i c other
same_ask i c (Ask place x) (Ask more y) e is = let p = and_parts (x.process.0 == y.process.0) (x.call.0 == y.call.0) e in (sym (eqb-true x.process.0 y.process.0 p.0) ∙ is.0, sym (eqb-true x.call.0 y.call.0 p.1) ∙ is.1)
same_ask i c (Ask place x) (Answer more j call reply) e is = absurd (cc e)
same_ask i c (Answer place j call reply) other e is = absurd is

same_answer : (i c : ℕ) (one other : Errand) → same_errand one other ≡ true → AnswerFor i c one → AnswerFor i c other
same_answer i c (Answer place x n reply) (Answer more y o second) e is = let p = and_parts (x.0 == y.0) (n.0 == o.0) e in (sym (eqb-true x.0 y.0 p.0) ∙ is.0, sym (eqb-true n.0 o.0 p.1) ∙ is.1)
same_answer i c (Answer place x n reply) (Ask more y) e is = absurd (cc e)
same_answer i c (Ask place x) other e is = absurd is

held_same : (P : Errand → Type 0) (one : Errand) (es : List Errand) → ((o : Errand) → same_errand one o ≡ true → P o) → is_held one es ≡ true → Has P es
held_same P one [] same e = absurd (cc e)
held_same P one (o ∷ es) same e = by (same_errand one o) refl e (held_same P one es same)
  where
    by : (b : Bool) → same_errand one o ≡ b → (b || is_held one es) ≡ true → (is_held one es ≡ true → Has P es) → Has P (o ∷ es)
    by true q d rec = inl (same o q)
    by false q d rec = inr (rec d)

or_held : (a b : Bool) → (a || b) ≡ true → a ≡ false → b ≡ true
or_held true b e d = absurd (cc d)
or_held false b e d = e

pub arrived : (P : Errand → Type 0) (one : Errand) (n : Node) → n.member.outside ≡ false → P one → ((o : Errand) → same_errand one o ≡ true → P o) → Has P (arrives one (idle n)).node.held
arrived P one n inside is same = cond_both (n.member.outside || is_held one n.held) (idle n) (holds one (idle n)) (λ (u : NodeWork). Has P u.node.held)
    (λ e. held_same P one n.held same (or_held n.member.outside (is_held one n.held) e inside)) (λ e. has_right P n.held (one ∷ []) (inl is))

pub arrived_ask : (i c : ℕ) (one : Errand) (n : Node) → n.member.outside ≡ false → AskFor i c one → Has (AskFor i c) (arrives one (idle n)).node.held
arrived_ask i c one n inside is = arrived (AskFor i c) one n inside is (λ o e. same_ask i c one o e is)

pub arrived_answer : (i c : ℕ) (one : Errand) (n : Node) → n.member.outside ≡ false → AnswerFor i c one → Has (AnswerFor i c) (arrives one (idle n)).node.held
arrived_answer i c one n inside is = arrived (AnswerFor i c) one n inside is (λ o e. same_answer i c one o e is)

all_push : (i c : ℕ) (es : List Errand) (e : Errand) → AllUpTo i c es → AskUpTo i c e → AllUpTo i c (es ++ e ∷ [])
all_push i c [] e h k = (k, tt)
all_push i c (x ∷ es) e h k = (h.0, all_push i c es e h.1 k)

pub begins_arrives : (f : Frame) (m i c h k : ℕ) (one : Errand) (n : Node) → (m ≡ k → Bounded i c (idle n) × AllUpTo i c n.held × AskUpTo i c one) → Begins f m i c h k n (arrives one (idle n))
begins_arrives f m i c h k one n low = cond_both (n.member.outside || is_held one n.held) (idle n) (holds one (idle n)) (Begins f m i c h k n)
    (λ e. record { asks = λ s x. x; waits = λ s x. inl x; heard = λ s x. x; bound = λ s. let b = low s in (b.0, b.1) })
    (λ e. record {
      asks = λ s x. has_left (AskFor i c) n.held (one ∷ []) x;
      waits = λ s x. inl x;
      heard = λ s x. has_left (AnswerFor i c) n.held (one ∷ []) x;
      bound = λ s. let b = low s in (record { given = b.0.given; waits = b.0.waits }, all_push i c n.held one b.1 b.2);
    })
