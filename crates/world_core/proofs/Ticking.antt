-- A tick, member by member.
use Rattle.std.proofs.Common.{◌≡◌, ◌≤◌, ◌<◌, ◌^◌, ◌∙◌, ⊎_elim, ℕ, zero, suc, Bool, true, false, cond, List, [], ◌∷◌, ◌++◌, ap, sym, subst, refl, arith, length}
use Rattle.std.proofs.lemmas.Bool.{cases_eq, cases_lt}
use Rattle.std.specs.List.{AllByRecursion as Each}
use Rattle.node_rules.specs.Conditions.{Fitness}
use Rattle.node_rules.specs.Laws.{PartsAreWalks}
use Rattle.node_rules.specs.Moments.{at_work}
use Rattle.node_rules.specs.Starts.{EventFits, part}
use Rattle.node_rules.specs.Starts.Start.{Ticks}
use Rattle.run_law.specs.Growing.{ListGrows}
use Rattle.run_law.specs.Parts.{TicksApart}
use Rattle.world_calls.specs.Law.{ticking}
use Rattle.world_rules.specs.Frame.{Frame}
use Rattle.world_rules.specs.Mail.{Mail}
use Rattle.world_rules.specs.Nodes as nodes
use Rattle.world_rules.specs.Nodes.{mails_of}
use Rattle.world_rules.specs.Parts.{ticks}
use Rattle.world_rules.specs.Steps.{AtWork, after_part}
use Rattle.world_rules.specs.Worlds.{World, agreed}

-- ---- who ticks

pub tick_part : (f : Frame) (w : World) (m : ℕ) → TicksApart f w m → w.lives m ≡ true → ticking f w (suc m) ≡ after_part f m (part f m Ticks (w.nodes m)) (ticking f w m)
tick_part f w m apart lives =
    let u = ticking f w m in
    ap (λ (b : Bool). cond b (after_part f m (ticks f m (u.world.nodes m)) u) u) (ap (λ (l : ℕ → Bool). l m) apart.lives ∙ lives)
    ∙ ap (λ (n : nodes.Node). after_part f m (ticks f m n) u) (apart.others m (omega arith))

pub tick_none : (f : Frame) (w : World) (m : ℕ) → TicksApart f w m → w.lives m ≡ false → ticking f w (suc m) ≡ ticking f w m
tick_none f w m apart dead =
    let u = ticking f w m in
    ap (λ (b : Bool). cond b (after_part f m (ticks f m (u.world.nodes m)) u) u) (ap (λ (l : ℕ → Bool). l m) apart.lives ∙ dead)

-- ---- letters

split : {A : Type 0} (P : A → Type 0) (xs ys : List A) → Each P (xs ++ ys) → Each P xs × Each P ys
split P [] ys h = (tt, h)
split P (x ∷ xs) ys h = let rest = split P xs ys h.1 in ((h.0, rest.0), rest.1)

-- what is so of all letters of a tick is so of each member's
pub tick_letters : (f : Frame) (w : World) (P : Mail → Type 0) → ((n : ℕ) → TicksApart f w n) → (n m : ℕ) → m < n → w.lives m ≡ true → Each P (ticking f w n).mails
    → Each P (mails_of (part f m Ticks (w.nodes m)).deeds)
tick_letters f w P apart zero m lt lives h = absurd (omega (arith, lt))
tick_letters f w P apart (suc n) m lt lives h =
    ⊎_elim here (λ (other : m ≡ n → ⊥). tick_letters f w P apart n m (under other) lives (front (w.lives n) refl)) (cases_eq m n)
  where
    here : m ≡ n → Each P (mails_of (part f m Ticks (w.nodes m)).deeds)
    here e =
        subst (λ (k : ℕ). Each P (mails_of (part f k Ticks (w.nodes k)).deeds)) (sym e)
        (split P (ticking f w n).mails (mails_of (part f n Ticks (w.nodes n)).deeds) (subst (λ (x : AtWork). Each P x.mails) (tick_part f w n (apart n) (sym (ap w.lives e) ∙ lives)) h)).1

    front : (b : Bool) → w.lives n ≡ b → Each P (ticking f w n).mails
    front true on = (split P (ticking f w n).mails (mails_of (part f n Ticks (w.nodes n)).deeds) (subst (λ (x : AtWork). Each P x.mails) (tick_part f w n (apart n) on) h)).0
    front false off = subst (λ (x : AtWork). Each P x.mails) (tick_none f w n (apart n) off) h

    under : (m ≡ n → ⊥) → m < n
    under other = ⊎_elim (λ (l : m < n). l) (λ (ge : n ≤ m). absurd (other (omega (arith, ge, lt)))) (cases_lt m n)

-- ---- numbers

-- the list that a tick leaves is no longer than a number of 62 bits
pub tick_small : (f : Frame) (fitness : Fitness) (w : World) → PartsAreWalks → ((n : ℕ) → TicksApart f w n) → ListGrows f w (ticking f w f.settings.nodes).world
    → ((m : ℕ) → m < f.settings.nodes → w.lives m ≡ true → EventFits f fitness m Ticks (w.nodes m)) → ((m : ℕ) → m < f.settings.nodes → (w.nodes m).copies.applied < 2 ^ 62)
    → length (agreed f (ticking f w f.settings.nodes).world) < 2 ^ 62
tick_small f fitness w walks apart grows fits low =
    let some = grows.some in
    go some.0 some.1 some.2 (w.lives some.0) refl
  where
    end : World
    end = (ticking f w f.settings.nodes).world

    go : (m : ℕ) → m < f.settings.nodes → (end.nodes m).copies.applied ≡ length (agreed f end) → (b : Bool) → w.lives m ≡ b → length (agreed f end) < 2 ^ 62
    go m lt is true lives =
        let e = (apart f.settings.nodes).ticked m lt ∙ ap (λ (b : Bool). cond b (part f m Ticks (w.nodes m)).node (w.nodes m)) lives in
        let last = (fits m lt lives).moments (at_work (part f m Ticks (w.nodes m))) (walks f m Ticks (w.nodes m)) in
        omega (arith, is, ap (λ (n : nodes.Node). n.copies.applied) e, last.within, last.small.accepted)
    go m lt is false lives =
        let e = (apart f.settings.nodes).ticked m lt ∙ ap (λ (b : Bool). cond b (part f m Ticks (w.nodes m)).node (w.nodes m)) lives in
        omega (arith, is, ap (λ (n : nodes.Node). n.copies.applied) e, low m lt)
