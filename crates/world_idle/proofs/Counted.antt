-- The ticks that a run counts as idle, step by step.
use Rattle.std.proofs.Common.{◌≡◌, ◌∙◌, ◌<◌, ◌⊎◌, inl, inr, ℕ, zero, suc, ◌+◌, Bool, true, false, ◌||◌, List, [], ◌∷◌, ◌++◌, length, append-nil, append_assoc, ap, sym, subst, refl, arith}
use Rattle.std.specs.Prelude.{not, ◌&&◌, ◌==◌, if◌then◌else◌}
use Rattle.std.proofs.Math.Nat.{eq-or-lt_of_le}
use Rattle.std.proofs.lemmas.Bool.{eq-eqb, eqb-true}
use Rattle.world_rules.specs.declared.event.Event.{Event}
use Rattle.world_rules.specs.declared.event.Event.TheVariants as event
use Rattle.world_rules.specs.declared.event.Step.{Step}
use Rattle.world_rules.specs.Acts.{is_burst}
use Rattle.world_rules.specs.Frame.{Frame}
use Rattle.world_rules.specs.Nodes.{Node}
use Rattle.world_rules.specs.Steps.{Leads, Next, Replays, closes, happens, has_stirred, has_stirred_at, has_stirred_below, idle_after}
use Rattle.world_rules.specs.Worlds.{World, opening_world}
use Rattle.world_course.proofs.Events.{posts_keep}
use Rattle.world_idle.specs.Counting.{HaveCounted, IsStill, LeadsStill}
use Rattle.world_idle.specs.Faults.{tick_by, ticks_in}

-- ---- what stirs

below_same : (n : ℕ) (w u v : World) → v.nodes ≡ u.nodes → has_stirred_below n w v ≡ has_stirred_below n w u
below_same zero w u v same = refl
below_same (suc m) w u v same =
    ap (λ (b : Bool). b || has_stirred_at (w.nodes m) (v.nodes m)) (below_same m w u v same)
    ∙ ap (λ (ns : ℕ → Node). has_stirred_below m w u || has_stirred_at (w.nodes m) (ns m)) same

-- letters that are posted stir nothing
idle_is : (f : Frame) (w v : World) (step : Step) → Next f w step v → v.idle ≡ (if has_stirred f w v then 0 else idle_after step.event w.idle)
idle_is f w v step next =
    let u = happens f w step.event next.given in
    let keep = posts_keep f u.world u.mails step.fates in
    let c = closes f w step u in
    let same : has_stirred f w c ≡ has_stirred f w u.world =
    ap (λ (b : Bool). b || not (length w.aside == length c.aside)) (below_same f.settings.nodes w u.world c keep.0)
    ∙ ap (λ l. has_stirred_below f.settings.nodes w u.world || not (length w.aside == length l)) keep.2 in
    subst (λ (x : World). x.idle ≡ (if has_stirred f w x then 0 else idle_after step.event w.idle)) (sym next.after)
    (ap (λ (b : Bool). if b then 0 else idle_after step.event w.idle) (sym same))

or_left : (a b : Bool) → a || b ≡ false → a ≡ false
or_left false b h = refl
or_left true b h = absurd cc

or_right : (a b : Bool) → a || b ≡ false → b ≡ false
or_right false b h = h
or_right true b h = absurd cc

not_false : (a : Bool) → not a ≡ false → a ≡ true
not_false true h = refl
not_false false h = absurd cc

and_left : (a b : Bool) → a && b ≡ true → a ≡ true
and_left true b h = refl
and_left false b h = absurd cc

and_right : (a b : Bool) → a && b ≡ true → b ≡ true
and_right true b h = h
and_right false b h = absurd cc

-- no member below n stirred
below_still : (n : ℕ) (w v : World) → has_stirred_below n w v ≡ false → (m : ℕ) → m < n → has_stirred_at (w.nodes m) (v.nodes m) ≡ false
below_still zero w v none m low = absurd (omega (arith, low))
below_still (suc n) w v none m low =
    by (below_still n w v (or_left (has_stirred_below n w v) (has_stirred_at (w.nodes n) (v.nodes n)) none) m) (eq-or-lt_of_le (omega (arith, low)))
  where
    by : (m < n → has_stirred_at (w.nodes m) (v.nodes m) ≡ false) → (m ≡ n) ⊎ (m < n) → has_stirred_at (w.nodes m) (v.nodes m) ≡ false
    by lower (inl here) =
        subst (λ (k : ℕ). has_stirred_at (w.nodes k) (v.nodes k) ≡ false) (sym here) (or_right (has_stirred_below n w v) (has_stirred_at (w.nodes n) (v.nodes n)) none)
    by lower (inr less) = lower less

still_below : (n : ℕ) (w v : World) → ((m : ℕ) → m < n → has_stirred_at (w.nodes m) (v.nodes m) ≡ false) → has_stirred_below n w v ≡ false
still_below zero w v each = refl
still_below (suc n) w v each =
    ap (λ (b : Bool). b || has_stirred_at (w.nodes n) (v.nodes n)) (still_below n w v (λ m low. each m (omega (arith, low))))
    ∙ each n (omega arith)

same_number : (a b : ℕ) → a == b ≡ true → b ≡ a
same_number a b h = sym (eqb-true a b h)

number_same : (a b : ℕ) → b ≡ a → a == b ≡ true
number_same a b h = eq-eqb a b (sym h)

still_of : (f : Frame) (w v : World) (step : Step) → is_burst step.event ≡ false → has_stirred f w v ≡ false → IsStill f w step v
still_of f w v step burst none =
    let below = or_left (has_stirred_below f.settings.nodes w v) (not (length w.aside == length v.aside)) none in
    let aside = not_false (length w.aside == length v.aside) (or_right (has_stirred_below f.settings.nodes w v) (not (length w.aside == length v.aside)) none) in
    let at : (m : ℕ) → m < f.settings.nodes → ((w.nodes m).member.applied == (v.nodes m).member.applied) && ((w.nodes m).member.installed == (v.nodes m).member.installed) ≡ true =
    λ m low. not_false (((w.nodes m).member.applied == (v.nodes m).member.applied) && ((w.nodes m).member.installed == (v.nodes m).member.installed)) (below_still f.settings.nodes w v below m low) in
    record {
      computes = burst;
      applied = λ m low. same_number (w.nodes m).member.applied (v.nodes m).member.applied (and_left ((w.nodes m).member.applied == (v.nodes m).member.applied) ((w.nodes m).member.installed == (v.nodes m).member.installed) (at m low));
      installed = λ m low. same_number (w.nodes m).member.installed (v.nodes m).member.installed (and_right ((w.nodes m).member.applied == (v.nodes m).member.applied) ((w.nodes m).member.installed == (v.nodes m).member.installed) (at m low));
      aside = same_number (length w.aside) (length v.aside) aside;
    }

-- and what is still stirs nothing
none_stirred : (f : Frame) (w v : World) (step : Step) → IsStill f w step v → has_stirred f w v ≡ false
none_stirred f w v step still =
    let at : (m : ℕ) → m < f.settings.nodes → has_stirred_at (w.nodes m) (v.nodes m) ≡ false = λ m low.
    ap not
    (ap (λ (b : Bool). b && ((w.nodes m).member.installed == (v.nodes m).member.installed)) (number_same (w.nodes m).member.applied (v.nodes m).member.applied (still.applied m low))
    ∙ number_same (w.nodes m).member.installed (v.nodes m).member.installed (still.installed m low)) in
    ap (λ (b : Bool). b || not (length w.aside == length v.aside)) (still_below f.settings.nodes w v at)
    ∙ ap not (number_same (length w.aside) (length v.aside) still.aside)

-- ---- one step more

leads_push : (f : Frame) (a w v : World) (xs : List Step) (step : Step) → Leads f a xs w → Next f w step v → Leads f a (xs ++ step ∷ []) v
leads_push f a w v [] step h next = (v, subst (λ (x : World). Next f x step v) h next, refl)
leads_push f a w v (x ∷ xs) step h next = (h.0, h.1, leads_push f h.0 w v xs step h.2 next)

still_push : (f : Frame) (a w v : World) (xs : List Step) (step : Step) → LeadsStill f a xs w → Next f w step v → IsStill f w step v → LeadsStill f a (xs ++ step ∷ []) v
still_push f a w v [] step h next still = (v, subst (λ (x : World). Next f x step v) h next, subst (λ (x : World). IsStill f x step v) h still, refl)
still_push f a w v (x ∷ xs) step h next still = (h.0, h.1, h.2, still_push f h.0 w v xs step h.3 next still)

ticks_push : (xs : List Step) (step : Step) → ticks_in (xs ++ step ∷ []) ≡ ticks_in xs + tick_by step.event
ticks_push [] step = omega arith
ticks_push (x ∷ xs) step = omega (arith, ticks_push xs step)

counts_on : (e : Event) (n : ℕ) → is_burst e ≡ false → idle_after e n ≡ n + tick_by e
counts_on (event.Burst process place turns) n none = absurd cc
counts_on (event.Act process) n none = omega arith
counts_on (event.Deliver packet copy) n none = omega arith
counts_on event.Tick n none = omega arith
counts_on (event.Crash node) n none = omega arith
counts_on (event.Suspect node) n none = omega arith
counts_on event.Swap n none = omega arith

counts_none : (e : Event) (n : ℕ) → is_burst e ≡ true → idle_after e n ≡ 0
counts_none (event.Burst process place turns) n is = refl
counts_none (event.Act process) n is = absurd cc
counts_none (event.Deliver packet copy) n is = absurd cc
counts_none event.Tick n is = absurd cc
counts_none (event.Crash node) n is = absurd cc
counts_none (event.Suspect node) n is = absurd cc
counts_none event.Swap n is = absurd cc

counted_anew : (f : Frame) (past : List Step) (w v : World) (step : Step) → Replays f past w → Next f w step v → (IsStill f w step v → ⊥) → v.idle ≡ 0 → HaveCounted f (past ++ step ∷ []) v
counted_anew f past w v step leads next moved none = record {
  front = past ++ step ∷ [];
  still = [];
  cut = sym (append-nil (past ++ step ∷ []));
  since = v;
  to_since = leads_push f (opening_world f) w v past step leads next;
  begins = inr (record { past = past; step = step; before = w; cut = refl; to_before = leads; next = next; moved = moved });
  leads = refl;
  count = none;
}

true_false : true ≡ false → ⊥
true_false e = absurd cc

counted_next : (f : Frame) (past : List Step) (w v : World) (step : Step) → Replays f past w → HaveCounted f past w → Next f w step v → HaveCounted f (past ++ step ∷ []) v
counted_next f past w v step leads h next = by (has_stirred f w v) refl (is_burst step.event) refl
  where
    by : (stirred : Bool) → has_stirred f w v ≡ stirred → (burst : Bool) → is_burst step.event ≡ burst → HaveCounted f (past ++ step ∷ []) v
    by true is burst kind =
        counted_anew f past w v step leads next (λ still. true_false (sym is ∙ none_stirred f w v step still))
        (idle_is f w v step next ∙ ap (λ (b : Bool). if b then 0 else idle_after step.event w.idle) is)
    by false is true kind =
        counted_anew f past w v step leads next (λ still. true_false (sym kind ∙ still.computes))
        (idle_is f w v step next ∙ ap (λ (b : Bool). if b then 0 else idle_after step.event w.idle) is ∙ counts_none step.event w.idle kind)
    by false is false kind = record {
      front = h.front;
      still = h.still ++ step ∷ [];
      cut = ap (λ (l : List Step). l ++ step ∷ []) h.cut ∙ append_assoc h.front h.still (step ∷ []);
      since = h.since;
      to_since = h.to_since;
      begins = h.begins;
      leads = still_push f h.since w v h.still step h.leads next (still_of f w v step kind is);
      count =
          idle_is f w v step next ∙ ap (λ (b : Bool). if b then 0 else idle_after step.event w.idle) is ∙ counts_on step.event w.idle kind
          ∙ ap (λ (n : ℕ). n + tick_by step.event) h.count ∙ sym (ticks_push h.still step);
    }

walk : (f : Frame) (past : List Step) (w v : World) (steps : List Step) → Replays f past w → HaveCounted f past w → Leads f w steps v → HaveCounted f (past ++ steps) v
walk f past w v [] leads h more = subst (λ (l : List Step). HaveCounted f l v) (sym (append-nil past)) (subst (HaveCounted f past) (sym more) h)
walk f past w v (step ∷ steps) leads h more =
    subst (λ (l : List Step). HaveCounted f l v) (append_assoc past (step ∷ []) steps)
    (walk f (past ++ step ∷ []) more.0 v steps (leads_push f (opening_world f) w more.0 past step leads more.1) (counted_next f past w more.0 step leads h more.1) more.2)

pub counted : (f : Frame) (steps : List Step) (w : World) → Replays f steps w → HaveCounted f steps w
counted f steps w leads =
    walk f [] (opening_world f) w steps refl
    (record { front = []; still = []; cut = refl; since = opening_world f; to_since = refl; begins = inl refl; leads = refl; count = refl }) leads
