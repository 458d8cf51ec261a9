-- Steps are faultless, or some are faulty; so what is so of every run in which of the packets that are ready the first comes.
use Rattle.std.proofs.Common.{◌≡◌, ◌≤◌, ◌<◌, ◌⊎◌, ◌+◌, ℕ, inl, inr, ⊎_elim, Bool, true, false, List, [], ◌∷◌, length, refl, ap, subst, arith}
use Rattle.std.proofs.lemmas.Bool.{cases_lt}
use Rattle.net_rules.specs.declared.fate.Fate.{Fate}
use Rattle.world_rules.specs.declared.event.Event as world
use Rattle.world_rules.specs.declared.event.Event.TheVariants as event
use Rattle.world_rules.specs.declared.event.Step.{Step}
use Rattle.world_rules.specs.declared.standing.Standing.{Standing}
use Rattle.world_rules.specs.declared.standing.Standing.TheVariants.{Going, OutOfEvents}
use Rattle.world_rules.specs.Frame.{Frame}
use Rattle.world_rules.specs.Standings.{standing}
use Rattle.world_rules.specs.Worlds.{World, opening_world}
use Rattle.world_facts.specs.Rows.{ReadsStanding}
use Rattle.world_enough.specs.Bound.{Ends, GoesWellWithin, IsEnoughWithin, OutOfEventsWithin}
use Rattle.world_facts.specs.Passing.{AllPass, always_passes}
use Rattle.world_enough.specs.Faultless.{IsFaulty, IsPlain, LeadsFaultless, LeadsFirst}

true_or : (b : Bool) → (b ≡ true) ⊎ (b ≡ true → ⊥)
true_or true = inl refl
true_or false = inr (λ e. absurd (cc e))

all_pass_or : (fates : List Fate) → AllPass fates ⊎ (AllPass fates → ⊥)
all_pass_or [] = inl tt
all_pass_or (one ∷ fates) = ⊎_elim
    (λ (o : always_passes one ≡ true). ⊎_elim (λ (r : AllPass fates). inl (o, r)) (λ (r : AllPass fates → ⊥). inr (λ h. r h.1)) (all_pass_or fates))
    (λ (o : always_passes one ≡ true → ⊥). inr (λ h. o h.0)) (true_or (always_passes one))

plain_or : (e : world.Event) → IsPlain e ⊎ (IsPlain e → ⊥)
plain_or (event.Burst process place turns) = inl tt
plain_or (event.Act process) = inl tt
plain_or (event.Deliver packet copy) = inl tt
plain_or event.Tick = inl tt
plain_or (event.Crash node) = inr (λ h. h)
plain_or (event.Suspect node) = inr (λ h. h)
plain_or event.Swap = inr (λ h. h)

faulty_or : (f : Frame) (w v : World) (steps : List Step) → LeadsFirst f w steps v → IsFaulty steps ⊎ LeadsFaultless f w steps v
faulty_or f w v [] h = inr h
faulty_or f w v (step ∷ steps) h = ⊎_elim
    (λ (o : AllPass step.fates). ⊎_elim
    (λ (p : IsPlain step.event). ⊎_elim (λ (r : IsFaulty steps). inl (inr r)) (λ (r : LeadsFaultless f h.0 steps v). inr (h.0, h.1, record { fates = o; plain = p; first = h.2 }, r)) (faulty_or f h.0 v steps h.3))
    (λ (p : IsPlain step.event → ⊥). inl (inl (inr p))) (plain_or step.event))
    (λ (o : AllPass step.fates → ⊥). inl (inl (inl o))) (all_pass_or step.fates)

-- while a run goes it has had fewer events than stated
steps_few : (f : Frame) (w v : World) (steps : List Step) → ((w : World) → ReadsStanding f w) → w.steps ≤ f.settings.events → LeadsFirst f w steps v → (v.steps ≡ w.steps + length steps) × (v.steps ≤ f.settings.events)
steps_few f w v [] reads le h = let e = ap (λ (z : World). z.steps) h in (omega (arith, e), omega (arith, e, le))
steps_few f w v (step ∷ steps) reads le h =
    let e = ap (λ (z : World). z.steps) h.1.after in
    let less = ((reads w).says Going h.1.going).0.events in
    let r = steps_few f h.0 v steps reads (omega (arith, e, less)) h.3 in
    (omega (arith, e, r.0), r.1)

row_stands : (f : Frame) (w : World) (steps : List Step) (most : ℕ) → ((w : World) → ReadsStanding f w) → LeadsFirst f (opening_world f) steps w
    → (LeadsFaultless f (opening_world f) steps w → GoesWellWithin most f w steps) → standing f w ≡ OutOfEvents → OutOfEventsWithin most f w steps
row_stands f w steps most reads h well stands =
    let r = steps_few f (opening_world f) w steps reads (omega arith) h in
    let row = ((reads w).says OutOfEvents stands).2 in
    record {
      all = let a = r.0 in let b = r.1 in omega (arith, a, b, row);
      cause = ⊎_elim (λ (o : IsFaulty steps). inl o)
          (λ (o : LeadsFaultless f (opening_world f) steps w). ⊎_elim
          (λ (l : most < f.settings.events). absurd (subst (λ (s : Standing). Ends s) stands ((well o).ends l)))
          (λ (l : f.settings.events ≤ most). inr l) (cases_lt most f.settings.events))
          (faulty_or f (opening_world f) w steps h);
    }

pub enough : (f : Frame) (w : World) (steps : List Step) (most : ℕ) → ((w : World) → ReadsStanding f w) → LeadsFirst f (opening_world f) steps w
    → (LeadsFaultless f (opening_world f) steps w → GoesWellWithin most f w steps) → IsEnoughWithin most f w steps
enough f w steps most reads h well = record {
  well = λ fine. well (⊎_elim (λ (o : IsFaulty steps). absurd (fine o)) (λ (o : LeadsFaultless f (opening_world f) steps w). o) (faulty_or f (opening_world f) w steps h));
  row = row_stands f w steps most reads h well;
}
