-- Steps are faulty exactly where their last fault has a number.
use Rattle.std.proofs.Common.{◌≡◌, ◌<◌, ◌⊎◌, ◌||◌, inl, inr, not, ⊎_elim, ℕ, zero, suc, Bool, true, false, List, [], ◌∷◌, refl, arith}
use Rattle.std.proofs.lemmas.Bool.{and_parts}
use Rattle.net_rules.specs.declared.fate.Fate.{Fate}
use Rattle.world_rules.specs.declared.event.Event as world
use Rattle.world_rules.specs.declared.event.Event.TheVariants as event
use Rattle.world_rules.specs.declared.event.Step.{Step}
use Rattle.world_facts.specs.Passing.{AllPass, always_passes}
use Rattle.world_idle.specs.Faults.{all_pass, is_fault, is_from_wire, last_fault, later_of}
use Rattle.world_law.proofs.AtWork.{both_true}
use Rattle.world_enough.specs.Faultless.{IsFaulty, IsPlain}
use Rattle.world_enough.specs.Numbered.{FaultsAreNumbered}

-- ---- one step

all_are : (fates : List Fate) → all_pass fates ≡ true → AllPass fates
all_are [] e = tt
all_are (one ∷ fates) e = let p = and_parts (always_passes one) (all_pass fates) e in (p.0, all_are fates p.1)

are_all : (fates : List Fate) → AllPass fates → all_pass fates ≡ true
are_all [] h = refl
are_all (one ∷ fates) h = both_true (always_passes one) (all_pass fates) h.0 (are_all fates h.1)

not_all : (b : Bool) → (b ≡ true → ⊥) → not b ≡ true
not_all true h = absurd (h refl)
not_all false h = refl

all_not : (b : Bool) → not b ≡ true → b ≡ true → ⊥
all_not true e d = absurd (cc e)
all_not false e d = absurd (cc d)

from_wire : (e : world.Event) → (IsPlain e → ⊥) → is_from_wire e ≡ true
from_wire (event.Burst process place turns) h = absurd (h tt)
from_wire (event.Act process) h = absurd (h tt)
from_wire (event.Deliver packet copy) h = absurd (h tt)
from_wire event.Tick h = absurd (h tt)
from_wire (event.Crash node) h = refl
from_wire (event.Suspect node) h = refl
from_wire event.Swap h = refl

not_plain : (e : world.Event) → is_from_wire e ≡ true → IsPlain e → ⊥
not_plain (event.Burst process place turns) e h = absurd (cc e)
not_plain (event.Act process) e h = absurd (cc e)
not_plain (event.Deliver packet copy) e h = absurd (cc e)
not_plain event.Tick e h = absurd (cc e)
not_plain (event.Crash node) e h = h
not_plain (event.Suspect node) e h = h
not_plain event.Swap e h = h

or_left : (a b : Bool) → a ≡ true → (a || b) ≡ true
or_left true b e = refl
or_left false b e = absurd (cc e)

or_right : (a b : Bool) → b ≡ true → (a || b) ≡ true
or_right true b e = refl
or_right false b e = e

or_either : (a b : Bool) → (a || b) ≡ true → (a ≡ true) ⊎ (b ≡ true)
or_either true b e = inl refl
or_either false b e = inr e

abbrev IsFault : Step → Type 0
IsFault step = (AllPass step.fates → ⊥) ⊎ (IsPlain step.event → ⊥)

fault_test : (step : Step) → IsFault step → is_fault step ≡ true
fault_test step (inl h) = or_right (is_from_wire step.event) (not (all_pass step.fates)) (not_all (all_pass step.fates) (λ e. h (all_are step.fates e)))
fault_test step (inr h) = or_left (is_from_wire step.event) (not (all_pass step.fates)) (from_wire step.event h)

test_fault : (step : Step) → is_fault step ≡ true → IsFault step
test_fault step e = ⊎_elim (λ (o : is_from_wire step.event ≡ true). inr (not_plain step.event o)) (λ (o : not (all_pass step.fates) ≡ true). inl (λ h. all_not (all_pass step.fates) o (are_all step.fates h)))
    (or_either (is_from_wire step.event) (not (all_pass step.fates)) e)

-- ---- steps

later_some : (b : Bool) (n : ℕ) → (b ≡ true) ⊎ (0 < n) → 0 < later_of b n
later_some true zero h = omega arith
later_some false zero (inl e) = absurd (cc e)
later_some false zero (inr l) = absurd (omega (arith, l))
later_some b (suc n) h = omega arith

some_later : (b : Bool) (n : ℕ) → 0 < later_of b n → (b ≡ true) ⊎ (0 < n)
some_later true n l = inl refl
some_later false zero l = absurd (omega (arith, l))
some_later false (suc n) l = inr (omega arith)

numbered : (steps : List Step) → IsFaulty steps → 0 < last_fault steps
numbered [] h = absurd h
numbered (step ∷ steps) (inl h) = later_some (is_fault step) (last_fault steps) (inl (fault_test step h))
numbered (step ∷ steps) (inr h) = later_some (is_fault step) (last_fault steps) (inr (numbered steps h))

faulty : (steps : List Step) → 0 < last_fault steps → IsFaulty steps
faulty [] l = absurd (omega (arith, l))
faulty (step ∷ steps) l = ⊎_elim (λ (o : is_fault step ≡ true). inl (test_fault step o)) (λ (o : 0 < last_fault steps). inr (faulty steps o)) (some_later (is_fault step) (last_fault steps) l)

pub faults_numbered : FaultsAreNumbered
faults_numbered steps = (numbered steps, faulty steps)
