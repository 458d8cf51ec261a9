-- Behind the last fault no step is one.
use Rattle.std.proofs.Common.{◌≡◌, ◌+◌, ◌&&◌, ◌||◌, not, ℕ, zero, suc, Bool, true, false, List, [], ◌∷◌, ◌++◌, length, refl, sym, arith}
use Rattle.net_rules.specs.declared.fate.Fate.{Fate}
use Rattle.world_rules.specs.declared.event.Step.{Step}
use Rattle.world_facts.specs.Passing.{AllPass, always_passes}
use Rattle.world_idle.specs.Faults.{all_pass, crashes_in, is_from_wire, is_fault, last_fault, later_of, ticks_in}

abbrev pub NoFault : List Step → Type 0
NoFault [] = Unit {0}
NoFault (step ∷ steps) = (is_fault step ≡ false) × NoFault steps

-- ---- from the numbers of faults

later_none : (b : Bool) (n : ℕ) → later_of b n ≡ 0 → (b ≡ false) × (n ≡ 0)
later_none true zero e = absurd (omega (arith, e))
later_none false zero e = (refl, refl)
later_none b (suc n) e = absurd (omega (arith, e))

none_later : (steps : List Step) → last_fault steps ≡ 0 → NoFault steps
none_later [] e = tt
none_later (step ∷ steps) e = let k = later_none (is_fault step) (last_fault steps) e in (k.0, none_later steps k.1)

one_less : (b : Bool) (n k : ℕ) → later_of b n ≡ suc k → n ≡ k
one_less true zero k e = omega (arith, e)
one_less false zero k e = absurd (omega (arith, e))
one_less b (suc n) k e = omega (arith, e)

pub behind_last : (xs ys : List Step) → length xs ≡ last_fault (xs ++ ys) → NoFault ys
behind_last [] ys e = none_later ys (sym e)
behind_last (x ∷ xs) ys e = behind_last xs ys (sym (one_less (is_fault x) (last_fault (xs ++ ys)) (length xs) (sym e)))

pub no_fault_front : (xs ys : List Step) → NoFault (xs ++ ys) → NoFault xs
no_fault_front [] ys h = tt
no_fault_front (x ∷ xs) ys h = (h.0, no_fault_front xs ys h.1)

pub no_fault_back : (xs ys : List Step) → NoFault (xs ++ ys) → NoFault ys
no_fault_back [] ys h = h
no_fault_back (x ∷ xs) ys h = no_fault_back xs ys h.1

-- ---- a step that is no fault

neither : (a b : Bool) → (a || not b) ≡ false → (a ≡ false) × (b ≡ true)
neither true b e = absurd (cc e)
neither false true e = (refl, refl)
neither false false e = absurd (cc e)

both : (a b : Bool) → (a && b) ≡ true → (a ≡ true) × (b ≡ true)
both true b e = (refl, e)
both false b e = absurd (cc e)

passes : (fates : List Fate) → all_pass fates ≡ true → AllPass fates
passes [] e = tt
passes (one ∷ fates) e = let k = both (always_passes one) (all_pass fates) e in (k.0, passes fates k.1)

pub no_act : (step : Step) → is_fault step ≡ false → is_from_wire step.event ≡ false
no_act step e = (neither (is_from_wire step.event) (all_pass step.fates) e).0

pub each_passes : (step : Step) → is_fault step ≡ false → AllPass step.fates
each_passes step e = passes step.fates (neither (is_from_wire step.event) (all_pass step.fates) e).1

-- ---- counts of joined lists

pub ticks_append : (xs ys : List Step) → ticks_in (xs ++ ys) ≡ ticks_in xs + ticks_in ys
ticks_append [] ys = omega arith
ticks_append (x ∷ xs) ys = let r = ticks_append xs ys in omega (arith, r)

pub crashes_append : (xs ys : List Step) → crashes_in (xs ++ ys) ≡ crashes_in xs + crashes_in ys
crashes_append [] ys = omega arith
crashes_append (x ∷ xs) ys = let r = crashes_append xs ys in omega (arith, r)
