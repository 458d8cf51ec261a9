-- What is taken from the top of the operands.
use Rattle.std.specs.Prelude.{◌≡◌, ℕ, Bool, true, false, List, []}
use Rattle.value_core.specs.Datum.{Datum}
use Rattle.value_paths.specs.declared.step.Step.{Step as ValueStep}
use Rattle.code_rules.specs.Instructions.{Mark}
use Rattle.code_rules.specs.Machine.{Effect, Stuck, indices, pops, steps_by}

-- what was begun goes on, or is stuck
abbrev pub goes_on : Bool → Effect → Effect
goes_on true e = e
goes_on false e = Stuck

-- so many operands were taken, to stand in front of these: whatever is done with them; or there weren't so many
abbrev pub Pops : ℕ → List Datum → List Datum → Bool → List Datum → List Datum → Type 0
Pops count old front done new values = (go : List Datum → List Datum → Effect) → pops count old front go ≡ goes_on done (go values new)

-- the indices of a path were taken: whatever is done with its steps; or there weren't so many
abbrev pub PopsPath : List Mark → List Datum → Bool → List Datum → List ValueStep → Type 0
PopsPath marks old done new path = (go : List ValueStep → List Datum → Effect) →
    pops (indices marks) old [] (λ xs rest. go (steps_by marks xs) rest) ≡ goes_on done (go path new)
