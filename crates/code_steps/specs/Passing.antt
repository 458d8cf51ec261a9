-- What is passed, and where it comes from.
use Rattle.std.specs.Prelude.{◌≡◌, ℕ, Bool, List, [], ◌∷◌, Option, Some, None, option_map, Result, Ok, Err}
use Rattle.std.specs.Borrow.{Bor}
use Rattle.orca_base.specs.declared.fault.FaultKind.{FaultKind}
use Rattle.orca_base.specs.declared.ids.KindNo.{KindNo}
use Rattle.orca_base.specs.declared.ids.ProcessNo.{ProcessNo}
use Rattle.orca_tree.specs.declared.tree.Operator.{Operator}
use Rattle.value_core.specs.Datum.{Datum}
use Rattle.value_core.specs.View.{datum_of}
use Rattle.value_core.specs.declared.value.Value.{Value}
use Rattle.meaning_rules.specs.Calls.{Passed as RulePassed}
use Rattle.meaning_rules.specs.Expressions.{result}
use Rattle.meaning_rules.specs.Variables.{store}
use Rattle.frame_variables.specs.declared.stop.Stop.{Stop}
use Rattle.frame_variables.specs.declared.steps.Passed.{Passed}
use Rattle.frame_variables.specs.Gives.{passed_of}
use Rattle.code_rules.specs.Instructions.{Instr, Shape, Make}
use Rattle.code_rules.specs.Machine.{Code, Config, Effect, Stuck, act, at_state, next, on_out, short, take_args, take_one, to}
use Rattle.code_steps.specs.declared.advance.Advance.{Advance}
use Rattle.code_steps.specs.declared.advance.Advance.TheVariants as advance
use Rattle.code_steps.specs.Moves.{effect_of, holding, told}
use Rattle.code_steps.specs.Pops.{goes_on}

-- one argument was taken, whatever is done with it; or its operands weren't there
abbrev pub TakesOne : Shape → List Datum → Option Passed → List Datum → Type 0
TakesOne shape old None new = (go : RulePassed → List Datum → Effect) → take_one shape old go ≡ Stuck
TakesOne shape old (Some p) new = (go : RulePassed → List Datum → Effect) → take_one shape old go ≡ go (passed_of p) new

-- all of these were; or the operands weren't there
abbrev pub Takes : List Shape → List Datum → Bool → List Datum → List RulePassed → Type 0
Takes shapes old done new args = (go : List RulePassed → List Datum → Effect) → take_args shapes old go ≡ goes_on done (go args new)

-- `and` and `or`
abbrev pub Decides : Operator → ℕ → List Datum → List Datum → Advance → List Datum → Type 0
Decides operator address stack locals a stack' =
    (home : Config) → short operator address (holding home stack locals) ≡ effect_of home a stack' locals

-- the making of an object, by a process of this number
abbrev pub Makes : ProcessNo → KindNo → ℕ → ℕ → List Datum → List Datum → Advance → List Datum → Type 0
Makes process kind count slot stack locals a locals' =
    (code : Code) (home : Config) → home.process ≡ process →
    act code (Some (Make kind count slot)) (holding home stack locals) ≡ effect_of home a stack locals'

-- a change of variables went through, or it is why it stopped
abbrev pub Changes : Result (Unit {0}) Stop → Advance → Type 0
Changes (Ok u) a = a ≡ advance.Next
Changes (Err why) a = told why ≡ Some a

-- a value is stored in a slot, whatever operands are left
abbrev pub Stores : ℕ → Datum → List Datum → Advance → List Datum → Type 0
Stores slot x locals a locals' = (home : Config) (old st : List Datum) →
    on_out (store (to slot []) x (at_state locals)) (λ _ after. next (holding home old locals) st after) ≡ effect_of home a st locals'

-- a value that was made is pushed, or it is why none was
abbrev pub Pushes : Result Value Stop → List Datum → Advance → List Datum → Type 0
Pushes (Ok value) old a new = (a ≡ advance.Next) × (new ≡ datum_of value ∷ old)
Pushes (Err why) old a new = told why ≡ Some a

-- a value that was found is, or it is the fault for which none was
abbrev pub PushesFound : Result (Bor Value) FaultKind → List Datum → Advance → List Datum → Type 0
PushesFound (Ok value) old a new = (a ≡ advance.Next) × (new ≡ datum_of value.now ∷ old)
PushesFound (Err fault) old a new = a ≡ advance.Fails fault

-- what a change of a graph gives is pushed, or it is why the change stopped
abbrev pub PushesGiven : Result (Option Value) Stop → List Datum → Advance → List Datum → Type 0
PushesGiven (Ok given) old a new = (a ≡ advance.Next) × (new ≡ result (option_map datum_of given) ∷ old)
PushesGiven (Err why) old a new = told why ≡ Some a

-- an instruction does this in a process of this number
abbrev pub MovesOf : ProcessNo → Instr → List Datum → List Datum → Advance → List Datum → List Datum → Type 0
MovesOf process i stack locals a stack' locals' =
    (code : Code) (home : Config) → home.process ≡ process → act code (Some i) (holding home stack locals) ≡ effect_of home a stack' locals'
