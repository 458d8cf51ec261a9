-- Arguments, taken one after the other.
use Rattle.std.proofs.Common.{◌≡◌, ℕ, List, [], ◌∷◌, true, false, Some, None, ap, sym, ◌∙◌}
use Rattle.value_core.specs.Datum.{Datum}
use Rattle.value_core.specs.View.{datum_of}
use Rattle.value_core.specs.declared.value.Value.{Value}
use Rattle.value_paths.specs.declared.step.Step.{Step as ValueStep}
use Rattle.frame_variables.specs.declared.steps.Passed.TheVariants as passed
use Rattle.frame_variables.specs.declared.steps.Target.{Target}
use Rattle.frame_variables.specs.Gives.{target_of}
use Rattle.meaning_rules.specs.Calls.{Passed as RulePassed}
use Rattle.meaning_rules.specs.Calls as calls
use Rattle.code_rules.specs.Instructions as rules
use Rattle.code_rules.specs.Instructions.{Mark, Shape}
use Rattle.code_rules.specs.Machine.{on_top}
use Rattle.code_steps.specs.Passing.{TakesOne}
use Rattle.code_steps.specs.Pops.{PopsPath}

-- ---- one argument

pub gives_one : (old new : List Datum) (value : Value) → old ≡ datum_of value ∷ new → TakesOne rules.Gives old (Some (passed.Given value)) new
gives_one old new value is = λ go. ap (λ w. on_top w (λ x rest. go (calls.Given x) rest)) is

pub gives_none : (old new : List Datum) → old ≡ [] → TakesOne rules.Gives old None new
gives_none old new is = λ go. ap (λ w. on_top w (λ x rest. go (calls.Given x) rest)) is

pub lends_one : (slot : ℕ) (marks : List Mark) (old new : List Datum) (to : Target) (path : List ValueStep) → PopsPath marks old true new path → target_of to ≡ record { slot = slot; path = path } →
    TakesOne (rules.Lends slot marks) old (Some (passed.Lent to)) new
lends_one slot marks old new to path p is = λ go. p (λ q rest. go (calls.Lent (record { slot = slot; path = q })) rest) ∙ ap (λ t. go (calls.Lent t) new) (sym is)

pub lends_none : (slot : ℕ) (marks : List Mark) (old new : List Datum) (path : List ValueStep) → PopsPath marks old false new path → TakesOne (rules.Lends slot marks) old None new
lends_none slot marks old new path p = λ go. p (λ q rest. go (calls.Lent (record { slot = slot; path = q })) rest)
