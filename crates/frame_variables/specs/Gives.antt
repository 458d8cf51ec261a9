-- What code gives, by what a definition gives: a result and where the run then stands, or a stop.
use Rattle.std.specs.Prelude.{◌≡◌, List, map, Result, Ok, Err}
use Rattle.orca_base.specs.declared.fault.FaultKind.{FaultKind}
use Rattle.orca_base.specs.declared.refusal.Refusal.{Refusal}
use Rattle.orca_base.specs.declared.refusal.Refusal.TheVariants as refusal
use Rattle.value_core.specs.View.{datum_of}
use Rattle.value_paths.specs.declared.step.Step.{Step as ValueStep}
use Rattle.value_paths.specs.declared.step.Step.TheVariants as value_step
use Rattle.meaning_rules.specs.States.{State, Out, Goes, Stops}
use Rattle.meaning_rules.specs.States as rules
use Rattle.meaning_rules.specs.Variables.{Target as RuleTarget}
use Rattle.meaning_rules.specs.Calls.{Passed as RulePassed}
use Rattle.meaning_rules.specs.Calls as calls
use Rattle.frame_variables.specs.declared.run.Run.{Run}
use Rattle.frame_variables.specs.declared.steps.Step.{Step}
use Rattle.frame_variables.specs.declared.steps.Step.TheVariants as step
use Rattle.frame_variables.specs.declared.steps.Target.{Target}
use Rattle.frame_variables.specs.declared.steps.Passed.{Passed}
use Rattle.frame_variables.specs.declared.steps.Passed.TheVariants as passed
use Rattle.frame_variables.specs.declared.stop.Stop.{Stop}
use Rattle.frame_variables.specs.declared.stop.Stop.TheVariants as stop

-- ---- what code's own types stand for

abbrev pub step_of : Step → ValueStep
step_of (step.Index low index) = value_step.Index low index
step_of (step.Field place) = value_step.Field place
step_of (step.Node name) = value_step.Node name

abbrev pub path_of : List Step → List ValueStep
path_of path = map step_of path

abbrev pub target_of : Target → RuleTarget
target_of to = record { slot = to.slot; path = path_of to.path.items }

abbrev pub passed_of : Passed → RulePassed
passed_of (passed.Given value) = calls.Given (datum_of value)
passed_of (passed.Lent to) = calls.Lent (target_of to)

abbrev pub state_of : Run → State
state_of r = record { frame = r.frame; replies = r.replies.now; left = r.left }

-- a refusal, as a stop
abbrev pub refused : Refusal FaultKind → Stop
refused (refusal.Because fault) = stop.Faults fault
refused refusal.NoMemory = stop.NoMemory

-- ---- what is given

-- a stop is the definition's; of what there was no memory for nothing is said
abbrev pub Fails : {Y : Type 0} → Stop → Out Y → Type 0
Fails stop.NoMemory out = Unit {0}
Fails (stop.Needs action) out = out ≡ Stops (rules.Needs action)
Fails (stop.Faults fault) out = out ≡ Stops (rules.Faults fault)
Fails stop.Busy out = out ≡ Stops rules.Busy

-- a result is the definition's, and so is the state behind it
abbrev pub Gives : {X Y : Type 0} → (X → Y) → Result X Stop → State → Out Y → Type 0
Gives view (Ok x) s out = out ≡ Goes (view x) s
Gives view (Err why) s out = Fails why out
