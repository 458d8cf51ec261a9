-- Calls (docs/LANGUAGE.md, Functions; Operations and makings): what is passed, and what is called.
use Rattle.std.specs.Prelude.{ℕ, pos, List, [], ◌∷◌, map, unwrap_or, Option, option_map, option_and_then, Result, Ok, ℤ}
use Rattle.orca_base.specs.declared.fault.FaultKind.{FaultKind}
use Rattle.orca_base.specs.declared.fault.FaultKind.TheVariants.{NoReturn}
use Rattle.orca_base.specs.declared.ids.ObjectId.{ObjectId}
use Rattle.orca_tree.specs.declared.tree.Name.{Name}
use Rattle.orca_tree.specs.declared.tree.Mode.{Mode}
use Rattle.orca_tree.specs.declared.tree.Mode.TheVariants as mode
use Rattle.orca_syntax.specs.Syntax as syn
use Rattle.orca_syntax.specs.Syntax.{Expr, Exprs, Kind, Parameter}
use Rattle.type_rules.specs.declared.types.DataType.{DataType}
use Rattle.type_rules.specs.Types.{inside_of, outside_of, object_in}
use Rattle.type_rules.specs.declared.names.Predeclared.TheVariants as predeclared
use Rattle.type_rules.specs.TopLevel as top
use Rattle.type_rules.specs.declared.names.Predeclared.{Predeclared}
use Rattle.type_rules.specs.TopLevel.{What, TopName, StandsFor, stands_for}
use Rattle.type_rules.specs.Scopes.{Scope}
use Rattle.value_core.specs.Datum.{Datum, Data, data_of}
use Rattle.value_core.specs.Datum as datum
use Rattle.value_core.specs.declared.action.Action.TheVariants as action
use Rattle.value_core.specs.History.{output_object, output_kind}
use Rattle.meaning_rules.specs.Programs.{kind_of, op_of, text_of}
use Rattle.meaning_rules.specs.Openings.{opening}
use Rattle.meaning_rules.specs.Operators.{fitting_all}
use Rattle.meaning_rules.specs.States.{State, Out, Goes, Stops, Faults, after, gives, act}
use Rattle.meaning_rules.specs.Designators.{designator_type, root_type, named_value}
use Rattle.meaning_rules.specs.Variables.{Target, add_node, delete_node}

-- ---- arguments

-- what an argument passes: a value, or for `out` the place where the parameter's value goes when the function returns
pub data Passed : Type 0 where
  Given : Datum → Passed
  Lent : Target → Passed

-- an argument is evaluated as its parameter says
abbrev pub as_passed : Mode → (State → Out Datum) → (State → Out Target) → State → Out Passed
as_passed mode.Out value place s = after (place s) (λ to s1. Goes (Lent to) s1)
as_passed _ value place s = after (value s) (λ x s1. Goes (Given x) s1)

abbrev pub first_mode : List Mode → Mode
first_mode [] = mode.Value
first_mode (m ∷ ms) = m

-- the values that are passed
abbrev pub values_in : List Passed → List Datum
values_in [] = []
values_in (Given x ∷ ps) = x ∷ values_in ps
values_in (Lent to ∷ ps) = values_in ps

-- ---- functions

-- what a call of a function does, by the function's number among the names of the top level: it gives its result, where it has one
abbrev pub Calls : Type 0
Calls = ℕ → List Passed → State → Out (Option Datum)

pub data Callee : Type 0 where
  AFunction : ℕ → List Mode → Callee
  Adds Deletes NoFunction : Callee

abbrev pub function_in : ℕ → What → Callee
function_in i (top.Function ps r b) = AFunction i (map (λ p. p.mode) ps)
function_in i _ = NoFunction

abbrev pub predeclared_function : Predeclared → Callee
predeclared_function predeclared.AddNode = Adds
predeclared_function predeclared.DeleteNode = Deletes
predeclared_function _ = NoFunction

abbrev pub function_named : StandsFor → Callee
function_named (top.Top i t) = function_in i t.what
function_named (top.Everywhere p) = predeclared_function p
function_named top.Nothing = NoFunction

abbrev pub callee : Scope → Name → Callee
callee v n = function_named (stands_for v.program v.home n.text)

-- how each parameter of it is passed; a graph is lent
abbrev pub modes_of : Callee → List Mode
modes_of (AFunction i ms) = ms
modes_of Adds = mode.Out ∷ []
modes_of Deletes = mode.Value ∷ mode.Out ∷ []
modes_of NoFunction = []

-- what a node of the graph that is the first argument opens with
abbrev pub fresh_node : Scope → Exprs → Datum
fresh_node v syn.no_expr = datum.int (pos 0)
fresh_node v (syn.expr e es) = opening v.program (option_map inside_of (designator_type v e))

-- a call with what is passed
abbrev pub invoked : Calls → Callee → Datum → List Passed → State → Out (Option Datum)
invoked call (AFunction i ms) fresh ps s = after (gives (fitting_all (data_of (values_in ps))) s) (λ _ s1. call i ps s1)
invoked call Adds fresh (Lent to ∷ ps) s = add_node to fresh s
invoked call Deletes fresh (Given name ∷ Lent to ∷ ps) s = delete_node to name s
invoked call _ fresh ps s = Stops (Faults NoReturn)

-- ---- actions

-- the object that a name stands for, and the number of its type
abbrev pub id_in : Result Datum FaultKind → ObjectId
id_in (Ok (datum.object process number)) = record { process = process; number = number }
id_in _ = output_object

abbrev pub object_named : Scope → Name → State → ObjectId
object_named v o s = id_in (named_value v o s)

abbrev pub object_number : Option DataType → ℕ
object_number t = unwrap_or (option_and_then (λ t. object_in (outside_of t)) t) 0

-- a call of an object's operation
abbrev pub operate : Scope → Name → Name → List Datum → State → Out (Option Datum)
operate v o m xs s =
    after (gives (fitting_all (data_of xs)) s) (λ args s1.
    act (action.Call (kind_of v.program (object_number (root_type v o))) (op_of v.program (object_number (root_type v o)) m.text)
    (object_named v o s1) args) s1)

-- a fork, on a member where one is named
abbrev pub fork : Scope → Name → List Datum → Option ℤ → State → Out (Option Datum)
fork v p xs on s = after (gives (fitting_all (data_of xs)) s) (λ args s1. act (action.Fork (text_of v.program p.text) args on) s1)

-- a line of output
abbrev pub write : List ℕ → State → Out (Option Datum)
write line s = act (action.Call output_kind (record { 0 = 0 }) output_object (datum.more (datum.text line) datum.none)) s
