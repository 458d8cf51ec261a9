-- The text of a history (docs/FORMATS.md, Histories): a line for each performed operation, where object types, operations and
-- process texts stand by their names.
use Rattle.std.specs.Prelude.{ℕ, ℤ, List, [], ◌∷◌, ◌++◌, Option, None, Some, codes, get_or, slice_get}
use Rattle.std.specs.Fmt.{decimal, signed_decimal}
use Rattle.std.specs.List.{flat_map}
use Rattle.orca_base.specs.declared.fault.FaultKind.{FaultKind}
use Rattle.orca_base.specs.declared.fault.FaultKind.TheVariants as fault
use Rattle.orca_base.specs.declared.ids.KindNo.{KindNo}
use Rattle.orca_base.specs.declared.ids.ObjectId.{ObjectId}
use Rattle.orca_base.specs.declared.ids.OpNo.{OpNo}
use Rattle.value_core.specs.Datum.{Data}
use Rattle.value_core.specs.Datum as datum
use Rattle.value_core.specs.View.{datum_of}
use Rattle.value_core.specs.declared.action.Action.{Action}
use Rattle.value_core.specs.declared.action.Action.TheVariants as action
use Rattle.value_core.specs.declared.action.Line.{Line}
use Rattle.value_core.specs.declared.action.Reply.{Reply}
use Rattle.value_core.specs.declared.action.Reply.TheVariants as answer
use Rattle.value_texts.specs.Spelling.{parts_text, value_text}
use Rattle.history_text.specs.declared.names.Names.{Names}
use Rattle.history_text.specs.declared.names.Operations.{Operations}

-- the names of a type's operations
abbrev pub operations_in : Option Operations → List (List ℕ)
operations_in None = []
operations_in (Some operations) = operations.names.items

abbrev pub operation_names : Names → ℕ → List (List ℕ)
operation_names names kind = operations_in (slice_get names.operations.items kind)

-- the name with this number
abbrev pub name_of : List (List ℕ) → ℕ → List ℕ
name_of names number = get_or names number []

-- `KIND$OP`: an operation, by the names of its type and its own
abbrev pub called_name : Names → KindNo → OpNo → List ℕ
called_name names kind op = name_of names.kinds.items kind.0 ++ 36 ∷ name_of (operation_names names kind.0) op.0

-- the name of a fault
abbrev pub fault_name : FaultKind → List ℕ
fault_name fault.Overflow = codes "Overflow"
fault_name fault.DivideByZero = codes "DivideByZero"
fault_name fault.IndexOutside = codes "IndexOutside"
fault_name fault.FromEmpty = codes "FromEmpty"
fault_name fault.TooLarge = codes "TooLarge"
fault_name fault.TooLong = codes "TooLong"
fault_name fault.TooDeep = codes "TooDeep"
fault_name fault.NoReturn = codes "NoReturn"

-- an object, as a value's text has it
abbrev pub object_text : ObjectId → List ℕ
object_text object = value_text (datum.object object.process object.number)

-- arguments in round brackets
abbrev pub arguments_text : Data → List ℕ
arguments_text args = 40 ∷ (parts_text args ++ 41 ∷ [])

-- the integer behind `on`, or `parent` where a fork names none
abbrev pub place_text : Option ℤ → List ℕ
place_text None = codes "parent"
place_text (Some place) = signed_decimal place

-- `make KIND OBJECT`, `call KIND$OP OBJECT (ARGS) guard G` or `fork NAME (ARGS) on WHERE`
unfoldable pub action_text : Names → Action → ℕ → List ℕ
action_text names (action.Make kind object) guard =
    codes "make " ++ (name_of names.kinds.items kind.0 ++ 32 ∷ object_text object)
action_text names (action.Call kind op object args) guard =
    codes "call " ++ (called_name names kind op ++ 32 ∷ (object_text object ++ 32 ∷ (arguments_text args ++ (codes " guard " ++ decimal guard))))
action_text names (action.Fork process args place_on) guard =
    codes "fork " ++ (name_of names.texts.items process.0 ++ 32 ∷ (arguments_text args ++ (codes " on " ++ place_text place_on)))
action_text names action.Ended guard = []
action_text names (action.Faulted fault) guard = []

-- `none`, a value, or `fault KIND`
unfoldable pub reply_text : Reply → List ℕ
reply_text answer.Done = codes "none"
reply_text (answer.Gave value) = value_text (datum_of value)
reply_text (answer.Broke fault) = codes "fault " ++ fault_name fault

-- the process and the number of its call, the action and the reply, with one space between two parts, and a line feed
unfoldable pub line_text : Names → Line → List ℕ
line_text names line =
    decimal line.process.0 ++ 32 ∷ (decimal line.call.0 ++ 32 ∷ (action_text names line.action line.guard ++ 32 ∷ (reply_text line.reply ++ 10 ∷ [])))

abbrev pub history_text : Names → List Line → List ℕ
history_text names lines = flat_map (line_text names) lines
