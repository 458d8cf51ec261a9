-- The lines with which a run ends otherwise than by its program, and the line that an action writes (docs/FORMATS.md, The program).
use Rattle.std.specs.Prelude.{ℕ, List, [], ◌∷◌, ◌++◌, codes}
use Rattle.std.specs.Fmt.{decimal}
use Rattle.orca_base.specs.declared.fault.FaultKind.{FaultKind}
use Rattle.orca_base.specs.declared.what.What.{What}
use Rattle.orca_base.specs.declared.what.What.TheVariants as what
use Rattle.history_text.specs.Spelling.{fault_name}
use Rattle.value_core.specs.Datum.{Data}
use Rattle.value_core.specs.History.{string_first}

-- the string that is the first argument, and a line feed
abbrev pub line_with : Data → List ℕ
line_with args = string_first args ++ 10 ∷ []

abbrev pub faulted_line : ℕ → FaultKind → List ℕ
faulted_line process kind = codes "orca: process " ++ decimal process ++ (codes " faulted: " ++ fault_name kind ++ 10 ∷ [])

-- it waits for an operation of this name
abbrev pub blocked_line : ℕ → List ℕ → List ℕ
blocked_line process name = codes "orca: blocked: process " ++ decimal process ++ (codes " waits for " ++ name ++ 10 ∷ [])

abbrev pub no_group_line : List ℕ
no_group_line = codes "orca: no group" ++ 10 ∷ []

abbrev pub events_line : List ℕ
events_line = codes "orca: out of events" ++ 10 ∷ []

abbrev pub turns_line : ℕ → List ℕ
turns_line process = codes "orca: process " ++ decimal process ++ (codes " out of turns" ++ 10 ∷ [])

-- what a limit is of
abbrev pub what_name : What → List ℕ
what_name what.SourceBytes = codes "source bytes"
what_name what.ScriptBytes = codes "script bytes"
what_name what.HistoryBytes = codes "history bytes"
what_name what.Modules = codes "modules"
what_name what.Nesting = codes "nesting"
what_name what.CodeLength = codes "code length"
what_name what.Objects = codes "objects"
what_name what.Processes = codes "processes"
what_name what.HistoryLines = codes "history lines"
