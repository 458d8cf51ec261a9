-- The script of a run: what the text in its file says, or nothing where there is none (docs/RUNTIME.md, Fault scripts).
use Rattle.std.specs.Prelude.{◌≡◌, ℕ, List, [], ◌∷◌, ◌++◌, map, Option, None, Some, codes}
use Rattle.fault_scripts.specs.Says.{IsScript}
use Rattle.fault_scripts.specs.Script.{IsRefusal}
use Rattle.net_rules.specs.declared.line.ScriptLine.{ScriptLine}
use Rattle.orca_base.specs.declared.limits.TheConstants.{SCRIPT_BYTES}
use Rattle.orca_io.specs.Files.{File}
use Rattle.orca_io.specs.declared.shelf.ShelfFault.{ShelfFault}
use Rattle.orca_io.specs.declared.shelf.ShelfFault.TheVariants as causes
use Rattle.orca_io.specs.Reading.{FileRead, ReadSince, had}
use Rattle.orca_front.specs.Lines.{limit_line}
use Rattle.orca_answers.specs.declared.script.ScriptFault.{ScriptFault}
use Rattle.orca_answers.specs.declared.script.ScriptFault.TheVariants.{Absent, Bad, Failed, TooLong}
use Rattle.command_output.specs.declared.statuses.TheConstants.{ABSENT, BAD_SCRIPT, LIMIT, READ_FAULT}
use Rattle.command_files.specs.Sources.{Word}
use Rattle.orca_answers.specs.Job.{script_in}
use Rattle.command_files.specs.Lines.{absent_line, unread_line}
use Rattle.orca_answers.specs.Lines.{script_line}
use Rattle.command_files.specs.Loaded.{IsAbsent, IsThere, IsTooLong}
use Rattle.command_files.specs.Sources.{IsRead}

-- the text in this file was read, and says these lines; without a file there are none
abbrev pub IsScriptOf : Option (List File) → Option Word → List ScriptLine → Type 0
IsScriptOf told None lines = lines ≡ []
IsScriptOf told (Some file) lines = (text : List ℕ) × IsRead told SCRIPT_BYTES (file, text) × IsScript text lines

-- what is read for it: that file, with its text
abbrev pub script_read : (told : Option (List File)) (script : Option Word) (lines : List ScriptLine) → IsScriptOf told script lines →
    List FileRead
script_read told None lines has = []
script_read told (Some file) lines has = had (file, has.0) ∷ []

-- it is that of the text which was read since, and nothing else was read
abbrev pub IsScriptSince : Option (List File) → Option Word → List FileRead → List FileRead → List ScriptLine → Type 0
IsScriptSince told script old new lines = (has : IsScriptOf told script lines) × ReadSince old new (script_read told script lines has)

-- the words name no file of a script, or one that has a script
abbrev pub HasScript : Option (List File) → List Word → Type 0
HasScript told words = (lines : List ScriptLine) × IsScriptOf told (script_in words) lines

-- what is read for that
abbrev pub script_reads : (told : Option (List File)) (words : List Word) → HasScript told words → List FileRead
script_reads told words script = script_read told (script_in words) script.0 script.1

-- these sources were read since, behind them the text of that script, and nothing else
abbrev pub HasScriptSince : Option (List File) → List Word → List FileRead → List FileRead → List File → Type 0
HasScriptSince told words earlier later sources =
    (script : HasScript told words) × ReadSince earlier later (map had sources ++ script_reads told words script)

-- the text is no script: this line is the first that is wrong
abbrev pub IsWrong : List ℕ → ScriptFault → Type 0
IsWrong text (Bad error) = IsRefusal text error
IsWrong text (Absent file) = ⊥
IsWrong text (TooLong file) = ⊥
IsWrong text (Failed file) = ⊥

-- The file, which was asked for last, isn't there, or is longer than a script may be, or is there and its read failed. Or its text, which
-- was read since, is no script
abbrev pub IsScriptFault : Option (List File) → List FileRead → List FileRead → (ShelfFault → Word → Type 0) → Word → ScriptFault → Type 0
IsScriptFault told earlier later stopped script (Absent file) = (file.now ≡ script) × IsAbsent told script × stopped causes.Absent script
IsScriptFault told earlier later stopped script (TooLong file) = (file.now ≡ script) × IsTooLong told SCRIPT_BYTES script × stopped causes.TooLong script
IsScriptFault told earlier later stopped script (Failed file) = (file.now ≡ script) × IsThere told script × stopped causes.Failed script
IsScriptFault told earlier later stopped script (Bad error) =
    (text : List ℕ) × IsRead told SCRIPT_BYTES (script, text) × ReadSince earlier later (had (script, text) ∷ []) × IsWrong text (Bad error)

abbrev pub script_status : ScriptFault → ℕ
script_status (Absent file) = ABSENT
script_status (TooLong file) = LIMIT
script_status (Failed file) = READ_FAULT
script_status (Bad error) = BAD_SCRIPT

abbrev pub script_fault_line : ScriptFault → List ℕ
script_fault_line (Absent file) = absent_line file.now
script_fault_line (TooLong file) = limit_line (codes "script bytes") SCRIPT_BYTES
script_fault_line (Failed file) = unread_line file.now
script_fault_line (Bad error) = script_line error

-- a file that is there couldn't be read
abbrev pub IsUnreadable : ScriptFault → Type 0
IsUnreadable (Failed file) = Unit {0}
IsUnreadable fault = ⊥
