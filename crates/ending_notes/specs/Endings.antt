-- The note on how a command ended (docs/FORMATS.md, Notes, Statuses).
use Rattle.std.specs.Prelude.{◌≡◌, ◌⊎◌, ◌-◌, ◌==◌, ◌≤◌, ℕ, Bool, false, if◌then◌else◌, List, [], Option, Some, None, Result, Ok, Err, length, option_and_then, slice_get, take}
use Rattle.std.specs.Option.{option_map_or}
use Rattle.orca_base.specs.declared.what.What.{What}
use Rattle.orca_io.specs.Files.{File}
use Rattle.orca_io.specs.declared.sink.SinkFault.{SinkFault}
use Rattle.command_line.specs.Asked.{Asked}
use Rattle.command_line.specs.Asked as asked
use Rattle.command_line.specs.Command.{Command}
use Rattle.command_output.specs.Printed.{IsFront}
use Rattle.command_output.specs.declared.statuses.TheConstants.{ABSENT, BAD_SCRIPT, BLOCKED, LIMIT, NO_GROUP, OUT_OF_EVENTS, OUT_OF_TURNS, READ_FAULT, REFUSED, USAGE}
use Rattle.link_rules.specs.Units.{Source}
use Rattle.accepted_law.specs.Limits.{IsWithinLimits}
use Rattle.orca_front.specs.Sources.{IsAccepted}
use Rattle.net_rules.specs.declared.line.ScriptLine.{ScriptLine}
use Rattle.fault_scripts.specs.Says.{IsScript}
use Rattle.fault_scripts.specs.Script.{IsRefusal}
use Rattle.fault_scripts.specs.declared.error.ScriptError.{ScriptError}
use Rattle.fault_scripts.specs.declared.error.ScriptError.TheVariants as scripts
use Rattle.refusal_notes.specs.declared.cause.Cause.{Cause}
use Rattle.refusal_notes.specs.declared.cause.Cause.TheVariants as causes
use Rattle.refusal_notes.specs.declared.cause.ScriptRule.{ScriptRule}
use Rattle.refusal_notes.specs.declared.cause.ScriptRule.TheVariants as rules
use Rattle.refusal_notes.specs.declared.cause.UsageRule.{UsageRule}
use Rattle.refusal_notes.specs.declared.spot.Spot.{Spot}
use Rattle.refusal_notes.specs.Excerpts.{line_at}
use Rattle.refusal_notes.specs.Notes.{note_of}
use Rattle.program_notes.specs.Faults.{IsSpot}
use Rattle.ending_notes.specs.Programs.{IsProgramNote}

-- ---- what a note may be

-- how many files of a program a request names
abbrev pub count_of : Asked → Option ℕ
count_of (asked.check files) = Some (length files)
count_of (asked.run options script files) = Some (length files)
count_of (asked.code source files) = Some (length files)
count_of (asked.choice nodes files) = Some (length files)
count_of (asked.replay history files) = Some (length files)
count_of _ = None

-- how many files of a program words name
abbrev pub program_files : List (List ℕ) → Option ℕ
program_files words = option_and_then count_of (Command words)

-- what of a script's line is wrong, and which line that is
abbrev pub rule_of : ScriptError → ScriptRule
rule_of (scripts.UnknownWord line) = rules.UnknownWord
rule_of (scripts.BadNumber line) = rules.BadNumber

abbrev pub line_of : ScriptError → ℕ
line_of (scripts.UnknownWord line) = line
line_of (scripts.BadNumber line) = line

-- a line ends in a carriage return
abbrev pub ends_in_return : List ℕ → Bool
ends_in_return line = option_map_or (λ byte. byte == 13) (slice_get line (length line - 1)) false

-- what is said of the line that is wrong: that it ends so, where it does, and else what of it is wrong
abbrev pub script_rule : List ℕ → ScriptError → ScriptRule
script_rule text error = if ends_in_return (line_at (line_of error) text) then rules.CarriageReturn else rule_of error

-- the file's text is no script, and the note is on the first line that is wrong
abbrev pub IsScriptNote : File → List ℕ → Type 0
IsScriptNote file note =
    (error : ScriptError) × (spot : Spot) × IsRefusal file.1 error
    × IsSpot spot file.0 file.1 (record { line = line_of error; column = 1 })
    × (note ≡ note_of (causes.Script (script_rule file.1 error)) [] (Some spot))

-- the file that was read last
abbrev pub IsLast : List File → File → Type 0
IsLast files file = slice_get files (length files - 1) ≡ Some file

-- the cause that a status tells by itself
abbrev pub IsPlainCause : ℕ → Cause → Type 0
IsPlainCause status cause =
    ((status ≡ ABSENT) × (cause ≡ causes.Absent)) ⊎ ((status ≡ READ_FAULT) × (cause ≡ causes.Unreadable))
    ⊎ ((status ≡ BLOCKED) × (cause ≡ causes.Blocked)) ⊎ ((status ≡ NO_GROUP) × (cause ≡ causes.NoGroup))
    ⊎ ((status ≡ OUT_OF_EVENTS) × (cause ≡ causes.OutOfEvents)) ⊎ ((status ≡ OUT_OF_TURNS) × (cause ≡ causes.OutOfTurns))

-- The command that these words are ended in this status, and these texts were read, in this order. The program that the words name was refused:
-- its texts, the first ones, are no accepted program, or there is more of something than its limit. Or the last text is no script; the words
-- are no command, or ask for what isn't built; or the status tells its cause
pub data IsEndingNote (status : ℕ) (words : List (List ℕ)) (files : List File) (note : List ℕ) : Type 0 where
  program : (status ≡ REFUSED) ⊎ (status ≡ LIMIT) → (count : ℕ) → program_files words ≡ Some count → IsProgramNote (take count files) note →
      IsEndingNote status words files note
  limit : status ≡ LIMIT → (what : What) → note ≡ note_of (causes.Limit what) [] None → IsEndingNote status words files note
  script : status ≡ BAD_SCRIPT → (file : File) → IsLast files file → IsScriptNote file note → IsEndingNote status words files note
  usage : status ≡ USAGE → (rule : UsageRule) (subject : List ℕ) → note ≡ note_of (causes.Usage rule) subject None →
      IsEndingNote status words files note
  plain : (cause : Cause) → IsPlainCause status cause → note ≡ note_of cause [] None → IsEndingNote status words files note

-- ---- where there is one

-- the texts of the program that the words name are one that is accepted and keeps within the limits, unless they weren't all read
abbrev pub IsJudged : List (List ℕ) → List File → Type 0
IsJudged words files =
    (count : ℕ) → program_files words ≡ Some count → count ≤ length files →
    (units : List Source) × IsAccepted (take count files) units × IsWithinLimits units

-- No note is owed: the status doesn't tell its cause by itself, and isn't that of words which are no command. Where it is that of a script, the
-- text that was read last is one, if any was; and where it is that of a program that is refused, or of a limit, the program is accepted
pub record IsUnowed (status : ℕ) (words : List (List ℕ)) (files : List File) : Type 0 where
  pub plain : (cause : Cause) → IsPlainCause status cause → ⊥
  pub usage : status ≡ USAGE → ⊥
  pub script : status ≡ BAD_SCRIPT → (file : File) → IsLast files file → (said : List ScriptLine) × IsScript file.1 said
  pub program : (status ≡ REFUSED) ⊎ (status ≡ LIMIT) → IsJudged words files

-- what may have been written behind a command that ended so: a note, or a front of one; or nothing
abbrev pub IsNoted : ℕ → List (List ℕ) → List File → List ℕ → Type 0
IsNoted status words files text = (text ≡ []) ⊎ ((note : List ℕ) × IsEndingNote status words files note × IsFront text note)

-- what was written: the whole note, or nothing where none is owed; and where that failed, or memory lacked, a front of it
abbrev pub IsWritten : ℕ → List (List ℕ) → List File → Result Unit SinkFault → List ℕ → Type 0
IsWritten status words files (Ok _) text = IsEndingNote status words files text ⊎ ((text ≡ []) × IsUnowed status words files)
IsWritten status words files (Err fault) text = IsNoted status words files text
