-- Which text of the table (src/texts.rt) a cause has.
use Rattle.std.specs.Prelude.{ℕ, ◌-◌, List, [], map, slice_index_or}
use Rattle.orca_base.specs.declared.fault.FaultKind.{FaultKind}
use Rattle.orca_base.specs.declared.fault.FaultKind.TheVariants as fault
use Rattle.orca_base.specs.declared.what.What.{What}
use Rattle.orca_base.specs.declared.what.What.TheVariants as what
use Rattle.orca_lexer.specs.Rules.{number_of}
use Rattle.refusal_notes.specs.declared.cause.Cause.{Cause}
use Rattle.refusal_notes.specs.declared.cause.Cause.TheVariants as cause
use Rattle.refusal_notes.specs.declared.cause.Hint.{Hint}
use Rattle.refusal_notes.specs.declared.cause.Hint.TheVariants as hint
use Rattle.refusal_notes.specs.declared.cause.HistoryPart.{HistoryPart}
use Rattle.refusal_notes.specs.declared.cause.HistoryPart.TheVariants as part
use Rattle.refusal_notes.specs.declared.cause.ScriptRule.{ScriptRule}
use Rattle.refusal_notes.specs.declared.cause.ScriptRule.TheVariants as script
use Rattle.refusal_notes.specs.declared.cause.UsageRule.{UsageRule}
use Rattle.refusal_notes.specs.declared.cause.UsageRule.TheVariants as usage
use Rattle.refusal_notes.specs.declared.texts.TheConstants.{ABSENT, BLOCKED, FAULTS, HINTS, HISTORIES, LEXICAL, LIMITS, LINKING, MAIN_LOST, NO_GROUP, NO_SUCH_MEMBER, OUT_OF_EVENTS, OUT_OF_TURNS, PARAMETERS, SCRIPTS, TWO_MAINS, TYPING, UNEXPECTED_END, UNREADABLE, USAGE}

-- the text with this number, from 0
abbrev pub row : List (List ℕ) → ℕ → List ℕ
row texts number = slice_index_or texts number []

-- the text with this number, from 1
abbrev pub rule : List (List ℕ) → ℕ → List ℕ
rule texts number = row texts (number - 1)

abbrev pub hint_number : Hint → ℕ
hint_number hint.Equals = 0
hint_number hint.Semicolon = 1
hint_number hint.Closing = 2
hint_number hint.Header = 3
hint_number hint.Keyword = 4
hint_number hint.Other = 5

abbrev pub limit_number : What → ℕ
limit_number what.SourceBytes = 0
limit_number what.ScriptBytes = 1
limit_number what.HistoryBytes = 2
limit_number what.Modules = 3
limit_number what.Nesting = 4
limit_number what.CodeLength = 5
limit_number what.Objects = 6
limit_number what.Processes = 7
limit_number what.HistoryLines = 8

abbrev pub script_number : ScriptRule → ℕ
script_number script.UnknownWord = 0
script_number script.BadNumber = 1
script_number script.CarriageReturn = 2

abbrev pub part_number : HistoryPart → ℕ
part_number part.Form = 0
part_number part.Process = 1
part_number part.Call = 2
part_number part.Action = 3
part_number part.Guard = 4
part_number part.Reply = 5

abbrev pub fault_number : FaultKind → ℕ
fault_number fault.Overflow = 0
fault_number fault.DivideByZero = 1
fault_number fault.IndexOutside = 2
fault_number fault.FromEmpty = 3
fault_number fault.TooLarge = 4
fault_number fault.TooLong = 5
fault_number fault.TooDeep = 6
fault_number fault.NoReturn = 7

abbrev pub usage_number : UsageRule → ℕ
usage_number usage.NoCommand = 0
usage_number usage.UnknownCommand = 1
usage_number usage.NotBuilt = 2
usage_number usage.UnknownOption = 3
usage_number usage.MissingValue = 4
usage_number usage.NeedlessValue = 5
usage_number usage.BadValue = 6
usage_number usage.Repeated = 7
usage_number usage.TooFewMembers = 8
usage_number usage.MissingFile = 9
usage_number usage.NeedlessWord = 10
usage_number usage.NotUtf8 = 11
usage_number usage.Unclear = 12

-- the sentences of a cause, with `@` for what they speak of
abbrev pub text_of : Cause → List ℕ
text_of (cause.Lexical broken) = rule (map (λ text. text.now) LEXICAL) (number_of broken)
text_of (cause.Unexpected of) = row (map (λ text. text.now) HINTS) (hint_number of)
text_of cause.UnexpectedEnd = UNEXPECTED_END.now
text_of (cause.Linking broken) = rule (map (λ text. text.now) LINKING) broken
text_of cause.TwoMains = TWO_MAINS.now
text_of (cause.Typing broken) = rule (map (λ text. text.now) TYPING) broken
text_of (cause.Limit of) = row (map (λ text. text.now) LIMITS) (limit_number of)
text_of cause.Parameters = PARAMETERS.now
text_of (cause.Script broken) = row (map (λ text. text.now) SCRIPTS) (script_number broken)
text_of cause.NoSuchMember = NO_SUCH_MEMBER.now
text_of (cause.History of) = row (map (λ text. text.now) HISTORIES) (part_number of)
text_of cause.Absent = ABSENT.now
text_of cause.Unreadable = UNREADABLE.now
text_of (cause.Faulted of) = row (map (λ text. text.now) FAULTS) (fault_number of)
text_of cause.Blocked = BLOCKED.now
text_of cause.NoGroup = NO_GROUP.now
text_of cause.OutOfEvents = OUT_OF_EVENTS.now
text_of cause.OutOfTurns = OUT_OF_TURNS.now
text_of cause.MainLost = MAIN_LOST.now
text_of (cause.Usage broken) = row (map (λ text. text.now) USAGE) (usage_number broken)
