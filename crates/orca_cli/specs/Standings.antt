-- How a run ends by how it stands: its status, and what is said behind its output: its history and the places of that, where these are
-- asked for, and the line of its status (docs/FORMATS.md, Statuses, Histories, Places).
use Rattle.std.specs.Prelude.{◌≡◌, ◌<◌, ◌++◌, Bool, ℕ, ◌==◌, if◌then◌else◌, List, [], Option, None, Some, Result, Ok, Err, slice_get}
use Rattle.command_line.specs.declared.request.RunOptions.{RunOptions}
use Rattle.orca_base.specs.declared.fault.FaultKind.{FaultKind}
use Rattle.orca_io.specs.declared.sink.SinkFault.{SinkFault}
use Rattle.orca_io.specs.declared.sink.SinkFault.TheVariants as faults
use Rattle.orca_front.specs.Lines.{limit_line}
use Rattle.value_core.specs.declared.action.Action.{Action}
use Rattle.value_core.specs.declared.action.Action.TheVariants as action
use Rattle.value_core.specs.declared.action.Line.{Line}
use Rattle.value_core.specs.History.{output_of}
use Rattle.history_text.specs.Spelling.{called_name, history_text}
use Rattle.history_text.specs.declared.names.Names.{Names}
use Rattle.world_places.specs.Text.{places_text}
use Rattle.world_rules.specs.declared.standing.PlaceNote.{PlaceNote}
use Rattle.world_rules.specs.declared.standing.Standing.{Standing}
use Rattle.world_rules.specs.declared.standing.Standing.TheVariants.{Limit, OutOfTurns, OutOfEvents, NoGroup, Faulted, Blocked, Finished, Going}
use Rattle.run_ends.specs.declared.ends.ProcessEnd.{ProcessEnd}
use Rattle.run_ends.specs.declared.ends.ProcessStanding.{ProcessStanding}
use Rattle.run_ends.specs.declared.ends.ProcessStanding.TheVariants as process
use Rattle.command_output.specs.declared.statuses.TheConstants.{BLOCKED, FAULTED, FINISHED, LIMIT, NO_GROUP, NO_MEMORY, OUT_OF_EVENTS, OUT_OF_TURNS, WRITE_FAULT}
use Rattle.orca_cli.specs.declared.kept.Kept.{Kept}
use Rattle.orca_cli.specs.Lines.{blocked_line, events_line, faulted_line, no_group_line, turns_line, what_name}

-- a run that is still going stopped for want of memory
abbrev pub standing_status : Standing → ℕ
standing_status Finished = FINISHED
standing_status Faulted = FAULTED
standing_status Blocked = BLOCKED
standing_status NoGroup = NO_GROUP
standing_status OutOfEvents = OUT_OF_EVENTS
standing_status OutOfTurns = OUT_OF_TURNS
standing_status (Limit what number) = LIMIT
standing_status Going = NO_MEMORY

-- what is wanted, where all was written; else why it wasn't
abbrev pub write_status : ℕ → Result Unit SinkFault → ℕ
write_status wanted (Ok _) = wanted
write_status wanted (Err faults.Failed) = WRITE_FAULT
write_status wanted (Err faults.NoMemory) = NO_MEMORY

-- want of memory comes first, then a write that failed, then how the run stands
abbrev pub run_status : Standing → Result Unit SinkFault → ℕ
run_status Going printed = NO_MEMORY
run_status Finished printed = write_status FINISHED printed
run_status Faulted printed = write_status FAULTED printed
run_status Blocked printed = write_status BLOCKED printed
run_status NoGroup printed = write_status NO_GROUP printed
run_status OutOfEvents printed = write_status OUT_OF_EVENTS printed
run_status OutOfTurns printed = write_status OUT_OF_TURNS printed
run_status (Limit what number) printed = write_status LIMIT printed

-- ---- what there is to say of a process

-- how it faulted; the action to which it waits for a reply; that it took so many turns
abbrev pub fault_of : ProcessStanding → Option FaultKind
fault_of (process.Faulted fault) = Some fault
fault_of (process.Waits act) = None
fault_of process.Ended = None
fault_of process.Busy = None
fault_of process.Crashed = None

abbrev pub awaited_of : ProcessStanding → Option Action
awaited_of (process.Waits act) = Some act
awaited_of (process.Faulted fault) = None
awaited_of process.Ended = None
awaited_of process.Busy = None
awaited_of process.Crashed = None

abbrev pub spent_of : ℕ → ProcessEnd → Option Unit
spent_of turns end = if end.turns == turns then Some tt else None

-- process n, numbered from 0, is the lowest of which there is something to say, and this is that
abbrev pub IsLowest : {A : Type 0} → (ProcessEnd → Option A) → List ProcessEnd → ℕ → A → Type 0
IsLowest says ends n x =
    (end : ProcessEnd) × (slice_get ends n ≡ Some end) × (says end ≡ Some x)
    × ((i : ℕ) (lower : ProcessEnd) → i < n → slice_get ends i ≡ Some lower → says lower ≡ None)

-- ---- the history

abbrev pub history_said : Bool → Names → List Line → List ℕ
history_said asked names book = if asked then history_text names book else []

-- the places of its lines
abbrev pub places_said : Bool → List Line → List PlaceNote → List ℕ
places_said asked book notes = if asked then places_text book notes else []

-- what a run prints of what is kept, and its line at the end: what the history writes, and behind that the history and the places of its
-- lines, where these are asked for
abbrev pub run_said : RunOptions → Names → Kept → List ℕ → List ℕ
run_said options names k line =
    output_of k.book.items
    ++ (history_said options.history names k.book.items ++ (places_said options.explain k.book.items k.places.items ++ line))

-- ---- the line

-- `KIND$OP`, the operation for which a process waits that is at this action
abbrev pub awaited_name : Names → Action → List ℕ
awaited_name names (action.Call kind op object args) = called_name names kind op
awaited_name names (action.Make kind object) = []
awaited_name names (action.Fork text args place_on) = []
awaited_name names action.Ended = []
awaited_name names (action.Faulted fault) = []

-- the line tells of the lowest process of which there is something to say
abbrev pub IsOfLowest : {A : Type 0} → (ProcessEnd → Option A) → (ℕ → A → List ℕ) → List ProcessEnd → List ℕ → Type 0
IsOfLowest {A} says told ends line = (n : ℕ) × (x : A) × IsLowest says ends n x × (line ≡ told n x)

-- by the name of the operation that an action calls, the turns that each process may take, and the ends of processes
abbrev pub IsEndingLine : (Action → List ℕ) → ℕ → Standing → List ProcessEnd → List ℕ → Type 0
IsEndingLine name turns Faulted ends line = IsOfLowest (λ (end : ProcessEnd). fault_of end.standing) faulted_line ends line
IsEndingLine name turns Blocked ends line =
    IsOfLowest (λ (end : ProcessEnd). awaited_of end.standing) (λ n act. blocked_line n (name act)) ends line
IsEndingLine name turns NoGroup ends line = line ≡ no_group_line
IsEndingLine name turns OutOfEvents ends line = line ≡ events_line
IsEndingLine name turns OutOfTurns ends line = IsOfLowest (spent_of turns) (λ n spent. turns_line n) ends line
IsEndingLine name turns (Limit what number) ends line = line ≡ limit_line (what_name what) number
IsEndingLine name turns Finished ends line = line ≡ []
IsEndingLine name turns Going ends line = line ≡ []
