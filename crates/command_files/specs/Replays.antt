-- The files of `replay`, and why they weren't read (docs/FORMATS.md, The program): those of the program first, and behind them the history.
use Rattle.std.specs.Prelude.{◌≡◌, ℕ, List, Option, codes}
use Rattle.orca_base.specs.declared.limits.TheConstants.{HISTORY_BYTES}
use Rattle.orca_io.specs.Files.{File}
use Rattle.orca_io.specs.declared.shelf.ShelfFault.{ShelfFault}
use Rattle.orca_io.specs.declared.shelf.ShelfFault.TheVariants as causes
use Rattle.orca_front.specs.Lines.{limit_line}
use Rattle.command_output.specs.declared.statuses.TheConstants.{ABSENT, LIMIT, READ_FAULT}
use Rattle.command_files.specs.declared.replay_fault.ReplayFault.{ReplayFault}
use Rattle.command_files.specs.declared.replay_fault.ReplayFault.TheVariants.{Absent, Failed, Program, TooLong}
use Rattle.command_files.specs.Lines.{absent_line, unread_line}
use Rattle.command_files.specs.Loaded.{IsAbsent, IsFailed, IsLoadFault, IsThere, IsTooLong, load_line, load_status}
use Rattle.command_files.specs.Sources.{AreRead, IsRead, Word}

-- all files were read, and the history with this text
abbrev pub HasRead : Option (List File) → Word → List Word → List File → List ℕ → Type 0
HasRead told history files sources text = AreRead told files sources × IsRead told HISTORY_BYTES (history, text)

-- all files of the program were read
abbrev pub IsProgramRead : Option (List File) → List Word → Type 0
IsProgramRead told files = (sources : List File) × AreRead told files sources

-- the history, which was asked for last, isn't there, or is longer than one may be, or is there and its read failed
abbrev pub IsHistoryFault : Option (List File) → (ShelfFault → Word → Type 0) → Word → ReplayFault → Type 0
IsHistoryFault told stopped history (Absent file) = (file.now ≡ history) × IsAbsent told history × stopped causes.Absent history
IsHistoryFault told stopped history TooLong = IsTooLong told HISTORY_BYTES history × stopped causes.TooLong history
IsHistoryFault told stopped history (Failed file) = (file.now ≡ history) × IsThere told history × stopped causes.Failed history
IsHistoryFault told stopped history (Program fault) = ⊥

-- a file of the program wasn't read; or all were, and the history wasn't
abbrev pub IsReplayFault : Option (List File) → (ShelfFault → Word → Type 0) → Word → List Word → ReplayFault → Type 0
IsReplayFault told stopped history files (Program fault) = IsLoadFault told stopped files fault
IsReplayFault told stopped history files fault = IsProgramRead told files × IsHistoryFault told stopped history fault

abbrev pub replay_status : ReplayFault → ℕ
replay_status (Program fault) = load_status fault
replay_status (Absent file) = ABSENT
replay_status TooLong = LIMIT
replay_status (Failed file) = READ_FAULT

abbrev pub replay_line : ReplayFault → List ℕ
replay_line (Program fault) = load_line fault
replay_line (Absent file) = absent_line file.now
replay_line TooLong = limit_line (codes "history bytes") HISTORY_BYTES
replay_line (Failed file) = unread_line file.now

-- a file that is there couldn't be read
abbrev pub IsUnreadable : ReplayFault → Type 0
IsUnreadable (Program fault) = IsFailed fault
IsUnreadable (Failed file) = Unit {0}
IsUnreadable fault = ⊥
