-- Why files weren't read, with which status and line that ends, and the program in those that were (docs/FORMATS.md, Statuses).
use Rattle.std.specs.Prelude.{◌≡◌, ℕ, ◌<◌, List, length, Option, Some, None, Result, Ok, Err, IfSome, IsSome, codes}
use Rattle.orca_base.specs.declared.limits.TheConstants.{MODULES, SOURCE_BYTES}
use Rattle.orca_base.specs.declared.refusal.Refusal.{Refusal}
use Rattle.orca_base.specs.declared.refusal.Refusal.TheVariants.{Because, NoMemory}
use Rattle.orca_io.specs.Files.{File, content_of}
use Rattle.orca_io.specs.declared.shelf.ShelfFault.{ShelfFault}
use Rattle.orca_io.specs.declared.shelf.ShelfFault.TheVariants as causes
use Rattle.link_rules.specs.Units.{Source}
use Rattle.orca_front.specs.declared.fault.FrontFault.{FrontFault}
use Rattle.orca_front.specs.declared.fault.FrontFault.TheVariants as fronts
use Rattle.orca_front.specs.Lines.{limit_line}
use Rattle.orca_front.specs.declared.source.SourceFile.{SourceFile}
use Rattle.orca_front.specs.Sources.{IsAccepted, file_of}
use Rattle.command_files.specs.declared.load_fault.LoadFault.{LoadFault}
use Rattle.command_files.specs.declared.load_fault.LoadFault.TheVariants.{Absent, Failed, TooLong, TooMany}
use Rattle.command_output.specs.declared.statuses.TheConstants.{ABSENT, LIMIT, READ_FAULT, REFUSED}
use Rattle.command_files.specs.Lines.{absent_line, unread_line}
use Rattle.command_files.specs.Sources.{AreRead, IsRead, StopsAt, Word}

-- the file isn't there
abbrev pub IsAbsent : Option (List File) → List ℕ → Type 0
IsAbsent told file = IfSome told (λ files. content_of files file ≡ None)

-- the file is there
abbrev pub IsThere : Option (List File) → List ℕ → Type 0
IsThere told file = IfSome told (λ files. IsSome (content_of files file))

-- it is longer than its limit
abbrev pub IsTooLong : Option (List File) → ℕ → List ℕ → Type 0
IsTooLong told limit file = IfSome told (λ files. (text : List ℕ) × (content_of files file ≡ Some text) × (limit < length text))

-- There are more files than a program may have modules. Or reading stopped at a file, which was asked for last: it isn't there, it is too
-- long, or it is there and its read failed
abbrev pub IsLoadFault : Option (List File) → (ShelfFault → Word → Type 0) → List Word → LoadFault → Type 0
IsLoadFault told stopped files TooMany = MODULES < length files
IsLoadFault told stopped files (Absent file) = StopsAt told files file.now × IsAbsent told file.now × stopped causes.Absent file.now
IsLoadFault told stopped files (TooLong file) = StopsAt told files file.now × IsTooLong told SOURCE_BYTES file.now × stopped causes.TooLong file.now
IsLoadFault told stopped files (Failed file) = StopsAt told files file.now × IsThere told file.now × stopped causes.Failed file.now

abbrev pub load_status : LoadFault → ℕ
load_status TooMany = LIMIT
load_status (Absent file) = ABSENT
load_status (TooLong file) = LIMIT
load_status (Failed file) = READ_FAULT

abbrev pub load_line : LoadFault → List ℕ
load_line TooMany = limit_line (codes "modules") MODULES
load_line (Absent file) = absent_line file.now
load_line (TooLong file) = limit_line (codes "source bytes") SOURCE_BYTES
load_line (Failed file) = unread_line file.now

-- a file that is there couldn't be read
abbrev pub IsFailed : LoadFault → Type 0
IsFailed (Failed file) = Unit {0}
IsFailed fault = ⊥

-- what was read of one file, or why nothing was
abbrev pub Reads : Option (List File) → (ShelfFault → Word → Type 0) → List ℕ → Result SourceFile (Refusal LoadFault) → Type 0
Reads told stopped name (Ok s) = (s.name.now ≡ name) × IsRead told SOURCE_BYTES (file_of s)
Reads told stopped name (Err (Because TooMany)) = ⊥
Reads told stopped name (Err (Because (Absent file))) = (file.now ≡ name) × IsAbsent told name × stopped causes.Absent name
Reads told stopped name (Err (Because (TooLong file))) = (file.now ≡ name) × IsTooLong told SOURCE_BYTES name × stopped causes.TooLong name
Reads told stopped name (Err (Because (Failed file))) = (file.now ≡ name) × IsThere told name × stopped causes.Failed name
Reads told stopped name (Err NoMemory) = Unit {0}

-- ---- the program in files

-- the status with which the program ends for texts that are no program
abbrev pub front_status : FrontFault → ℕ
front_status fronts.TooNested = LIMIT
front_status _ = REFUSED

-- all files were read, and their texts are the units of a program that is accepted
abbrev pub IsLoaded : Option (List File) → List Word → List Source → Type 0
IsLoaded told files units = (sources : List File) × AreRead told files sources × IsAccepted sources units
