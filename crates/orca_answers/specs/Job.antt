-- What the program does for its words (docs/FORMATS.md, The program).
use Rattle.std.specs.Prelude.{ℕ, ◌==◌, Bool, List, [], ◌∷◌, ◌++◌, map, Option, Some, None, option_and_then, option_map, if◌then◌else◌}
use Rattle.command_line.specs.declared.request.MakeOptions.{MakeOptions}
use Rattle.command_line.specs.declared.request.RunOptions.{RunOptions}
use Rattle.command_line.specs.Asked.{Asked, IsMakeWithin, IsRunWithin}
use Rattle.command_line.specs.Asked as ask
use Rattle.command_line.specs.Command.{Command}
use Rattle.command_line.specs.Help.{help_of, version_line}
use Rattle.command_files.specs.Sources.{Word}
use Rattle.generated_program.specs.Program.{program_text}
use Rattle.orca_answers.specs.declared.job.Job.{Job}
use Rattle.orca_answers.specs.declared.job.Job.TheVariants as jobs
use Rattle.orca_answers.specs.declared.listing.Listed.{Listed}
use Rattle.orca_answers.specs.declared.listing.Listed.TheVariants.{Code}

-- it says a text, checks the program in files, lists this of it, says what is chosen for its sites among so many members, runs it, with
-- these options and this file of a script, or says whether the history in a file is one of it; or it runs the program that is made of this
-- number, by these options
pub data Deed : Type 0 where
  says : List ℕ → Deed
  checks : List Word → Deed
  lists : Listed → List Word → Deed
  chooses : ℕ → List Word → Deed
  runs : RunOptions → Option Word → List Word → Deed
  replays : Word → List Word → Deed
  makes : MakeOptions → ℕ → Deed

abbrev pub deed_of : Job → Deed
deed_of (jobs.Says text) = says text.now
deed_of (jobs.Checks files) = checks (map (λ s. s.now) files.items)
deed_of (jobs.Lists what files) = lists what (map (λ s. s.now) files.items)
deed_of (jobs.Chooses nodes files) = chooses nodes (map (λ s. s.now) files.items)
deed_of (jobs.Runs options script files) = runs options (option_map (λ s. s.now) script) (map (λ s. s.now) files.items)
deed_of (jobs.Replays history files) = replays history.now (map (λ s. s.now) files.items)
deed_of (jobs.Shows number) = says (program_text number)
deed_of (jobs.Makes options number) = makes options number

-- the files with the texts of its program, in order, where it checks, lists or runs one, or chooses for its sites
abbrev pub files_of : Deed → Option (List Word)
files_of (says text) = None
files_of (checks files) = Some files
files_of (lists what files) = Some files
files_of (chooses nodes files) = Some files
files_of (runs options script files) = Some files
files_of (replays history files) = None
files_of (makes options number) = None

-- the file of its script, where it has one
abbrev pub script_of : Deed → Option Word
script_of (says text) = None
script_of (checks files) = None
script_of (lists what files) = None
script_of (chooses nodes files) = None
script_of (runs options script files) = script
script_of (replays history files) = None
script_of (makes options number) = None

-- the numbers of its options are in their ranges, where it has options
abbrev pub IsDeedWithin : Deed → Type 0
IsDeedWithin (says text) = Unit {0}
IsDeedWithin (checks files) = Unit {0}
IsDeedWithin (lists what files) = Unit {0}
IsDeedWithin (chooses nodes files) = Unit {0}
IsDeedWithin (runs options script files) = IsRunWithin options
IsDeedWithin (replays history files) = Unit {0}
IsDeedWithin (makes options number) = IsMakeWithin options

-- so far a run is by one thread, whichever number of them isn't asked for
abbrev pub usual_workers : ℕ
usual_workers = 4

abbrev pub is_run_built : RunOptions → Bool
is_run_built options = options.workers == usual_workers

abbrev pub run_built : RunOptions → Option Word → List Word → Option Deed
run_built options script files = if is_run_built options then Some (runs options script files) else None

-- so it is of the program that is made of a number, unless that program alone is asked for
abbrev pub is_make_built : MakeOptions → Bool
is_make_built options = options.workers == usual_workers

abbrev pub make_built : MakeOptions → ℕ → Option Deed
make_built options number =
    if options.source then Some (says (program_text number)) else (if is_make_built options then Some (makes options number) else None)

-- what is done for what words ask for, as far as it is built: this is the one place that says so
abbrev pub built : Asked → Option Deed
built (ask.help of) = Some (says (help_of of))
built ask.version = Some (says version_line)
built (ask.check files) = Some (checks files)
built (ask.code source files) = Some (lists (Code source) files)
built (ask.choice nodes files) = Some (chooses nodes files)
built (ask.run options script files) = run_built options script files
built (ask.replay history files) = Some (replays history files)
built (ask.make options number) = make_built options number
built _ = None

-- what is done for the words: nothing where they are no command, or ask for what isn't built
abbrev pub deed_in : List Word → Option Deed
deed_in words = option_and_then built (Command words)

-- the files of the program of which something is done for the words, and that of the script
abbrev pub files_in : List Word → Option (List Word)
files_in words = option_and_then files_of (deed_in words)

abbrev pub script_in : List Word → Option Word
script_in words = option_and_then script_of (deed_in words)

-- ---- the files that are read

-- the name of the file of a script, where there is one
abbrev pub script_names : Option Word → List Word
script_names None = []
script_names (Some file) = file ∷ []

-- in their order: those of its program, and behind them that of its script, or of the history
abbrev pub names_of : Deed → List Word
names_of (says text) = []
names_of (checks files) = files
names_of (lists what files) = files
names_of (chooses nodes files) = files
names_of (runs options script files) = files ++ script_names script
names_of (replays history files) = files ++ history ∷ []
names_of (makes options number) = []

abbrev pub names_by : Option Deed → List Word
names_by None = []
names_by (Some deed) = names_of deed

-- all files that are read for the words, in their order, each as often as it is named
abbrev pub named_in : List Word → List Word
named_in words = names_by (deed_in words)
