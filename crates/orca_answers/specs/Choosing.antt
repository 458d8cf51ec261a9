-- What a policy chooses for the sites of the program that words name, and what it was asked for them (docs/FORMATS.md, Choices).
use Rattle.std.specs.Prelude.{◌≡◌, ◌⊎◌, ◌==◌, ◌++◌, ℕ, List, Option, Some, None, if◌then◌else◌, option_and_then}
use Rattle.orca_io.specs.Files.{File}
use Rattle.orca_io.specs.Reading.{FileRead}
use Rattle.link_rules.specs.Units.{Source}
use Rattle.accepted_law.specs.Limits.{IsWithinLimits}
use Rattle.estimate_rules.specs.Estimates.{estimates}
use Rattle.replica_choice.specs.declared.policy.Asked.{Asked}
use Rattle.replica_choice.specs.Asking.{AsksFirst, Rule, questions}
use Rattle.choice_command.specs.Lines.{choice_lines, program_choices}
use Rattle.command_files.specs.Sources.{Word}
use Rattle.net_rules.specs.declared.line.ScriptLine.{ScriptLine}
use Rattle.orca_answers.specs.Job.{Deed, checks, chooses, deed_in, lists, makes, replays, runs, says}
use Rattle.orca_answers.specs.Made.{IsMade}
use Rattle.orca_answers.specs.Programs.{IsProgram}
use Rattle.orca_answers.specs.Scripts.{HasScriptSince}

-- a policy: how it chooses, and what it was asked so far, with its answers
pub record Chooser : Type 0 where
  pub rule : Rule
  pub told : List Asked

abbrev pub chooser_of : {P : Type 0} → (P → Rule) → (P → List Asked) → P → Chooser
chooser_of rule told policy = record { rule = rule policy; told = told policy }

-- what it tells when it was asked about each site of the program with these units, in their order, among so many members
abbrev pub told_all : Chooser → ℕ → List Source → List Asked
told_all policy nodes units = policy.told ++ questions nodes (estimates units) (program_choices policy.rule nodes policy.told units)

-- it tells `new` now: it was asked about so many of them from the front, maybe all, and no more
abbrev pub WasAskedFirst : Chooser → ℕ → List Source → List Asked → Type 0
WasAskedFirst policy nodes units new = AsksFirst policy.rule nodes (estimates units) policy.told new

-- the program keeps within the limits, and the text says for each of its sites what the policy chose, which was asked about it
pub record AreChosen (policy : Chooser) (nodes : ℕ) (units : List Source) (text : List ℕ) (new : List Asked) : Type 0 where
  pub within : IsWithinLimits units
  pub lines : text ≡ choice_lines policy.rule nodes policy.told units
  pub asked : new ≡ told_all policy nodes units

-- ---- for which words it is asked

-- among how many members it is asked about the program in which files: for `choice`, and for a run of it in which no member may be lost
abbrev pub asking : Deed → Option (ℕ × List Word)
asking (says text) = None
asking (checks files) = None
asking (lists what files) = None
asking (chooses nodes files) = Some (nodes, files)
asking (runs options script files) = if options.group.resilience == 0 then Some (options.group.nodes, files) else None
asking (replays history files) = None
asking (makes options number) = None

abbrev pub asking_in : List Word → Option (ℕ × List Word)
asking_in words = option_and_then asking (deed_in words)

-- ---- where memory lacked

-- it was asked about so many sites from the front, maybe all, of the program for whose choices or whose run the words ask, and whose texts
-- were read, and behind them that of the run's script
pub record WasAskedFront (policy : Chooser) (words : List Word) (told : Option (List File)) (earlier later : List FileRead)
    (new : List Asked) : Type 0 where
  pub nodes : ℕ
  pub files : List Word
  pub units : List Source
  pub asked : asking_in words ≡ Some (nodes, files)
  pub program : IsProgram told files units
  pub read : HasScriptSince told words earlier later program.loaded.0
  pub first : WasAskedFirst policy nodes units new

-- or of the program that is made of the number in the words, for the run of which they ask, in which no member may be lost
pub record WasAskedMade (policy : Chooser) (words : List Word) (earlier later : List FileRead) (new : List Asked) : Type 0 where
  pub units : List Source
  pub lines : List ScriptLine
  pub made : IsMade words earlier later units lines
  pub none : made.options.group.resilience ≡ 0
  pub first : WasAskedFirst policy made.options.group.nodes units new

-- or nothing
abbrev pub WasAskedSome : Chooser → List Word → Option (List File) → List FileRead → List FileRead → List Asked → Type 0
WasAskedSome policy words told earlier later new =
    (new ≡ policy.told) ⊎ WasAskedFront policy words told earlier later new ⊎ WasAskedMade policy words earlier later new
