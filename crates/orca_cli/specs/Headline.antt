-- The headline: what a run keeps and prints, and that its network was really used, in time; and what is so of the wires where nothing is
-- kept.
use Rattle.std.specs.Prelude.{◌≡◌, ◌≤◌, ◌⊎◌, ◌+◌, ℕ, suc, List, length, map, Option, Some, option_map, slice_get}
use Rattle.command_line.specs.declared.request.RunOptions.{RunOptions}
use Rattle.net_rules.specs.declared.asked.Asked.{Asked}
use Rattle.net_rules.specs.declared.line.ScriptLine.{ScriptLine}
use Rattle.orca_io.specs.Files.{File}
use Rattle.orca_io.specs.Reading.{FileRead}
use Rattle.link_rules.specs.Units.{Source}
use Rattle.meaning_rules.specs.Meanings.{computes_of, performs_of}
use Rattle.program_names.specs.Naming.{AreNamesOf, CallsNamed}
use Rattle.value_core.specs.declared.action.Action.{Action}
use Rattle.history_commands.specs.ReadBack.{ReadsBack}
use Rattle.history_text.specs.declared.names.Names.{Names}
use Rattle.wires.specs.Wired.{HasObeyed, Rule, with_script}
use Rattle.world_rules.specs.declared.settings.Settings.{Settings}
use Rattle.orca_base.specs.declared.what.What.{What}
use Rattle.world_rules.specs.declared.standing.Standing.{Standing}
use Rattle.world_rules.specs.declared.standing.Standing.TheVariants.{Going, Limit}
use Rattle.world_rules.specs.declared.event.Step.{Step}
use Rattle.world_rules.specs.Frame.{Frame}
use Rattle.world_rules.specs.Standings.{limit, standing}
use Rattle.world_rules.specs.Worlds.{World}
use Rattle.world_enough.specs.Faultless.{IsFaulty}
use Rattle.world_idle.specs.Counting.{HaveCounted}
use Rattle.world_idle.specs.Faults.{crashes_in, ticks_in}
use Rattle.world_idle.specs.Stretches.{AllInside, IsIdleStretch}
use Rattle.world_facts.specs.Logs.{longest_log}
use Rattle.world_facts.specs.Rows.{ReadsStanding}
use Rattle.run_loop.specs.Asked.{AreInTime, HaveToldOn, NoneAskedBehind, WereAskedIn, WereUsedSo, asked_since}
use Rattle.run_loop.specs.Left.{run_of}
use Rattle.orca_cli.specs.declared.kept.Kept.{Kept}
use Rattle.orca_cli.specs.declared.printing.Printing.{Printing}
use Rattle.command_output.specs.declared.statuses.TheConstants.{NO_MEMORY}
use Rattle.command_files.specs.Sources.{Word}
use Rattle.replica_choice.specs.declared.policy.Asked as replica
use Rattle.run_choices.specs.Chosen.{run_settings, told_by_run}
use Rattle.orca_answers.specs.Choosing.{Chooser}
use Rattle.orca_cli.specs.Kept.{IsEndOf, IsHistory}
use Rattle.orca_cli.specs.Made.{IsRunNamed, said}
use Rattle.command_output.specs.Printed.{Ends, EndsAs, Grew}
use Rattle.orca_cli.specs.Rows.{HasGoneWell, KeptRow, ShownRows}
use Rattle.orca_cli.specs.Standings.{IsEndingLine, awaited_name, standing_status}

-- ---- which run it is

-- its settings, over so many wires: the numbers of the words, with each object where the policy keeps it
abbrev pub settings_for : Chooser → List Source → RunOptions → ℕ → Settings
settings_for policy units options wires = run_settings policy.rule policy.told options units wires

-- what the policy tells when it has begun
abbrev pub told_for : Chooser → List Source → RunOptions → List replica.Asked
told_for policy units options = told_by_run policy.rule policy.told options units

-- ---- its wires

-- what wires tell: what each was asked, with the answers; its script, and how it answers by one; and how much it was asked before that was
-- loaded
pub record Wires : Type 0 where
  pub told : List (List Asked)
  pub rules : List Rule
  pub loaded : List ℕ

abbrev pub wires_of : {W : Type 0} → (W → List Asked) → (W → Rule) → (W → ℕ) → List W → Wires
wires_of told rule loaded wires = record { told = map told wires; rules = map rule wires; loaded = map loaded wires }

-- the wires behind the first answer as before, and kept their scripts, each loaded when it was
pub record KeepRules (old new : Wires) : Type 0 where
  pub rules : (wire : ℕ) → slice_get new.rules (suc wire) ≡ slice_get old.rules (suc wire)
  pub loaded : (wire : ℕ) → slice_get new.loaded (suc wire) ≡ slice_get old.loaded (suc wire)

-- the first wire was loaded with these lines, before the run asked it anything, and answers by scripts as before; the others kept theirs
pub record AreLoaded (lines : List ScriptLine) (old new : Wires) : Type 0 where
  pub rule : slice_get new.rules 0 ≡ option_map (with_script lines) (slice_get old.rules 0)
  pub since : slice_get new.loaded 0 ≡ option_map length (slice_get old.told 0)
  pub others : KeepRules old new

-- each wire answered what it was asked since its script was loaded as its rule says
pub record HaveObeyed (wires : Wires) : Type 0 where
  pub each :
      (wire since : ℕ) (rule : Rule) (told : List Asked) → slice_get wires.rules wire ≡ Some rule →
      slice_get wires.loaded wire ≡ Some since → slice_get wires.told wire ≡ Some told → HasObeyed rule since told

-- a run of the program with these units was begun, by these settings: the first wire was loaded with these lines, and the wires were asked
-- what some steps of that run ask, and maybe once more about an act
pub record WasBegun (units : List Source) (settings : Settings) (lines : List ScriptLine) (old new : Wires) : Type 0 where
  pub loaded : AreLoaded lines old new
  pub told : HaveToldOn old.told new.told
  pub asked : WereAskedIn (run_of (performs_of units) (computes_of units) settings) old.told new.told

-- memory lacked, and the run that the words name was begun, for which the policy had been asked all that it is asked: it tells `asked` now
pub record HasLacked (policy : Chooser) (words : List Word) (files : Option (List File)) (earlier later : List FileRead) (code : ℕ)
    (old new : Wires) (asked : List replica.Asked) : Type 0 where
  pub status : code ≡ NO_MEMORY
  pub units : List Source
  pub lines : List ScriptLine
  pub options : RunOptions
  pub printing : Printing
  pub named : IsRunNamed words files earlier later units lines options printing
  pub begun : WasBegun units (settings_for policy units options (length old.told)) lines old new
  pub told : asked ≡ told_for policy units options

-- nothing is kept: what the wires tell, how they answer, their scripts, and when these were loaded, are as before; or memory lacked
abbrev pub AreUntouched :
    Chooser → List Word → Option (List File) → List FileRead → List FileRead → ℕ → Wires → Wires → List replica.Asked → Type 0
AreUntouched policy words files earlier later status old new asked =
    (new ≡ old) ⊎ HasLacked policy words files earlier later status old new asked

-- ---- the run

-- What is kept is the end of the run to which its events lead, and a history with its processes and copies. How that run stands is read off
-- what is kept (`row`, `only`), in both directions off its world (`reads`), and gives the status. What is said of how it stands, of how
-- many entries the longest log has and of what is kept, with the line of the standing, was printed; where a write failed or memory lacked,
-- a front of it was. And the wires, which told `before` and tell `after`, were used in the run; one that was never in use was asked
-- nothing; and each question about an act was put to the wire in use, in the world before the event of its number, or before the one that
-- would come next
pub record IsRun (f : Frame) (name : Action → List ℕ) (says : Standing → ℕ → Kept → List ℕ → List ℕ) (k : Kept) (status : ℕ)
    (old new : Option (List ℕ)) (before after : List (List Asked)) : Type 0 where
  pub world : World
  pub end : IsEndOf f world k
  pub history : IsHistory f world k
  pub reads : ReadsStanding f world
  pub row : KeptRow f world k (standing f world)
  pub only : ShownRows f world k
  -- of several limits that are passed it is the first: that before which the lowest member stops, and that of lines behind it
  pub limited : (what : What) (number : ℕ) → limit f world ≡ Some (what, number) → standing f world ≡ Limit what number
  -- where each fate is Pass, or a Hold for no ticks, and no crash, suspicion or exchange came, a number of events is enough, in which an
  -- Ask and an Answer are reckoned for each call
  pub bounded : (IsFaulty k.events.items → ⊥) → HasGoneWell f world k
  -- once faults have ended, ticks don't pass for long without progress: where no member is outside and at most r crashed, each idle stretch
  -- has at most N + 8 of them
  pub idle :
      (stretch : List Step) → IsIdleStretch f k.events.items stretch world → crashes_in k.events.items ≤ f.settings.resilience →
      AllInside f world → ticks_in stretch ≤ f.settings.nodes + 8
  -- the ticks that count for a run without a group are those at the end of the kept events, since a step in which something was done
  pub counted : HaveCounted f k.events.items world
  pub ends : EndsAs (standing_status (standing f world)) status
  pub lacked : standing f world ≡ Going → status ≡ NO_MEMORY
  pub line : List ℕ
  pub line_is : IsEndingLine name f.settings.turns (standing f world) k.processes.items line
  pub printed :
      Grew old new (Ends (standing_status (standing f world)) status (says (standing f world) (longest_log f world) k line))
  pub told : HaveToldOn before after
  pub used : WereUsedSo (standing f world) f k.events.items world (asked_since before after)
  pub unused : NoneAskedBehind world.swaps (asked_since before after)
  pub in_time : AreInTime f k.events.items (asked_since before after)

-- It is a run of the program with these units, in the source's meaning, by these settings. By the program's names its line of a process
-- that is blocked names the operation, and what is said of it was printed: each call that a process comes to next behind a history has its
-- names there. And the text of its history, printed or not, is read back as the history, and is legal
pub record IsProgramRun (units : List Source) (says : Names → Standing → ℕ → Kept → List ℕ → List ℕ) (settings : Settings) (k : Kept)
    (status : ℕ) (old new : Option (List ℕ)) (before after : List (List Asked)) : Type 0 where
  pub names : Names
  pub are : AreNamesOf units names
  pub calls : CallsNamed units names
  pub run : IsRun (run_of (performs_of units) (computes_of units) settings) (awaited_name names) (says names) k status old new before after
  pub back : ReadsBack (performs_of units) (computes_of units) names k.book.items

-- It is the run that the words ask for, of the accepted program whose texts were read, or by `make` of the one that is made of a number,
-- and what such a run prints was printed; with each object where the policy keeps it, which tells `asked` now: where no member may be lost
-- it was asked about each site of the program, in order, and else about none
pub record IsRunOf (policy : Chooser) (words : List Word) (files : Option (List File)) (earlier later : List FileRead) (k : Kept)
    (status : ℕ) (old new : Option (List ℕ)) (before after : Wires) (asked : List replica.Asked) : Type 0 where
  pub units : List Source
  pub lines : List ScriptLine
  pub options : RunOptions
  pub printing : Printing
  pub named : IsRunNamed words files earlier later units lines options printing
  pub run : IsProgramRun units (said printing options) (settings_for policy units options (length before.told)) k status old new before.told
      after.told
  pub loaded : AreLoaded lines before after
  pub told : asked ≡ told_for policy units options
