-- Where files are told and no read failed, an ending without a run excludes the others, and a run; and the run that words name is one.
use Rattle.std.proofs.Common.{◌≡◌, ℕ, true, false, List, [], ◌++◌, map, Option, Some, None, ◌⊎◌, inl, inr, option_and_then, refl, sym, ap, ◌∙◌, subst}
use Rattle.std.proofs.lemmas.List.{append_cancel_left}
use Rattle.net_rules.specs.declared.line.ScriptLine.{ScriptLine}
use Rattle.orca_io.specs.Files.{File}
use Rattle.orca_io.specs.declared.shelf.ShelfFault.{ShelfFault}
use Rattle.orca_io.specs.declared.shelf.ShelfFault.TheVariants as causes
use Rattle.orca_io.specs.Reading.{FileRead, had}
use Rattle.link_rules.specs.Units.{Source}
use Rattle.replica_choice.specs.declared.policy.Asked.{Asked}
use Rattle.orca_front.specs.Sources.{IsAccepted}
use Rattle.code_rules.specs.Machine as machine
use Rattle.code_rules.specs.Program.{program_code}
use Rattle.command_files.specs.Loaded.{IsLoadFault, load_line, load_status}
use Rattle.command_files.specs.Stopped.{Never}
use Rattle.command_files.specs.Sources.{AreRead, Word}
use Rattle.command_files.specs.declared.load_fault.LoadFault.{LoadFault}
use Rattle.command_output.specs.declared.statuses.TheConstants.{FINISHED, USAGE}
use Rattle.replay_command.specs.Endings.{IsReplayEnding}
use Rattle.stack_code.specs.Text.{code_text}
use Rattle.code_command.specs.Listings.{IsListing}
use Rattle.choice_command.specs.Lines.{choice_lines}
use Rattle.orca_answers.specs.Choosing.{Chooser, told_all}
use Rattle.orca_answers.specs.Endings as because
use Rattle.orca_answers.specs.Endings.{IsEnding}
use Rattle.orca_answers.specs.Named.{IsNamed}
use Rattle.orca_answers.specs.Job.{Deed, checks, chooses, deed_in, files_of, lists, makes, replays, runs, says, script_of}
use Rattle.orca_answers.specs.Listings.{IsListed, IsSameText}
use Rattle.orca_answers.specs.Lines.{ok_line, usage_line}
use Rattle.orca_answers.specs.Programs.{IsProgram, IsProgramFault, IsProgramSince, program_line, program_status}
use Rattle.orca_answers.specs.Scripts.{IsScriptOf, script_fault_line, script_read, script_status}
use Rattle.orca_answers.specs.declared.listing.Listed.{Listed}
use Rattle.orca_answers.specs.declared.listing.Listed.TheVariants.{Code}
use Rattle.orca_answers.specs.declared.program.ProgramFault.{ProgramFault}
use Rattle.orca_answers.specs.declared.script.ScriptFault.{ScriptFault}
use Rattle.orca_answers.proofs.FilesOnce.{SameEnd, load_apart, load_once, load_quiet, same_sources, some_apart, some_same}
use Rattle.orca_answers.proofs.NamesOnce.{GiveTables}
use Rattle.orca_answers.proofs.ProgramsOnce.{program_apart, program_once, same_program}
use Rattle.orca_answers.proofs.ReplaysOnce.{replay_once, replay_quiet}
use Rattle.orca_answers.proofs.SameReads.{read_same, same_lines}
use Rattle.orca_answers.proofs.ScriptsOnce.{Unscripted, script_had, script_of_once, script_once, script_quiet, unscripted_of}

-- ---- endings, by what is done for the words

-- how a check or a run of the program in files ends without a run; with `ok` where it is a check
data ProgramEnds (shelf : List File) (files : List Word) (script : Option Word) (check : Type 0) : ℕ → List ℕ → Type 0 where
  unread : (fault : LoadFault) → IsLoadFault (Some shelf) Never files fault → ProgramEnds shelf files script check (load_status fault) (load_line fault)
  unscripted : (sources : List File) (name : Word) (fault : ScriptFault) → AreRead (Some shelf) files sources → script ≡ Some name → Unscripted (Some shelf) Never name fault →
      ProgramEnds shelf files script check (script_status fault) (script_fault_line fault)
  refused : (sources : List File) (lines : List ScriptLine) (fault : ProgramFault) → AreRead (Some shelf) files sources → IsScriptOf (Some shelf) script lines → IsProgramFault sources fault →
      ProgramEnds shelf files script check (program_status fault) (program_line fault)
  accepted : (units : List Source) → check → script ≡ None → IsProgram (Some shelf) files units → ProgramEnds shelf files script check FINISHED ok_line

abbrev is_check : Option Deed → Type 0
is_check None = ⊥
is_check (Some (says text)) = ⊥
is_check (Some (checks files)) = Unit {0}
is_check (Some (lists what files)) = ⊥
is_check (Some (chooses nodes files)) = ⊥
is_check (Some (runs options script files)) = ⊥
is_check (Some (replays history files)) = ⊥
is_check (Some (makes options number)) = ⊥

-- two texts that are printed for what is done are the same, but for notes (`IsSameText`)
abbrev IsSameBy : Option Deed → List ℕ → List ℕ → Type 0
IsSameBy deed one other =
    (one ≡ other) ⊎ ((files : List Word) × (code : machine.Code) × (deed ≡ Some (lists (Code true) files)) × IsListing true code one × IsListing true code other)

-- how a program's listing ends
abbrev IsListedAt : List File → Listed → List Word → ℕ → List ℕ → Type 0
IsListedAt shelf what files one a = (units : List Source) × IsProgram (Some shelf) files units × (one ≡ FINISHED) × IsListed what units a

-- how what is chosen for a program's sites ends, and what the policy tells then
abbrev IsChosenAt : Chooser → List File → ℕ → List Word → ℕ → List ℕ → List Asked → Type 0
IsChosenAt policy shelf nodes files one a told =
    (units : List Source) × IsProgram (Some shelf) files units × (one ≡ FINISHED) × (a ≡ choice_lines policy.rule nodes policy.told units) × (told ≡ told_all policy nodes units)

abbrev EndsBy : Chooser → List File → Option Deed → ℕ → List ℕ → List Asked → Type 0
EndsBy policy shelf None one a told = (one ≡ USAGE) × (a ≡ usage_line) × (told ≡ policy.told)
EndsBy policy shelf (Some (says text)) one a told = (one ≡ FINISHED) × (a ≡ text) × (told ≡ policy.told)
EndsBy policy shelf (Some (checks files)) one a told = ProgramEnds shelf files None (Unit {0}) one a × (told ≡ policy.told)
EndsBy policy shelf (Some (lists what files)) one a told = (ProgramEnds shelf files None ⊥ one a ⊎ IsListedAt shelf what files one a) × (told ≡ policy.told)
EndsBy policy shelf (Some (chooses nodes files)) one a told = (ProgramEnds shelf files None ⊥ one a × (told ≡ policy.told)) ⊎ IsChosenAt policy shelf nodes files one a told
EndsBy policy shelf (Some (runs options script files)) one a told = ProgramEnds shelf files script ⊥ one a × (told ≡ policy.told)
EndsBy policy shelf (Some (replays history files)) one a told = IsReplayEnding (Some shelf) Never history files one a × (told ≡ policy.told)
EndsBy policy shelf (Some (makes options number)) one a told = ⊥

abbrev files_by : Option Deed → Option (List Word)
files_by deed = option_and_then files_of deed

abbrev script_by : Option Deed → Option Word
script_by deed = option_and_then script_of deed

by_files : (policy : Chooser) (shelf : List File) (deed : Option Deed) (files : List Word) (one : ℕ) (a : List ℕ) → files_by deed ≡ Some files → ProgramEnds shelf files (script_by deed) (is_check deed) one a → EndsBy policy shelf deed one a policy.told
by_files policy shelf None files one a has ends = absurd (some_apart files (sym has))
by_files policy shelf (Some (says text)) files one a has ends = absurd (some_apart files (sym has))
by_files policy shelf (Some (checks others)) files one a has ends = (subst (λ (fs : List Word). ProgramEnds shelf fs None (Unit {0}) one a) (sym (some_same others files has)) ends, refl)
by_files policy shelf (Some (lists what others)) files one a has ends = (inl (subst (λ (fs : List Word). ProgramEnds shelf fs None ⊥ one a) (sym (some_same others files has)) ends), refl)
by_files policy shelf (Some (chooses nodes others)) files one a has ends = inl (subst (λ (fs : List Word). ProgramEnds shelf fs None ⊥ one a) (sym (some_same others files has)) ends, refl)
by_files policy shelf (Some (runs options script others)) files one a has ends = (subst (λ (fs : List Word). ProgramEnds shelf fs script ⊥ one a) (sym (some_same others files has)) ends, refl)
by_files policy shelf (Some (replays history others)) files one a has ends = absurd (some_apart files (sym has))
by_files policy shelf (Some (makes options number)) files one a has ends = absurd (some_apart files (sym has))

by_deed : (policy : Chooser) (words : List Word) (shelf : List File) (old new : List FileRead) (deed : Option Deed) (one : ℕ) (a : List ℕ) (told : List Asked) → deed_in words ≡ deed → IsEnding policy words (Some shelf) old new Never one a told → EndsBy policy shelf deed one a told
by_deed policy words shelf old new deed one a told is (because.said text asked) = subst (λ (d : Option Deed). EndsBy policy shelf d FINISHED text policy.told) (sym asked ∙ is) (refl, refl, refl)
by_deed policy words shelf old new deed one a told is (because.usage asked) = subst (λ (d : Option Deed). EndsBy policy shelf d USAGE usage_line policy.told) (sym asked ∙ is) (refl, refl, refl)
by_deed policy words shelf old new deed one a told is (because.unread files fault has h) =
    by_files policy shelf deed files (load_status fault) (load_line fault) (ap files_by (sym is) ∙ has) (unread fault h)
by_deed policy words shelf old new deed one a told is (because.unscripted files sources script fault between has read since named h) =
    by_files policy shelf deed files (script_status fault) (script_fault_line fault) (ap files_by (sym is) ∙ has) (unscripted sources script fault read (ap script_by (sym is) ∙ named) (unscripted_of (Some shelf) between new Never script fault h))
by_deed policy words shelf old new deed one a told is (because.refused files sources fault has read script h) =
    by_files policy shelf deed files (program_status fault) (program_line fault) (ap files_by (sym is) ∙ has)
    (refused sources script.0.0 fault read (subst (λ (o : Option Word). IsScriptOf (Some shelf) o script.0.0) (ap script_by is) script.0.1) h)
by_deed policy words shelf old new deed one a told is (because.accepted files units asked h) =
    subst (λ (d : Option Deed). EndsBy policy shelf d FINISHED ok_line policy.told) (sym asked ∙ is) (accepted units tt refl h.0, refl)
by_deed policy words shelf old new deed one a told is (because.listed what files units text asked h listing) =
    subst (λ (d : Option Deed). EndsBy policy shelf d FINISHED text policy.told) (sym asked ∙ is) (inr (units, h.0, refl, listing), refl)
by_deed policy words shelf old new deed one a told is (because.chosen nodes files units asked h) =
    subst (λ (d : Option Deed). EndsBy policy shelf d FINISHED (choice_lines policy.rule nodes policy.told units) (told_all policy nodes units)) (sym asked ∙ is) (inr (units, h.0, refl, refl, refl))
by_deed policy words shelf old new deed one a told is (because.replayed history files wanted line asked h) =
    subst (λ (d : Option Deed). EndsBy policy shelf d wanted line policy.told) (sym asked ∙ is) (h, refl)

-- ---- one ending of a check, or of a run that isn't begun

module _ (shelf : List File) (files : List Word) where
  -- a program that is none, and the program
  refused_apart : (s : List File) (f : ProgramFault) (us : List Source) → AreRead (Some shelf) files s → IsProgramFault s f → IsProgram (Some shelf) files us → ⊥
  refused_apart s f us read h program =
      let loaded = program.loaded in
      program_apart s f us h (subst (λ (fs : List File). IsAccepted fs us) (same_sources shelf files loaded.0 s loaded.1 read) loaded.2) program.within

  loaded_once : (us vs : List Source) → IsProgram (Some shelf) files us → IsProgram (Some shelf) files vs → us ≡ vs
  loaded_once us vs is was =
      let one = is.loaded in
      let two = was.loaded in
      same_program one.0 us vs one.2 (subst (λ (fs : List File). IsAccepted fs vs) (same_sources shelf files two.0 one.0 two.1 one.1) two.2)

  -- a file of a program that wasn't read, and the program
  unread_apart : (f : LoadFault) (us : List Source) → IsLoadFault (Some shelf) Never files f → IsProgram (Some shelf) files us → ⊥
  unread_apart f us h program = let loaded = program.loaded in load_apart shelf files f loaded.0 h loaded.1

  -- a script that is none, and the script
  unscripted_apart : (script : Option Word) (name : Word) (f : ScriptFault) (lines : List ScriptLine) → script ≡ Some name → Unscripted (Some shelf) Never name f → IsScriptOf (Some shelf) script lines → ⊥
  unscripted_apart script name f lines is h has = script_had shelf name f lines h (subst (λ (o : Option Word). IsScriptOf (Some shelf) o lines) is has)

  program_ends_once : (script : Option Word) (check : Type 0) (one two : ℕ) (a b : List ℕ) → ProgramEnds shelf files script check one a → ProgramEnds shelf files script check two b → SameEnd one a two b
  program_ends_once script check one two a b (unread f h) (unread g k) = load_once shelf files f g h k
  program_ends_once script check one two a b (unread f h) (unscripted t other g was are k) = absurd (load_apart shelf files f t h was)
  program_ends_once script check one two a b (unread f h) (refused t more g was had k) = absurd (load_apart shelf files f t h was)
  program_ends_once script check one two a b (unread f h) (accepted vs so none k) = absurd (unread_apart f vs h k)
  program_ends_once script check one two a b (unscripted s name f read is h) (unread g k) = absurd (load_apart shelf files g s k read)
  program_ends_once script check one two a b (unscripted s name f read is h) (unscripted t other g was are k) =
      script_once shelf name f g h (subst (λ (n : Word). Unscripted (Some shelf) Never n g) (some_same other name (sym are ∙ is)) k)
  program_ends_once script check one two a b (unscripted s name f read is h) (refused t more g was had k) = absurd (unscripted_apart script name f more is h had)
  program_ends_once script check one two a b (unscripted s name f read is h) (accepted vs so none k) = absurd (some_apart name (sym is ∙ none))
  program_ends_once script check one two a b (refused s lines f read has h) (unread g k) = absurd (load_apart shelf files g s k read)
  program_ends_once script check one two a b (refused s lines f read has h) (unscripted t other g was are k) = absurd (unscripted_apart script other g lines are k has)
  program_ends_once script check one two a b (refused s lines f read has h) (refused t more g was had k) =
      program_once s f g h (subst (λ (fs : List File). IsProgramFault fs g) (same_sources shelf files t s was read) k)
  program_ends_once script check one two a b (refused s lines f read has h) (accepted vs so none k) = absurd (refused_apart s f vs read h k)
  program_ends_once script check one two a b (accepted us so none h) (unread g k) = absurd (unread_apart g us k h)
  program_ends_once script check one two a b (accepted us so none h) (unscripted t other g was are k) = absurd (some_apart other (sym are ∙ none))
  program_ends_once script check one two a b (accepted us so none h) (refused t more g was had k) = absurd (refused_apart t g us was k h)
  program_ends_once script check one two a b (accepted us so none h) (accepted vs as_ never k) = (refl, refl)

  -- and none where the run can be
  run_apart : (script : Option Word) (us : List Source) (lines : List ScriptLine) (one : ℕ) (a : List ℕ) → IsProgram (Some shelf) files us → IsScriptOf (Some shelf) script lines → ProgramEnds shelf files script ⊥ one a → ⊥
  run_apart script us lines one a program has (unread f h) = unread_apart f us h program
  run_apart script us lines one a program has (unscripted s name f read is h) = unscripted_apart script name f lines is h has
  run_apart script us lines one a program has (refused s more f read had h) = refused_apart s f us read h program
  run_apart script us lines one a program has (accepted vs so none h) = so

  -- two listings are of one program
  listing_once : (what : Listed) (us vs : List Source) (a b : List ℕ) → us ≡ vs → IsListed what us a → IsListed what vs b → IsSameBy (Some (lists what files)) a b
  listing_once (Code false) us vs a b same h k = inl (h ∙ ap (λ (ws : List Source). code_text (program_code ws)) same ∙ sym k)
  listing_once (Code true) us vs a b same h k = inr (files, program_code us, refl, h, subst (λ (ws : List Source). IsListing true (program_code ws) b) (sym same) k)

  lists_once : (what : Listed) (one two : ℕ) (a b : List ℕ) → ProgramEnds shelf files None ⊥ one a ⊎ IsListedAt shelf what files one a → ProgramEnds shelf files None ⊥ two b ⊎ IsListedAt shelf what files two b →
      (one ≡ two) × IsSameBy (Some (lists what files)) a b
  lists_once what one two a b (inl h) (inl k) = let same = program_ends_once None ⊥ one two a b h k in (same.0, inl same.1)
  lists_once what one two a b (inl h) (inr k) = absurd (run_apart None k.0 [] one a k.1 refl h)
  lists_once what one two a b (inr h) (inl k) = absurd (run_apart None h.0 [] two b h.1 refl k)
  lists_once what one two a b (inr h) (inr k) = (h.2 ∙ sym k.2, listing_once what h.0 k.0 a b (loaded_once h.0 k.0 h.1 k.1) h.3 k.3)

  -- and so are choices, by one policy
  chooses_once : (policy : Chooser) (nodes one two : ℕ) (a b : List ℕ) (told other : List Asked) → (ProgramEnds shelf files None ⊥ one a × (told ≡ policy.told)) ⊎ IsChosenAt policy shelf nodes files one a told →
      (ProgramEnds shelf files None ⊥ two b × (other ≡ policy.told)) ⊎ IsChosenAt policy shelf nodes files two b other → (one ≡ two) × IsSameBy (Some (chooses nodes files)) a b × (told ≡ other)
  chooses_once policy nodes one two a b told other (inl h) (inl k) = let same = program_ends_once None ⊥ one two a b h.0 k.0 in (same.0, inl same.1, h.1 ∙ sym k.1)
  chooses_once policy nodes one two a b told other (inl h) (inr k) = absurd (run_apart None k.0 [] one a k.1 refl h.0)
  chooses_once policy nodes one two a b told other (inr h) (inl k) = absurd (run_apart None h.0 [] two b h.1 refl k.0)
  chooses_once policy nodes one two a b told other (inr h) (inr k) =
      let same = loaded_once h.0 k.0 h.1 k.1 in
      (h.2 ∙ sym k.2, inl (h.3 ∙ ap (λ (us : List Source). choice_lines policy.rule nodes policy.told us) same ∙ sym k.3), h.4 ∙ ap (λ (us : List Source). told_all policy nodes us) same ∙ sym k.4)

  -- of an accepted program a policy was asked about each site
  chosen_once : (policy : Chooser) (nodes : ℕ) (us : List Source) (one : ℕ) (a : List ℕ) (told : List Asked) → IsProgram (Some shelf) files us →
      (ProgramEnds shelf files None ⊥ one a × (told ≡ policy.told)) ⊎ IsChosenAt policy shelf nodes files one a told → told ≡ told_all policy nodes us
  chosen_once policy nodes us one a told program (inl h) = absurd (run_apart None us [] one a program refl h.0)
  chosen_once policy nodes us one a told program (inr h) = h.4 ∙ ap (λ (vs : List Source). told_all policy nodes vs) (loaded_once h.0 us h.1 program)

-- ---- one ending

-- what is asked by no policy
alike : (deed : Option Deed) (policy : Chooser) (one two : ℕ) (a b : List ℕ) (told other : List Asked) → SameEnd one a two b → told ≡ policy.told → other ≡ policy.told → (one ≡ two) × IsSameBy deed a b × (told ≡ other)
alike deed policy one two a b told other same h k = (same.0, inl same.1, h ∙ sym k)

ends_once : GiveTables → (policy : Chooser) (shelf : List File) (deed : Option Deed) (one two : ℕ) (a b : List ℕ) (told other : List Asked) → EndsBy policy shelf deed one a told → EndsBy policy shelf deed two b other →
    (one ≡ two) × IsSameBy deed a b × (told ≡ other)
ends_once tables policy shelf None one two a b told other h k = (h.0 ∙ sym k.0, inl (h.1 ∙ sym k.1), h.2 ∙ sym k.2)
ends_once tables policy shelf (Some (says text)) one two a b told other h k = (h.0 ∙ sym k.0, inl (h.1 ∙ sym k.1), h.2 ∙ sym k.2)
ends_once tables policy shelf (Some (checks files)) one two a b told other h k =
    alike (Some (checks files)) policy one two a b told other (program_ends_once shelf files None (Unit {0}) one two a b h.0 k.0) h.1 k.1
ends_once tables policy shelf (Some (lists what files)) one two a b told other h k = let same = lists_once shelf files what one two a b h.0 k.0 in (same.0, same.1, h.1 ∙ sym k.1)
ends_once tables policy shelf (Some (chooses nodes files)) one two a b told other h k = chooses_once shelf files policy nodes one two a b told other h k
ends_once tables policy shelf (Some (runs options script files)) one two a b told other h k =
    alike (Some (runs options script files)) policy one two a b told other (program_ends_once shelf files script ⊥ one two a b h.0 k.0) h.1 k.1
ends_once tables policy shelf (Some (replays history files)) one two a b told other h k =
    alike (Some (replays history files)) policy one two a b told other (replay_once tables shelf history files one two a b h.0 k.0) h.1 k.1
ends_once tables policy shelf (Some (makes options number)) one two a b told other h k = absurd h

pub ending_once : GiveTables → (policy : Chooser) (words : List Word) (shelf : List File) (old new was now : List FileRead) (one two : ℕ) (a b : List ℕ) (told other : List Asked) → IsEnding policy words (Some shelf) old new Never one a told →
    IsEnding policy words (Some shelf) was now Never two b other → (one ≡ two) × IsSameText words a b × (told ≡ other)
ending_once tables policy words shelf old new was now one two a b told other h k =
    ends_once tables policy shelf (deed_in words) one two a b told other (by_deed policy words shelf old new (deed_in words) one a told refl h) (by_deed policy words shelf was now (deed_in words) two b other refl k)

pub ending_apart : (policy : Chooser) (words : List Word) (shelf : List File) (was now old new : List FileRead) (us : List Source) (lines : List ScriptLine) (one : ℕ) (a : List ℕ) (told : List Asked) → IsEnding policy words (Some shelf) was now Never one a told →
    IsNamed words (Some shelf) old new us lines → ⊥
ending_apart policy words shelf was now old new us lines one a told h named =
    let by = by_deed policy words shelf was now (Some (runs named.options named.script named.files)) one a told named.asked h in
    run_apart shelf named.files named.script us lines one a named.program named.script_has by.0

pub chosen_told : (policy : Chooser) (words : List Word) (shelf : List File) (old new : List FileRead) (nodes : ℕ) (names : List Word) (us : List Source) → deed_in words ≡ Some (chooses nodes names) → IsProgram (Some shelf) names us → (one : ℕ) (a : List ℕ) (told : List Asked) →
    IsEnding policy words (Some shelf) old new Never one a told → told ≡ told_all policy nodes us
chosen_told policy words shelf old new nodes names us is program one a told h =
    chosen_once shelf names policy nodes us one a told program (by_deed policy words shelf old new (Some (chooses nodes names)) one a told is h)

-- ---- one run

pub named_once : (words : List Word) (shelf : List File) (old new was now : List FileRead) (us vs : List Source) (lines more : List ScriptLine) → IsNamed words (Some shelf) old new us lines → IsNamed words (Some shelf) was now vs more
    → (us ≡ vs) × (lines ≡ more)
named_once words shelf old new was now us vs lines more n m =
    let same : Some (runs n.options n.script n.files) ≡ Some (runs m.options m.script m.files) = sym n.asked ∙ m.asked in
    let files : n.files ≡ m.files = some_same n.files m.files (ap files_by same) in
    let script : n.script ≡ m.script = ap script_by same in
    let one = loaded_once shelf n.files us vs n.program (subst (λ (fs : List Word). IsProgram (Some shelf) fs vs) (sym files) m.program) in
    let two = script_of_once shelf n.script lines more n.script_has (subst (λ (o : Option Word). IsScriptOf (Some shelf) o more) (sym script) m.script_has) in
    (one, two)

-- by what was read it is one, whatever is told
pub read_once : (words : List Word) (told other : Option (List File)) (old new : List FileRead) (us vs : List Source) (lines more : List ScriptLine) → IsNamed words told old new us lines → IsNamed words other old new vs more
    → (us ≡ vs) × (lines ≡ more)
read_once words told other old new us vs lines more n m =
    let same : Some (runs n.options n.script n.files) ≡ Some (runs m.options m.script m.files) = sym n.asked ∙ m.asked in
    let files : n.files ≡ m.files = some_same n.files m.files (ap files_by same) in
    let script : n.script ≡ m.script = ap script_by same in
    let one = n.program.loaded in
    let two = m.program.loaded in
    let first = script_read told n.script lines n.script_has in
    let second = script_read other m.script more m.script_has in
    let reads = read_same one.0 two.0 first second (sym one.1.names ∙ files ∙ two.1.names) (append_cancel_left old (map had one.0 ++ first) (map had two.0 ++ second) (sym n.read ∙ m.read)) in
    (same_program one.0 us vs one.2 (subst (λ (fs : List File). IsAccepted fs vs) (sym reads.0) two.2), same_lines told other n.script m.script lines more n.script_has m.script_has script reads.1)

-- so is a program, by the texts that were read
pub program_read : (told other : Option (List File)) (old new : List FileRead) (files : List Word) (us vs : List Source) → IsProgramSince told old new files us → IsProgramSince other old new files vs → us ≡ vs
program_read told other old new files us vs is was =
    let one = is.0.loaded in
    let two = was.0.loaded in
    let reads = read_same one.0 two.0 [] [] (sym one.1.names ∙ two.1.names) (ap (λ (l : List FileRead). l ++ []) (append_cancel_left old (map had one.0) (map had two.0) (sym is.1 ∙ was.1))) in
    same_program one.0 us vs one.2 (subst (λ (fs : List File). IsAccepted fs vs) (sym reads.0) two.2)

-- ---- where no read failed

pub ending_quiet : (policy : Chooser) (words : List Word) (told : Option (List File)) (old new : List FileRead) (stopped : ShelfFault → Word → Type 0) (never : (file : Word) → stopped causes.Failed file → ⊥) (one : ℕ) (a : List ℕ) (asked : List Asked) → IsEnding policy words told old new stopped one a asked → IsEnding policy words told old new Never one a asked
ending_quiet policy words told old new stopped never one a t (because.said text asked) = because.said text asked
ending_quiet policy words told old new stopped never one a t (because.usage asked) = because.usage asked
ending_quiet policy words told old new stopped never one a t (because.unread files fault has h) = because.unread files fault has (load_quiet told stopped never files fault h)
ending_quiet policy words told old new stopped never one a t (because.unscripted files sources script fault between has read since named h) =
    because.unscripted files sources script fault between has read since named (script_quiet told between new stopped never script fault h)
ending_quiet policy words told old new stopped never one a t (because.refused files sources fault has read script h) = because.refused files sources fault has read script h
ending_quiet policy words told old new stopped never one a t (because.accepted files units asked h) = because.accepted files units asked h
ending_quiet policy words told old new stopped never one a t (because.replayed history files wanted line asked h) =
    because.replayed history files wanted line asked (replay_quiet told stopped never history files wanted line h)
ending_quiet policy words told old new stopped never one a t (because.listed what files units text asked h listing) = because.listed what files units text asked h listing
ending_quiet policy words told old new stopped never one a t (because.chosen nodes files units asked h) = because.chosen nodes files units asked h
