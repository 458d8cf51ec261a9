-- How the program ends where it runs nothing.
use Rattle.std.proofs.Common.{◌⊎◌, ◌≡◌, ◌≢◌, ℕ, ◌+◌, List, [], ◌∷◌, ◌++◌, map, Option, Some, None, refl, sym, ap, ◌∙◌, subst, inl, inr}
use Rattle.std.specs.Prelude.{Bool, Result, Ok, Err, IfNone, IfOk, IfSome, MatchOption, OnErr, OnOk, option_and_then, option_map}
use Rattle.command_line.specs.declared.request.RunOptions.{RunOptions}
use Rattle.net_rules.specs.declared.line.ScriptLine.{ScriptLine}
use Rattle.link_rules.specs.Units.{Source}
use Rattle.choice_command.specs.Lines.{choice_lines}
use Rattle.replica_choice.specs.declared.policy.Asked.{Asked}
use Rattle.accepted_law.specs.Limits.{IsWithinLimits}
use Rattle.program_bodies.specs.Codes.{sources as sources_of}
use Rattle.code_machine.specs.declared.machine.CodeMachine.{CodeMachine}
use Rattle.type_decls.specs.declared.checked.Checked.{Checked}
use Rattle.orca_front.specs.declared.fault.FrontFault.{FrontFault}
use Rattle.orca_front.specs.declared.fault.FrontFault.TheVariants as fronts
use Rattle.orca_front.specs.Sources.{IsAccepted, IsFault, IsLinkFault}
use Rattle.orca_base.specs.declared.refusal.Refusal.{Refusal}
use Rattle.orca_base.specs.declared.refusal.Refusal.TheVariants as refusals
use Rattle.orca_base.specs.Refusal.{IfBecause}
use Rattle.orca_io.specs.Files.{File}
use Rattle.orca_io.specs.declared.shelf.ShelfFault.{ShelfFault}
use Rattle.orca_io.specs.declared.shelf.ShelfFault.TheVariants as causes
use Rattle.orca_io.specs.Reading.{FileRead, HasAsked, ReadSince, had}
use Rattle.orca_answers.specs.declared.job.Job.{Job}
use Rattle.orca_answers.specs.declared.listing.Listed.{Listed}
use Rattle.orca_answers.specs.declared.program.ProgramFault.{ProgramFault}
use Rattle.orca_answers.specs.declared.program.ProgramFault.TheVariants.{Limited, Refused}
use Rattle.orca_answers.specs.declared.script.ScriptFault.{ScriptFault}
use Rattle.orca_answers.specs.declared.script.ScriptFault.TheVariants as scripts
use Rattle.command_output.specs.declared.statuses.TheConstants.{FINISHED, NO_MEMORY, READ_FAULT, WRITE_FAULT}
use Rattle.orca_answers.specs.Endings as because
use Rattle.orca_answers.specs.Choosing.{AreChosen, Chooser, WasAskedFirst, WasAskedSome, asking}
use Rattle.orca_answers.specs.Endings.{IsAnswer, IsEnding}
use Rattle.command_files.specs.declared.load_fault.LoadFault.{LoadFault}
use Rattle.command_files.specs.declared.load_fault.LoadFault.TheVariants as loads
use Rattle.command_files.specs.Loaded.{front_status, load_status}
use Rattle.command_files.specs.Sources.{Word}
use Rattle.orca_answers.specs.Job.{Deed, IsDeedWithin, checks, chooses, deed_in, deed_of, files_in, files_of, lists, named_in, names_by, names_of, replays, runs, script_in, script_of}
use Rattle.command_output.specs.Printed.{Grew, Ends, EndsAs}
use Rattle.orca_answers.specs.Scripts.{HasScriptSince, IsScriptFault, IsScriptOf, IsScriptSince, IsUnreadable, IsWrong, script_read, script_status}
use Rattle.command_files.specs.Sources.{AreRead, IsRead}
use Rattle.orca_answers.specs.Programs.{IsProgramSince, program_status, units_of}
use Rattle.command_files.proofs.ReadFiles.{refused_status, since_none, since_then}
use Rattle.fault_scripts.specs.Says.{IsScript}
use Rattle.orca_base.specs.declared.limits.TheConstants.{SCRIPT_BYTES}
use Rattle.replay_command.specs.Endings.{IsReplayAnswer}

-- a line was printed of an ending for which no policy is asked, or there was no memory for it
pub answer_of : {L E : Type 0} (bytes : L → List ℕ) (line : Result L E) (policy : Chooser) (words : List Word) (told : Option (List File)) (earlier later : List FileRead) (stopped : ShelfFault → Word → Type 0) (old new : Option (List ℕ)) (wanted status : ℕ) (text : List ℕ) →
    IfOk line (λ l. bytes l ≡ text) → IfOk line (λ l. Grew old new (Ends wanted status (bytes l))) → OnErr line ((status ≡ NO_MEMORY) × (new ≡ old)) → EndsAs wanted status → IsEnding policy words told earlier later stopped wanted text policy.told → IsAnswer policy words told earlier later stopped old new status policy.told
answer_of bytes (Ok l) policy words told earlier later stopped old new wanted status text is grew silent ends ending = inl (wanted, text, ending, ends, subst (λ (t : List ℕ). Grew old new (Ends wanted status t)) is grew)
answer_of bytes (Err e) policy words told earlier later stopped old new wanted status text is grew silent ends ending = inr (silent.0, silent.1, inl refl)

-- nothing was printed, for want of memory
pub lacked : (policy : Chooser) (words : List Word) (told : Option (List File)) (earlier later : List FileRead) (stopped : ShelfFault → Word → Type 0) (old : Option (List ℕ)) (status : ℕ) → status ≡ NO_MEMORY → IsAnswer policy words told earlier later stopped old old status policy.told
lacked policy words told earlier later stopped old status is = inr (is, refl, inl refl)

-- a policy that tells the same
pub told_same : (policy : Chooser) (words : List Word) (told : Option (List File)) (earlier later : List FileRead) (stopped : ShelfFault → Word → Type 0) (old new : Option (List ℕ)) (status : ℕ) (asked : List Asked) → asked ≡ policy.told →
    IsAnswer policy words told earlier later stopped old new status policy.told → IsAnswer policy words told earlier later stopped old new status asked
told_same policy words told earlier later stopped old new status asked same answer = subst (IsAnswer policy words told earlier later stopped old new status) (sym same) answer

-- choices were printed
pub chosen_answer : (policy : Chooser) (words : List Word) (told : Option (List File)) (earlier later : List FileRead) (stopped : ShelfFault → Word → Type 0) (old new : Option (List ℕ)) (status nodes : ℕ) (files : List Word) (units : List Source) (text : List ℕ) (asked : List Asked) →
    deed_in words ≡ Some (chooses nodes files) → IsProgramSince told earlier later files units → AreChosen policy nodes units text asked → EndsAs FINISHED status → Grew old new (Ends FINISHED status text) → IsAnswer policy words told earlier later stopped old new status asked
chosen_answer policy words told earlier later stopped old new status nodes files units text asked is program chosen ends grew =
    subst (IsAnswer policy words told earlier later stopped old new status) (sym chosen.asked)
    (inl (FINISHED, choice_lines policy.rule nodes policy.told units, because.chosen nodes files units is program, ends, subst (λ (t : List ℕ). Grew old new (Ends FINISHED status t)) chosen.lines grew))

-- a refusal isn't the end of what is wanted
pub ends_unfinished : (wanted status : ℕ) → wanted ≢ FINISHED → EndsAs wanted status → status ≢ FINISHED
ends_unfinished wanted status apart (inl is) h = apart (sym is ∙ h)
ends_unfinished wanted status apart (inr (inl stopped)) h = absurd (cc (stopped, h))
ends_unfinished wanted status apart (inr (inr lacked)) h = absurd (cc (lacked, h))

pub unread_unfinished : (fault : LoadFault) → load_status fault ≢ FINISHED
unread_unfinished loads.TooMany h = absurd cc
unread_unfinished (loads.Absent file) h = absurd cc
unread_unfinished (loads.TooLong file) h = absurd cc
unread_unfinished (loads.Failed file) h = absurd cc

front_unfinished : (fault : FrontFault) → front_status fault ≢ FINISHED
front_unfinished (fronts.Faulty file at said) h = absurd cc
front_unfinished fronts.TooNested h = absurd cc
front_unfinished (fronts.Unlinked error) h = absurd cc
front_unfinished (fronts.Mistyped error) h = absurd cc

pub program_unfinished : (fault : ProgramFault) → program_status fault ≢ FINISHED
program_unfinished (Refused fault) h = front_unfinished fault h
program_unfinished (Limited passed) h = absurd cc

pub if_none : {T : Type 0} (o : Option T) (P : Type 0) → P → IfNone o P
if_none None P p = p
if_none (Some x) P p = tt

pub on_any : {T E : Type 0} (r : Result T E) (P : Type 0) → P → OnOk r P
on_any (Ok x) P p = p
on_any (Err e) P p = tt

pub if_any : {T E : Type 0} (r : Result T E) (P : Type 0) → P → IfOk r (λ _. P)
if_any (Ok x) P p = p
if_any (Err e) P p = tt

pub ok_both : {T E A B C : Type 0} (r : Result T E) → (A → B → C) → OnOk r A → OnOk r B → OnOk r C
ok_both (Ok x) so a b = so a b
ok_both (Err e) so a b = tt

pub if_two : {T E A : Type 0} {C D : T → Type 0} (r : Result T E) → ((x : T) → A → C x → D x) → IfOk r (λ _. A) → IfOk r C → IfOk r D
if_two (Ok x) so a c = so x a c
if_two (Err e) so a c = tt

pub if_three : {T E A B : Type 0} {C D : T → Type 0} (r : Result T E) → ((x : T) → A → B → C x → D x) → IfOk r (λ _. A) → IfOk r (λ _. B) → IfOk r C → IfOk r D
if_three (Ok x) so a b c = so x a b c
if_three (Err e) so a b c = tt

-- ---- the words

pub deed_is : (words : List Word) (found : Option Job) (job is : Job) → option_map deed_of found ≡ deed_in words → found ≡ Some job → job ≡ is → deed_in words ≡ Some (deed_of is)
deed_is words found job is says some same = sym says ∙ ap (option_map deed_of) some ∙ ap (λ j. Some (deed_of j)) same

pub deed_none : (words : List Word) (found : Option Job) → option_map deed_of found ≡ deed_in words → found ≡ None → deed_in words ≡ None
deed_none words found says none = sym says ∙ ap (option_map deed_of) none

-- the options of a run are in their ranges
pub within_is : (found : Option Job) (job is : Job) → IfSome found (λ j. IsDeedWithin (deed_of j)) → found ≡ Some job → job ≡ is → IsDeedWithin (deed_of is)
within_is found job is within some same = subst (λ (j : Job). IsDeedWithin (deed_of j)) same (subst (λ (o : Option Job). IfSome o (λ j. IsDeedWithin (deed_of j))) some within)

-- ---- what the words ask for

pub files_checked : (words files : List Word) → deed_in words ≡ Some (checks files) → files_in words ≡ Some files
files_checked words files asked = ap (option_and_then files_of) asked

pub files_listed : (words files : List Word) (what : Listed) → deed_in words ≡ Some (lists what files) → files_in words ≡ Some files
files_listed words files what asked = ap (option_and_then files_of) asked

pub files_run : (words files : List Word) (options : RunOptions) (script : Option Word) → deed_in words ≡ Some (runs options script files) → files_in words ≡ Some files
files_run words files options script asked = ap (option_and_then files_of) asked

pub script_run : (words files : List Word) (options : RunOptions) (script : Option Word) → deed_in words ≡ Some (runs options script files) → script_in words ≡ script
script_run words files options script asked = ap (option_and_then script_of) asked

pub script_checked : (words files : List Word) → deed_in words ≡ Some (checks files) → script_in words ≡ None
script_checked words files asked = ap (option_and_then script_of) asked

pub files_chosen : (words files : List Word) (nodes : ℕ) → deed_in words ≡ Some (chooses nodes files) → files_in words ≡ Some files
files_chosen words files nodes asked = ap (option_and_then files_of) asked

-- the files that are read are those of what is done
pub asked_words : (may_fail : Bool) (words : List Word) (deed : Deed) (old new : List FileRead) → deed_in words ≡ Some deed → HasAsked may_fail (names_of deed) old new → HasAsked may_fail (named_in words) old new
asked_words may_fail words deed old new is asked = subst (λ (l : List Word). HasAsked may_fail l old new) (sym (ap names_by is)) asked

pub script_listed : (words files : List Word) (what : Listed) → deed_in words ≡ Some (lists what files) → script_in words ≡ None
script_listed words files what asked = ap (option_and_then script_of) asked

-- behind the sources nothing was read where the words name no script, as those of a check, a listing or of choices; else the script that was had
has_since : (told : Option (List File)) (named script : Option Word) (lines : List ScriptLine) (sources : List File) (old mid new : List FileRead) → named ≡ script → ReadSince old mid (map had sources) → (is : IsScriptOf told script lines) → ReadSince mid new (script_read told script lines is)
    → (is : IsScriptOf told named lines) × ReadSince old new (map had sources ++ script_read told named lines is)
has_since told named script lines sources old mid new same first is second =
    subst (λ (o : Option Word). (k : IsScriptOf told o lines) × ReadSince old new (map had sources ++ script_read told o lines k)) (sym same)
    (is, since_then old mid new (map had sources) (script_read told script lines is) first second)

none_since : (words : List Word) (told : Option (List File)) (sources : List File) (old new : List FileRead) → script_in words ≡ None → ReadSince old new (map had sources) → HasScriptSince told words old new sources
none_since words told sources old new none read =
    let has = has_since told (script_in words) None [] sources old new new none read refl (since_none new) in
    (([], has.0), has.1)

pub has_none : (words : List Word) (told : Option (List File)) (files : List Word) (sources : List File) (old new : List FileRead) → deed_in words ≡ Some (checks files) → ReadSince old new (map had sources) → HasScriptSince told words old new sources
has_none words told files sources old new asked read = none_since words told sources old new (script_checked words files asked) read

pub lists_none : (words : List Word) (told : Option (List File)) (files : List Word) (what : Listed) (sources : List File) (old new : List FileRead) → deed_in words ≡ Some (lists what files) → ReadSince old new (map had sources) → HasScriptSince told words old new sources
lists_none words told files what sources old new asked read = none_since words told sources old new (script_listed words files what asked) read

pub chooses_none : (words : List Word) (told : Option (List File)) (files : List Word) (nodes : ℕ) (sources : List File) (old new : List FileRead) → deed_in words ≡ Some (chooses nodes files) → ReadSince old new (map had sources) → HasScriptSince told words old new sources
chooses_none words told files nodes sources old new asked read = none_since words told sources old new (ap (option_and_then script_of) asked) read

pub has_script : (words : List Word) (told : Option (List File)) (files : List Word) (options : RunOptions) (script : Option Word) (lines : List ScriptLine) (sources : List File) (old mid new : List FileRead) → deed_in words ≡ Some (runs options script files)
    → ReadSince old mid (map had sources) → IsScriptSince told script mid new lines → HasScriptSince told words old new sources
has_script words told files options script lines sources old mid new asked read is =
    let has = has_since told (script_in words) script lines sources old mid new (script_run words files options script asked) read is.0 is.1 in
    ((lines, has.0), has.1)

-- where a run has no script though its files were read, it is that of the file that the words name
pub unscripted_run : (words files : List Word) (options : RunOptions) (script : Option Word) (told : Option (List File)) (earlier later : List FileRead) (stopped : ShelfFault → Word → Type 0) (fault : ScriptFault) (A : Type 0) → deed_in words ≡ Some (runs options script files)
    → MatchOption script ⊥ (λ name. IsScriptFault told earlier later stopped name fault) → ((name : Word) → script_in words ≡ Some name → IsScriptFault told earlier later stopped name fault → A) → A
unscripted_run words files options None told earlier later stopped fault A asked is so = absurd is
unscripted_run words files options (Some name) told earlier later stopped fault A asked is so = so name (script_run words files options (Some name) asked) is

-- the script that was read since: none, or that of a file's text
pub script_none : (told : Option (List File)) (reads : List FileRead) (lines : List ScriptLine) → lines ≡ [] → IsScriptSince told None reads reads lines
script_none told reads lines none = (none, since_none reads)

pub script_since : {E : Type 0} (r : Result (List ScriptLine) E) (told : Option (List File)) (file : Word) (text : List ℕ) (old new : List FileRead) → IsRead told SCRIPT_BYTES (file, text) → ReadSince old new ((file, Ok text) ∷ [])
    → IfOk r (IsScript text) → IfOk r (IsScriptSince told (Some file) old new)
script_since (Ok lines) told file text old new read since is = ((text, read, is), since)
script_since (Err e) told file text old new read since is = tt

-- by another way to say where reading stopped
pub script_map : (told : Option (List File)) (earlier later : List FileRead) (stopped other : ShelfFault → Word → Type 0) (script : Word) (fault : ScriptFault) → ((why : ShelfFault) → stopped why script → other why script) → IsScriptFault told earlier later stopped script fault → IsScriptFault told earlier later other script fault
script_map told earlier later stopped other script (scripts.Absent file) so h = (h.0, h.1, so causes.Absent h.2)
script_map told earlier later stopped other script (scripts.TooLong file) so h = (h.0, h.1, so causes.TooLong h.2)
script_map told earlier later stopped other script (scripts.Failed file) so h = (h.0, h.1, so causes.Failed h.2)
script_map told earlier later stopped other script (scripts.Bad error) so h = h

-- a text that was read and is no script
wrong_is : (told : Option (List File)) (stopped : ShelfFault → Word → Type 0) (file : Word) (text : List ℕ) (old new : List FileRead) (fault : ScriptFault) → IsRead told SCRIPT_BYTES (file, text) → ReadSince old new ((file, Ok text) ∷ []) → IsWrong text fault → IsScriptFault told old new stopped file fault
wrong_is told stopped file text old new (scripts.Absent other) read since is = absurd is
wrong_is told stopped file text old new (scripts.TooLong other) read since is = absurd is
wrong_is told stopped file text old new (scripts.Failed other) read since is = absurd is
wrong_is told stopped file text old new (scripts.Bad error) read since is = (text, read, since, is)

pub wrong_since : (r : Result (List ScriptLine) (Refusal ScriptFault)) (told : Option (List File)) (stopped : ShelfFault → Word → Type 0) (file : Word) (text : List ℕ) (old new : List FileRead) → IsRead told SCRIPT_BYTES (file, text) → ReadSince old new ((file, Ok text) ∷ [])
    → IfBecause r (IsWrong text) → IfBecause r (IsScriptFault told old new stopped file)
wrong_since (Ok lines) told stopped file text old new read since is = tt
wrong_since (Err (refusals.Because fault)) told stopped file text old new read since is = wrong_is told stopped file text old new fault read since is
wrong_since (Err refusals.NoMemory) told stopped file text old new read since is = tt

-- a run whose script wasn't had ends with no status of a write fault, and with that of a read fault where its file can't be read
pub unscripted_status : (fault : ScriptFault) → script_status fault ≢ WRITE_FAULT
unscripted_status (scripts.Absent file) h = absurd cc
unscripted_status (scripts.TooLong file) h = absurd cc
unscripted_status (scripts.Failed file) h = absurd cc
unscripted_status (scripts.Bad error) h = absurd cc

pub unreadable_status : (fault : ScriptFault) → IsUnreadable fault → script_status fault ≡ READ_FAULT
unreadable_status (scripts.Absent file) h = absurd h
unreadable_status (scripts.TooLong file) h = absurd h
unreadable_status (scripts.Failed file) h = refl
unreadable_status (scripts.Bad error) h = absurd h

-- ---- the program

-- texts that don't link are no accepted program
pub link_fault_is : (sources : List File) (fault : FrontFault) → IsLinkFault sources fault → IsFault sources fault
link_fault_is sources (fronts.Faulty file at said) h = h
link_fault_is sources fronts.TooNested h = h
link_fault_is sources (fronts.Unlinked error) h = h
link_fault_is sources (fronts.Mistyped error) h = absurd h

-- why it is none ends with no status of a write fault
pub program_apart : (fault : ProgramFault) → program_status fault ≢ WRITE_FAULT
program_apart (Refused fault) h = refused_status fault h
program_apart (Limited passed) h = absurd cc

pub is_program_since : (told : Option (List File)) (files : List Word) (sources : List File) (units : List Source) (old new : List FileRead) → AreRead told files sources → IsAccepted sources units → IsWithinLimits units → ReadSince old new (map had sources) → IsProgramSince told old new files units
is_program_since told files sources units old new read accepted within since = (record { loaded = (sources, read, accepted); within = within }, since)

-- the machine of a checked program has its units
pub machine_units : {E : Type 0} (r : Result CodeMachine E) (checked : Checked) (units : List Source) → sources_of checked ≡ units → IfOk r (λ m. m.tables.checked ≡ checked) → IfOk r (λ m. units_of m ≡ units)
machine_units (Ok m) checked units are of = ap sources_of of ∙ are
machine_units (Err e) checked units are of = tt

-- ---- what is said of a history

-- an ending of `replay` is one of the program
pub replayed_so : (policy : Chooser) (words : List Word) (told : Option (List File)) (earlier later : List FileRead) (stopped : ShelfFault → Word → Type 0) (old new : Option (List ℕ)) (status : ℕ) (history : Word) (files : List Word) → deed_in words ≡ Some (replays history files)
    → IsReplayAnswer told stopped history files old new status → IsAnswer policy words told earlier later stopped old new status policy.told
replayed_so policy words told earlier later stopped old new status history files asked (inl (wanted, line, ending, ends, grew)) = inl (wanted, line, because.replayed history files wanted line asked ending, ends, grew)
replayed_so policy words told earlier later stopped old new status history files asked (inr silent) = inr (silent.0, silent.1, inl refl)

-- ---- what a policy was asked

-- the first sites, where memory lacked
pub first_asked : (words : List Word) (told : Option (List File)) (policy : Chooser) (nodes : ℕ) (files : List Word) (sources : List File) (old new : List FileRead) (asked : List Asked) → deed_in words ≡ Some (chooses nodes files) → AreRead told files sources → ReadSince old new (map had sources)
    → (asked ≡ policy.told) ⊎ ((units : List Source) × IsAccepted sources units × IsWithinLimits units × WasAskedFirst policy nodes units asked) → WasAskedSome policy words told old new asked
first_asked words told policy nodes files sources old new asked is read since (inl same) = inl same
first_asked words told policy nodes files sources old new asked is read since (inr some) = inr (inl (record {
  nodes = nodes;
  files = files;
  units = some.0;
  asked = ap (option_and_then asking) is;
  program = record { loaded = (sources, read, some.1); within = some.2 };
  read = chooses_none words told files nodes sources old new is since;
  first = some.3;
}))

-- what is so of each refusal is so of its cause
pub begun_none : (T : Type 0) {E : Type 0} (e : Refusal E) (P : Type 0) → P → IfBecause {T = T} (Err e) (λ _. P)
begun_none T (refusals.Because c) P p = p
begun_none T refusals.NoMemory P p = tt

module _ {T E : Type 0} (r : Result T E) (policy : Chooser) (nodes : ℕ) where
  -- of the units that a program has
  pub begun_linked : (one us : List Source) (new : List Asked) (sources : List File) → one ≡ us → IsAccepted sources us
      → OnErr r ((new ≡ policy.told) ⊎ (IsWithinLimits one × WasAskedFirst policy nodes one new)) → OnErr r ((new ≡ policy.told) ⊎ (IsAccepted sources us × IsWithinLimits us × WasAskedFirst policy nodes us new))
  begun_linked one us new sources same accepted = by r
    where
      begun : (new ≡ policy.told) ⊎ (IsWithinLimits one × WasAskedFirst policy nodes one new) → (new ≡ policy.told) ⊎ (IsAccepted sources us × IsWithinLimits us × WasAskedFirst policy nodes us new)
      begun (inl kept) = inl kept
      begun (inr some) = inr (accepted, subst IsWithinLimits same some.0, subst (λ (vs : List Source). WasAskedFirst policy nodes vs new) same some.1)

      by : (r : Result T E) → OnErr r ((new ≡ policy.told) ⊎ (IsWithinLimits one × WasAskedFirst policy nodes one new)) → OnErr r ((new ≡ policy.told) ⊎ (IsAccepted sources us × IsWithinLimits us × WasAskedFirst policy nodes us new))
      by (Ok x) h = tt
      by (Err e) h = begun h

  pub begun_program : (us : List Source) (new : List Asked) (sources : List File) → OnErr r ((new ≡ policy.told) ⊎ (IsAccepted sources us × IsWithinLimits us × WasAskedFirst policy nodes us new))
      → OnErr r ((new ≡ policy.told) ⊎ ((units : List Source) × IsAccepted sources units × IsWithinLimits units × WasAskedFirst policy nodes units new))
  begun_program us new sources = by r
    where
      some : (new ≡ policy.told) ⊎ (IsAccepted sources us × IsWithinLimits us × WasAskedFirst policy nodes us new) → (new ≡ policy.told) ⊎ ((units : List Source) × IsAccepted sources units × IsWithinLimits units × WasAskedFirst policy nodes units new)
      some (inl kept) = inl kept
      some (inr h) = inr (us, h.0, h.1, h.2)

      by : (r : Result T E) → OnErr r ((new ≡ policy.told) ⊎ (IsAccepted sources us × IsWithinLimits us × WasAskedFirst policy nodes us new))
          → OnErr r ((new ≡ policy.told) ⊎ ((units : List Source) × IsAccepted sources units × IsWithinLimits units × WasAskedFirst policy nodes units new))
      by (Ok x) h = tt
      by (Err e) h = some h
