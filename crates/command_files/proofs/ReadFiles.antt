-- Files, one read after another, and why one wasn't.
use Rattle.std.proofs.Common.{◌≡◌, ◌≢◌, ◌⊎◌, ℕ, suc, ◌+◌, ◌<◌, ◌≤◌, List, [], ◌∷◌, ◌++◌, length, get_or, take, drop, drop-cons, append-nil, append_assoc, Option, Some, None, refl, sym, ap, ◌∙◌, subst, inl, inr, arith, take-append-drop}
use Rattle.std.specs.List.{All}
use Rattle.std.proofs.Math.Seq.{take-suc}
use Rattle.std.specs.Borrow.{Bor}
use Rattle.std.specs.Prelude.{Result, Ok, Err, IfSome, map}
use Rattle.std.proofs.lemmas.List.{length-map, map-append, take_all}
use Rattle.std.proofs.lemmas.List.Elements.{All-nil, All-push}
use Rattle.orca_base.specs.declared.limits.TheConstants.{HISTORY_BYTES, MODULES, SOURCE_BYTES}
use Rattle.orca_base.specs.declared.refusal.Refusal.{Refusal}
use Rattle.orca_base.specs.declared.refusal.Refusal.TheVariants.{Because, NoMemory}
use Rattle.orca_base.specs.Refusal.{IfBecause, MatchRefusal}
use Rattle.orca_front.specs.declared.fault.FrontFault.{FrontFault}
use Rattle.orca_front.specs.declared.fault.FrontFault.TheVariants as fronts
use Rattle.orca_front.specs.declared.source.SourceFile.{SourceFile}
use Rattle.orca_front.specs.Sources.{file_of}
use Rattle.orca_io.specs.Causes.{Rose}
use Rattle.orca_io.specs.Files.{File, content_of}
use Rattle.orca_io.specs.Reading.{FileRead, ReadSince}
use Rattle.command_files.specs.Stopped.{StoppedAt}
use Rattle.orca_io.specs.declared.shelf.ShelfFault.{ShelfFault}
use Rattle.orca_io.specs.declared.shelf.ShelfFault.TheVariants as causes
use Rattle.command_output.specs.declared.statuses.TheConstants.{READ_FAULT, WRITE_FAULT}
use Rattle.command_files.specs.declared.load_fault.LoadFault.{LoadFault}
use Rattle.command_files.specs.declared.load_fault.LoadFault.TheVariants as loads
use Rattle.command_files.specs.Loaded.{IsAbsent, IsFailed, IsLoadFault, IsThere, IsTooLong, Reads, front_status, load_status}
use Rattle.command_files.specs.declared.replay_fault.ReplayFault.{ReplayFault}
use Rattle.command_files.specs.declared.replay_fault.ReplayFault.TheVariants as replays
use Rattle.command_files.specs.Replays.{IsHistoryFault, IsProgramRead, IsReplayFault, IsUnreadable, replay_status}
use Rattle.command_files.specs.Sources.{AreRead, IsRead, StopsAt, Word}

-- a file that was read
pub read_is : (told : Option (List File)) (limit : ℕ) (file text : List ℕ) → IfSome told (λ files. (content_of files file ≡ Some text) × (length text ≤ limit)) → length text ≤ limit → IsRead told limit (file, text)
read_is None limit file text h bytes = record { content = tt; bytes = bytes }
read_is (Some files) limit file text h bytes = record { content = h.0; bytes = bytes }

-- the names of the first files, and what was read of them
pub record ReadSoFar (told : Option (List File)) (files : List (Bor Word)) (i : ℕ) (sources : List SourceFile) : Type 0 where
  pub names : map (λ (f : Bor Word). f.now) (take i files) ≡ map (λ (s : File). s.0) (map file_of sources)
  pub read : All (IsRead told SOURCE_BYTES) (map file_of sources)

pub none_read : (told : Option (List File)) (files : List (Bor Word)) → ReadSoFar told files 0 []
none_read told files = record { names = refl; read = All-nil (IsRead told SOURCE_BYTES) }

one_more : (xs : List (Bor Word)) (i : ℕ) (x d : Bor Word) → i < length xs → x ≡ get_or xs i d → take (i + 1) xs ≡ take i xs ++ x ∷ []
one_more xs i x d lt is =
    let next : i + 1 ≡ suc i = omega arith in
    ap (λ (k : ℕ). take k xs) next ∙ take-suc xs i d lt ∙ ap (λ (y : Bor Word). take i xs ++ y ∷ []) (sym is)

-- one file more
pub reads_more : (told : Option (List File)) (files : List (Bor Word)) (i : ℕ) (file d : Bor Word) (sources new : List SourceFile) (s : SourceFile) → i < length files → file ≡ get_or files i d → new ≡ sources ++ s ∷ [] → ReadSoFar told files i sources →
    s.name.now ≡ file.now → IsRead told SOURCE_BYTES (file_of s) → ReadSoFar told files (i + 1) new
reads_more told files i file d sources new s lt is pushed so_far named read =
    let news = ap (map file_of) pushed ∙ map-append file_of sources (s ∷ []) in
    record {
      names =
          ap (map (λ (f : Bor Word). f.now)) (one_more files i file d lt is) ∙ map-append (λ (f : Bor Word). f.now) (take i files) (file ∷ [])
          ∙ ap (λ (l : List Word). l ++ file.now ∷ []) so_far.names ∙ ap (λ (w : Word). map (λ (s : File). s.0) (map file_of sources) ++ w ∷ []) (sym named)
          ∙ sym (ap (map (λ (s : File). s.0)) news ∙ map-append (λ (s : File). s.0) (map file_of sources) (file_of s ∷ []));
      read = subst (All (IsRead told SOURCE_BYTES)) (sym news) (All-push (IsRead told SOURCE_BYTES) (map file_of sources) (file_of s) so_far.read read);
    }

-- the names before the next file are those of what was read
pub names_next : (told : Option (List File)) (files : List (Bor Word)) (i : ℕ) (file d : Bor Word) (sources : List SourceFile) → i < length files → file ≡ get_or files i d → ReadSoFar told files i sources →
    map (λ (f : Bor Word). f.now) files ≡ map (λ (s : File). s.0) (map file_of sources) ++ file.now ∷ map (λ (f : Bor Word). f.now) (drop (suc i) files)
names_next told files i file d sources lt is so_far =
    ap (map (λ (f : Bor Word). f.now)) (sym (take-append-drop i files) ∙ ap (λ (r : List (Bor Word)). take i files ++ r) (drop-cons files i d lt ∙ ap (λ (y : Bor Word). y ∷ drop (suc i) files) (sym is)))
    ∙ map-append (λ (f : Bor Word). f.now) (take i files) (file ∷ drop (suc i) files)
    ∙ ap (λ (l : List Word). l ++ file.now ∷ map (λ (f : Bor Word). f.now) (drop (suc i) files)) so_far.names

-- where reading stops at the next file
pub stops_next : (told : Option (List File)) (files : List (Bor Word)) (i : ℕ) (file d : Bor Word) (sources : List SourceFile) → length files ≤ MODULES → i < length files → file ≡ get_or files i d → ReadSoFar told files i sources →
    StopsAt told (map (λ (f : Bor Word). f.now) files) file.now
stops_next told files i file d sources few lt is so_far = record {
  few = subst (λ (n : ℕ). n ≤ MODULES) (sym (length-map files (λ (f : Bor Word). f.now))) few;
  before = map file_of sources;
  after = map (λ (f : Bor Word). f.now) (drop (suc i) files);
  splits = names_next told files i file d sources lt is so_far;
  read = so_far.read;
}

pub only_left : {A : Type 0} → A ⊎ ⊥ → A
only_left (inl a) = a
only_left (inr h) = absurd h

-- ---- reads, one behind another

pub since_none : (old : List FileRead) → ReadSince old old []
since_none old = sym (append-nil old)

pub since_then : (old mid new first more : List FileRead) → ReadSince old mid first → ReadSince mid new more → ReadSince old new (first ++ more)
since_then old mid new first more one two = two ∙ ap (λ (l : List FileRead). l ++ more) one ∙ append_assoc old first more

-- reading stopped behind others that were read
pub stopped_since : (before mid now : ℕ) (old between new first : List FileRead) (file : Word) → mid ≡ before → ReadSince old between first → (why : ShelfFault) → StoppedAt mid now between new why file → StoppedAt before now old new why file
stopped_since before mid now old between new first file same read why h = record {
  first = first ++ h.first;
  ends = since_then old between new first (h.first ++ (file, Err why) ∷ []) read h.ends ∙ ap (λ (l : List FileRead). old ++ l) (sym (append_assoc first h.first ((file, Err why) ∷ [])));
  rose = λ is. subst (λ (n : ℕ). Rose n now) same (h.rose is);
}

-- what was read of a file, over what was so before any was read
reads_map : (told : Option (List File)) (stopped other : ShelfFault → Word → Type 0) (name : Word) (x : Result SourceFile (Refusal LoadFault)) → ((why : ShelfFault) → stopped why name → other why name) → Reads told stopped name x → Reads told other name x
reads_map told stopped other name (Ok s) so h = h
reads_map told stopped other name (Err (Because loads.TooMany)) so h = h
reads_map told stopped other name (Err (Because (loads.Absent file))) so h = (h.0, h.1, so causes.Absent h.2)
reads_map told stopped other name (Err (Because (loads.TooLong file))) so h = (h.0, h.1, so causes.TooLong h.2)
reads_map told stopped other name (Err (Because (loads.Failed file))) so h = (h.0, h.1, so causes.Failed h.2)
reads_map told stopped other name (Err NoMemory) so h = h

pub reads_since : (told old : Option (List File)) (stopped other : ShelfFault → Word → Type 0) (name : Word) (x y : Result SourceFile (Refusal LoadFault)) → told ≡ old → ((why : ShelfFault) → stopped why name → other why name) → x ≡ y → Reads told stopped name x → Reads old other name y
reads_since told old stopped other name x y same so is h =
    subst (λ (r : Result SourceFile (Refusal LoadFault)). Reads old other name r) is
    (subst (λ (t : Option (List File)). Reads t other name x) same (reads_map told stopped other name x so h))

-- why reading stopped there
pub fault_next : (T : Type 0) (told : Option (List File)) (stopped : ShelfFault → Word → Type 0) (files : List Word) (name : Word) (r : Refusal LoadFault) → StopsAt told files name → Reads told stopped name (Err r) → IfBecause {T = T} (Err r) (IsLoadFault told stopped files)
fault_next T told stopped files name (Because (loads.Absent file)) stops h = (subst (StopsAt told files) (sym h.0) stops, subst (IsAbsent told) (sym h.0) h.1, subst (stopped causes.Absent) (sym h.0) h.2)
fault_next T told stopped files name (Because (loads.TooLong file)) stops h = (subst (StopsAt told files) (sym h.0) stops, subst (IsTooLong told SOURCE_BYTES) (sym h.0) h.1, subst (stopped causes.TooLong) (sym h.0) h.2)
fault_next T told stopped files name (Because (loads.Failed file)) stops h = (subst (StopsAt told files) (sym h.0) stops, subst (IsThere told) (sym h.0) h.1, subst (stopped causes.Failed) (sym h.0) h.2)
fault_next T told stopped files name (Because loads.TooMany) stops h = absurd h
fault_next T told stopped files name NoMemory stops h = tt

-- all files were read
pub all_read : (told : Option (List File)) (files : List (Bor Word)) (i : ℕ) (sources : List SourceFile) → length files ≤ MODULES → length files ≤ i → ReadSoFar told files i sources → AreRead told (map (λ (f : Bor Word). f.now) files) (map file_of sources)
all_read told files i sources few end so_far = record {
  few = subst (λ (n : ℕ). n ≤ MODULES) (sym (length-map files (λ (f : Bor Word). f.now))) few;
  names = ap (map (λ (f : Bor Word). f.now)) (sym (take_all i files end)) ∙ so_far.names;
  read = so_far.read;
}

-- ---- the history behind them

-- why a history wasn't read, over what was so before any file was read
replay_since : (told old : Option (List File)) (stopped other : ShelfFault → Word → Type 0) (history : Word) (files : List Word) (fault : ReplayFault) → told ≡ old → ((why : ShelfFault) → stopped why history → other why history) → IsProgramRead old files →
    IsHistoryFault told stopped history fault → IsReplayFault old other history files fault
replay_since told old stopped other history files (replays.Program fault) same so all h = absurd h
replay_since told old stopped other history files (replays.Absent file) same so all h =
    (all, (h.0, subst (λ (t : Option (List File)). IsAbsent t history) same h.1, so causes.Absent h.2))
replay_since told old stopped other history files replays.TooLong same so all h =
    (all, (subst (λ (t : Option (List File)). IsTooLong t HISTORY_BYTES history) same h.0, so causes.TooLong h.1))
replay_since told old stopped other history files (replays.Failed file) same so all h =
    (all, (h.0, subst (λ (t : Option (List File)). IsThere t history) same h.1, so causes.Failed h.2))

pub history_since : (T U : Type 0) (told old : Option (List File)) (stopped other : ShelfFault → Word → Type 0) (history : Word) (files : List Word) (r : Refusal ReplayFault) → told ≡ old → ((why : ShelfFault) → stopped why history → other why history) → IsProgramRead old files →
    IfBecause {T = T} (Err r) (IsHistoryFault told stopped history) → IfBecause {T = U} (Err r) (IsReplayFault old other history files)
history_since T U told old stopped other history files (Because fault) same so all h = replay_since told old stopped other history files fault same so all h
history_since T U told old stopped other history files NoMemory same so all h = tt

-- the count of faults stood still in what came first
pub quiet_since : (old between new : ℕ) (Q : Type 0) → between ≡ old → (new ≡ between) ⊎ Q → (new ≡ old) ⊎ Q
quiet_since old between new Q same (inl e) = inl (e ∙ same)
quiet_since old between new Q same (inr q) = inr q

-- and so where the history wasn't read
pub quiet_on : (T U : Type 0) (old between new : ℕ) (r : Refusal ReplayFault) → between ≡ old → (new ≡ between) ⊎ MatchRefusal {T = T} (Err r) (λ _. ⊥) IsUnreadable → (new ≡ old) ⊎ MatchRefusal {T = U} (Err r) (λ _. ⊥) IsUnreadable
quiet_on T U old between new r same (inl e) = inl (e ∙ same)
quiet_on T U old between new (Because fault) same (inr h) = inr h
quiet_on T U old between new NoMemory same (inr h) = inr h

-- the text, as the shelf told it before
pub read_since : (told old : Option (List File)) (limit : ℕ) (file : File) → told ≡ old → IsRead told limit file → IsRead old limit file
read_since told old limit file same read = subst (λ (t : Option (List File)). IsRead t limit file) same read

-- ---- statuses

-- neither files that weren't read nor texts that are no program end with the status of a write fault
pub unread_status : (fault : LoadFault) → load_status fault ≢ WRITE_FAULT
unread_status loads.TooMany h = absurd cc
unread_status (loads.Absent file) h = absurd cc
unread_status (loads.TooLong file) h = absurd cc
unread_status (loads.Failed file) h = absurd cc

pub refused_status : (fault : FrontFault) → front_status fault ≢ WRITE_FAULT
refused_status (fronts.Faulty file at said) h = absurd cc
refused_status fronts.TooNested h = absurd cc
refused_status (fronts.Unlinked error) h = absurd cc
refused_status (fronts.Mistyped error) h = absurd cc

pub failed_status : (fault : LoadFault) → IsFailed fault → load_status fault ≡ READ_FAULT
failed_status loads.TooMany h = absurd h
failed_status (loads.Absent file) h = absurd h
failed_status (loads.TooLong file) h = absurd h
failed_status (loads.Failed file) h = refl

pub replay_apart : (fault : ReplayFault) → replay_status fault ≢ WRITE_FAULT
replay_apart (replays.Program fault) h = unread_status fault h
replay_apart (replays.Absent file) h = absurd cc
replay_apart replays.TooLong h = absurd cc
replay_apart (replays.Failed file) h = absurd cc

pub replay_failed : (fault : ReplayFault) → IsUnreadable fault → replay_status fault ≡ READ_FAULT
replay_failed (replays.Program fault) h = failed_status fault h
replay_failed (replays.Absent file) h = absurd h
replay_failed replays.TooLong h = absurd h
replay_failed (replays.Failed file) h = refl
