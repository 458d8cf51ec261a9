-- Where files are told and no read failed, one answer alone fits the files that are asked for: which texts they have, or why they
-- weren't read.
use Rattle.std.proofs.Common.{◌≡◌, ◌<◌, ◌≤◌, ℕ, List, [], ◌∷◌, ◌++◌, All, length, map, Option, Some, None, refl, sym, ap, ◌∙◌, arith}
use Rattle.std.proofs.lemmas.List.Elements.{All-head, All-tail}
use Rattle.orca_base.specs.declared.limits.TheConstants.{HISTORY_BYTES, MODULES, SOURCE_BYTES}
use Rattle.orca_io.specs.Files.{File, content_of}
use Rattle.orca_io.specs.declared.shelf.ShelfFault.{ShelfFault}
use Rattle.orca_io.specs.declared.shelf.ShelfFault.TheVariants as causes
use Rattle.command_files.specs.declared.load_fault.LoadFault.{LoadFault}
use Rattle.command_files.specs.declared.load_fault.LoadFault.TheVariants as load
use Rattle.command_files.specs.declared.replay_fault.ReplayFault.{ReplayFault}
use Rattle.command_files.specs.declared.replay_fault.ReplayFault.TheVariants as replay
use Rattle.command_files.specs.Lines.{absent_line}
use Rattle.command_files.specs.Loaded.{IsLoadFault, load_line, load_status}
use Rattle.command_files.specs.Replays.{HasRead, IsReplayFault, replay_line, replay_status}
use Rattle.command_files.specs.Sources.{AreRead, IsRead, StopsAt, Word}
use Rattle.command_files.specs.Stopped.{Never}

-- ---- the same ending, and parts of what is the same

-- two endings have one status and one line
abbrev pub SameEnd : ℕ → List ℕ → ℕ → List ℕ → Type 0
SameEnd one a two b = (one ≡ two) × (a ≡ b)

pub some_same : {X : Type 0} (x y : X) → Some x ≡ Some y → x ≡ y
some_same x y e = cc

pub some_apart : {X : Type 0} (x : X) → Some x ≡ None → ⊥
some_apart x e = absurd cc

pub heads : {X : Type 0} (x y : X) (xs ys : List X) → x ∷ xs ≡ y ∷ ys → x ≡ y
heads x y xs ys e = cc

pub tails : {X : Type 0} (x y : X) (xs ys : List X) → x ∷ xs ≡ y ∷ ys → xs ≡ ys
tails x y xs ys e = cc

pub above : (a b : ℕ) → a < b → b ≤ a → ⊥
above a b more most = omega (arith, more, most)

-- ---- one file

-- the file has no text of so many bytes at most
abbrev pub HasNone : List File → ℕ → Word → Type 0
HasNone shelf limit name = (text : List ℕ) → content_of shelf name ≡ Some text → length text ≤ limit → ⊥

pub absent_none : (shelf : List File) (limit : ℕ) (name : Word) → content_of shelf name ≡ None → HasNone shelf limit name
absent_none shelf limit name none text has few = some_apart text (sym has ∙ none)

pub long_none : (shelf : List File) (limit : ℕ) (name : Word) (long : List ℕ) → content_of shelf name ≡ Some long → limit < length long → HasNone shelf limit name
long_none shelf limit name long there more text has few =
    let same : length long ≡ length text = ap length (some_same long text (sym there ∙ has)) in
    omega (arith, more, few, same)

-- it isn't there and there at once
pub absent_apart : (shelf : List File) (name other : Word) (text : List ℕ) → name ≡ other → content_of shelf name ≡ None → content_of shelf other ≡ Some text → ⊥
absent_apart shelf name other text same none there = some_apart text (sym there ∙ ap (content_of shelf) (sym same) ∙ none)

-- what was read has a text
pub read_apart : (shelf : List File) (limit : ℕ) (file : File) (name : Word) → name ≡ file.0 → IsRead (Some shelf) limit file → HasNone shelf limit name → ⊥
read_apart shelf limit file name same read none =
    let there : content_of shelf file.0 ≡ Some file.1 = read.content in
    none file.1 (ap (content_of shelf) same ∙ there) read.bytes

-- and one text
pub same_text : (shelf : List File) (limit : ℕ) (s t : File) → s.0 ≡ t.0 → IsRead (Some shelf) limit s → IsRead (Some shelf) limit t → s.1 ≡ t.1
same_text shelf limit s t same read was =
    let one : content_of shelf s.0 ≡ Some s.1 = read.content in
    let two : content_of shelf t.0 ≡ Some t.1 = was.content in
    some_same s.1 t.1 (sym one ∙ ap (content_of shelf) same ∙ two)

-- ---- files, one after the other

abbrev names_of : List File → List Word
names_of files = map (λ s. s.0) files

module _ (shelf : List File) (limit : ℕ) where
  abbrev Was : File → Type 0
  Was = IsRead (Some shelf) limit

  -- reading stops at one file
  one_stop : (before other : List File) (after left : List Word) (name stop : Word) → names_of before ++ name ∷ after ≡ names_of other ++ stop ∷ left → All Was before → All Was other → HasNone shelf limit name → HasNone shelf limit stop → name ≡ stop
  one_stop [] [] after left name stop e read was none never = heads name stop after left e
  one_stop [] (o ∷ other) after left name stop e read was none never =
      absurd (read_apart shelf limit o name (heads name o.0 after (names_of other ++ stop ∷ left) e) (All-head Was o other was) none)
  one_stop (b ∷ before) [] after left name stop e read was none never =
      absurd (read_apart shelf limit b stop (sym (heads b.0 stop (names_of before ++ name ∷ after) left e)) (All-head Was b before read) never)
  one_stop (b ∷ before) (o ∷ other) after left name stop e read was none never =
      one_stop before other after left name stop (tails b.0 o.0 (names_of before ++ name ∷ after) (names_of other ++ stop ∷ left) e) (All-tail Was b before read) (All-tail Was o other was) none never

  -- and at none where all were read
  stop_apart : (sources : List File) (before after : List Word) (name : Word) → names_of sources ≡ before ++ name ∷ after → All Was sources → HasNone shelf limit name → ⊥
  stop_apart [] [] after name e read none = absurd cc
  stop_apart [] (b ∷ before) after name e read none = absurd cc
  stop_apart (s ∷ sources) [] after name e read none =
      read_apart shelf limit s name (sym (heads s.0 name (names_of sources) after e)) (All-head Was s sources read) none
  stop_apart (s ∷ sources) (b ∷ before) after name e read none =
      stop_apart sources before after name (tails s.0 b (names_of sources) (before ++ name ∷ after) e) (All-tail Was s sources read) none

  same_files : (one two : List File) → names_of one ≡ names_of two → All Was one → All Was two → one ≡ two
  same_files [] [] e read was = refl
  same_files [] (t ∷ two) e read was = absurd cc
  same_files (s ∷ one) [] e read was = absurd cc
  same_files (s ∷ one) (t ∷ two) e read was =
      let name = heads s.0 t.0 (names_of one) (names_of two) e in
      let text = same_text shelf limit s t name (All-head Was s one read) (All-head Was t two was) in
      let rest = same_files one two (tails s.0 t.0 (names_of one) (names_of two) e) (All-tail Was s one read) (All-tail Was t two was) in
      λ i. (name i, text i) ∷ rest i

-- ---- the files of a program

pub same_sources : (shelf : List File) (files : List Word) (one two : List File) → AreRead (Some shelf) files one → AreRead (Some shelf) files two → one ≡ two
same_sources shelf files one two read was = same_files shelf SOURCE_BYTES one two (sym read.names ∙ was.names) read.read was.read

one_stopped : (shelf : List File) (files : List Word) (name stop : Word) → StopsAt (Some shelf) files name → StopsAt (Some shelf) files stop → HasNone shelf SOURCE_BYTES name → HasNone shelf SOURCE_BYTES stop → name ≡ stop
one_stopped shelf files name stop s t none never =
    one_stop shelf SOURCE_BYTES s.before t.before s.after t.after name stop (sym s.splits ∙ t.splits) s.read t.read none never

read_whole : (shelf : List File) (files : List Word) (sources : List File) (name : Word) → StopsAt (Some shelf) files name → AreRead (Some shelf) files sources → HasNone shelf SOURCE_BYTES name → ⊥
read_whole shelf files sources name s read none =
    stop_apart shelf SOURCE_BYTES sources (names_of s.before) s.after name (sym read.names ∙ s.splits) read.read none

-- they weren't read for one reason
pub load_once : (shelf : List File) (files : List Word) (f g : LoadFault) → IsLoadFault (Some shelf) Never files f → IsLoadFault (Some shelf) Never files g → SameEnd (load_status f) (load_line f) (load_status g) (load_line g)
load_once shelf files (load.Failed file) g h k = absurd h.2
load_once shelf files load.TooMany (load.Failed other) h k = absurd k.2
load_once shelf files (load.Absent file) (load.Failed other) h k = absurd k.2
load_once shelf files (load.TooLong file) (load.Failed other) h k = absurd k.2
load_once shelf files load.TooMany load.TooMany h k = (refl, refl)
load_once shelf files load.TooMany (load.Absent other) h k = absurd (above MODULES (length files) h k.0.few)
load_once shelf files load.TooMany (load.TooLong other) h k = absurd (above MODULES (length files) h k.0.few)
load_once shelf files (load.Absent file) load.TooMany h k = absurd (above MODULES (length files) k h.0.few)
load_once shelf files (load.TooLong file) load.TooMany h k = absurd (above MODULES (length files) k h.0.few)
load_once shelf files (load.Absent file) (load.Absent other) h k =
    (refl, ap absent_line (one_stopped shelf files file.now other.now h.0 k.0 (absent_none shelf SOURCE_BYTES file.now h.1) (absent_none shelf SOURCE_BYTES other.now k.1)))
load_once shelf files (load.Absent file) (load.TooLong other) h k =
    let same = one_stopped shelf files file.now other.now h.0 k.0 (absent_none shelf SOURCE_BYTES file.now h.1) (long_none shelf SOURCE_BYTES other.now k.1.0 k.1.1 k.1.2) in
    absurd (absent_apart shelf file.now other.now k.1.0 same h.1 k.1.1)
load_once shelf files (load.TooLong file) (load.Absent other) h k =
    let same = one_stopped shelf files other.now file.now k.0 h.0 (absent_none shelf SOURCE_BYTES other.now k.1) (long_none shelf SOURCE_BYTES file.now h.1.0 h.1.1 h.1.2) in
    absurd (absent_apart shelf other.now file.now h.1.0 same k.1 h.1.1)
load_once shelf files (load.TooLong file) (load.TooLong other) h k = (refl, refl)

-- or they were
pub load_apart : (shelf : List File) (files : List Word) (f : LoadFault) (sources : List File) → IsLoadFault (Some shelf) Never files f → AreRead (Some shelf) files sources → ⊥
load_apart shelf files load.TooMany sources h read = above MODULES (length files) h read.few
load_apart shelf files (load.Absent file) sources h read = read_whole shelf files sources file.now h.0 read (absent_none shelf SOURCE_BYTES file.now h.1)
load_apart shelf files (load.TooLong file) sources h read = read_whole shelf files sources file.now h.0 read (long_none shelf SOURCE_BYTES file.now h.1.0 h.1.1 h.1.2)
load_apart shelf files (load.Failed file) sources h read = absurd h.2

-- ---- the files of `replay`

pub history_once : (shelf : List File) (history : Word) (files : List Word) (f g : ReplayFault) → IsReplayFault (Some shelf) Never history files f → IsReplayFault (Some shelf) Never history files g →
    SameEnd (replay_status f) (replay_line f) (replay_status g) (replay_line g)
history_once shelf history files (replay.Program f) (replay.Program g) h k = load_once shelf files f g h k
history_once shelf history files (replay.Program f) (replay.Absent other) h k = absurd (load_apart shelf files f k.0.0 h k.0.1)
history_once shelf history files (replay.Program f) replay.TooLong h k = absurd (load_apart shelf files f k.0.0 h k.0.1)
history_once shelf history files (replay.Program f) (replay.Failed other) h k = absurd k.1.2
history_once shelf history files (replay.Absent file) (replay.Program g) h k = absurd (load_apart shelf files g h.0.0 k h.0.1)
history_once shelf history files (replay.Absent file) (replay.Absent other) h k = (refl, ap absent_line (h.1.0 ∙ sym k.1.0))
history_once shelf history files (replay.Absent file) replay.TooLong h k = absurd (absent_apart shelf history history k.1.0.0 refl h.1.1 k.1.0.1)
history_once shelf history files (replay.Absent file) (replay.Failed other) h k = absurd k.1.2
history_once shelf history files replay.TooLong (replay.Program g) h k = absurd (load_apart shelf files g h.0.0 k h.0.1)
history_once shelf history files replay.TooLong (replay.Absent other) h k = absurd (absent_apart shelf history history h.1.0.0 refl k.1.1 h.1.0.1)
history_once shelf history files replay.TooLong replay.TooLong h k = (refl, refl)
history_once shelf history files replay.TooLong (replay.Failed other) h k = absurd k.1.2
history_once shelf history files (replay.Failed file) g h k = absurd h.1.2

pub history_apart : (shelf : List File) (history : Word) (files : List Word) (f : ReplayFault) (sources : List File) (text : List ℕ) → IsReplayFault (Some shelf) Never history files f → HasRead (Some shelf) history files sources text → ⊥
history_apart shelf history files (replay.Program f) sources text h read = load_apart shelf files f sources h read.0
history_apart shelf history files (replay.Absent file) sources text h read =
    read_apart shelf HISTORY_BYTES (history, text) history refl read.1 (absent_none shelf HISTORY_BYTES history h.1.1)
history_apart shelf history files replay.TooLong sources text h read =
    read_apart shelf HISTORY_BYTES (history, text) history refl read.1 (long_none shelf HISTORY_BYTES history h.1.0.0 h.1.0.1 h.1.0.2)
history_apart shelf history files (replay.Failed file) sources text h read = absurd h.1.2

pub same_history : (shelf : List File) (history : Word) (text other : List ℕ) → IsRead (Some shelf) HISTORY_BYTES (history, text) → IsRead (Some shelf) HISTORY_BYTES (history, other) → text ≡ other
same_history shelf history text other read was = same_text shelf HISTORY_BYTES (history, text) (history, other) refl read was

-- ---- where no read failed

pub load_quiet : (told : Option (List File)) (stopped : ShelfFault → Word → Type 0) (never : (file : Word) → stopped causes.Failed file → ⊥) (files : List Word) (f : LoadFault) → IsLoadFault told stopped files f → IsLoadFault told Never files f
load_quiet told stopped never files load.TooMany h = h
load_quiet told stopped never files (load.Absent file) h = (h.0, h.1, tt)
load_quiet told stopped never files (load.TooLong file) h = (h.0, h.1, tt)
load_quiet told stopped never files (load.Failed file) h = absurd (never file.now h.2)

pub history_quiet : (told : Option (List File)) (stopped : ShelfFault → Word → Type 0) (never : (file : Word) → stopped causes.Failed file → ⊥) (history : Word) (files : List Word) (f : ReplayFault) → IsReplayFault told stopped history files f → IsReplayFault told Never history files f
history_quiet told stopped never history files (replay.Program f) h = load_quiet told stopped never files f h
history_quiet told stopped never history files (replay.Absent file) h = (h.0, (h.1.0, h.1.1, tt))
history_quiet told stopped never history files replay.TooLong h = (h.0, (h.1.0, tt))
history_quiet told stopped never history files (replay.Failed file) h = absurd (never history h.1.2)
