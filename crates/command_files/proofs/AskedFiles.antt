-- Which files a shelf was asked for, one read after another.
use Rattle.std.proofs.Common.{◌≡◌, ◌<◌, ◌≤◌, ℕ, suc, length, get_or, drop, ◌||◌, Bool, true, false, true≢false, List, [], ◌∷◌, ◌++◌, map, append_assoc, arith, refl, sym, ap, ◌∙◌, subst}
use Rattle.std.specs.Borrow.{Bor}
use Rattle.std.specs.Prelude.{Option, Result, Ok, Err, IfErr, IsErrOf}
use Rattle.std.proofs.lemmas.List.{map-append}
use Rattle.orca_front.specs.declared.source.SourceFile.{SourceFile}
use Rattle.orca_front.specs.Sources.{file_of}
use Rattle.orca_io.specs.Causes.{counted}
use Rattle.orca_io.specs.Files.{File}
use Rattle.orca_io.specs.Reading.{FileRead, HasAsked, IsFront, ReadSince, had, is_failure, some_failed, went}
use Rattle.command_files.specs.Stopped.{StoppedAt}
use Rattle.orca_io.specs.Reading as reading
use Rattle.orca_io.specs.declared.shelf.ShelfFault.{ShelfFault}
use Rattle.orca_io.specs.declared.shelf.ShelfFault.TheVariants.{Absent, Failed, NoMemory, TooLong}
use Rattle.command_files.specs.Sources.{AreRead, Word}
use Rattle.command_files.proofs.ReadFiles.{ReadSoFar, names_next, since_none, since_then}

abbrev name_of : File → Word
name_of file = file.0

abbrev reads_of : List SourceFile → List FileRead
reads_of sources = map had (map file_of sources)

-- ---- reads, one behind another

-- one source more
pub since_more : (old mid new : List FileRead) (sources news : List SourceFile) (s : SourceFile) → news ≡ sources ++ s ∷ [] → ReadSince old mid (reads_of sources) → ReadSince mid new (had (file_of s) ∷ []) → ReadSince old new (reads_of news)
since_more old mid new sources news s pushed one two =
    since_then old mid new (reads_of sources) (had (file_of s) ∷ []) one two
    ∙ ap (λ (l : List FileRead). old ++ l) (sym (ap reads_of pushed ∙ ap (map had) (map-append file_of sources (s ∷ [])) ∙ map-append had (map file_of sources) (file_of s ∷ [])))

-- ---- one file

or_false : (b : Bool) → b || false ≡ b
or_false true = refl
or_false false = refl

sure_of : {V : Type 0} (view : V → List ℕ) (may_fail : Bool) (r : Result V ShelfFault) → (IsErrOf r Failed → may_fail ≡ true) → is_failure (went view r) ≡ true → may_fail ≡ true
sure_of view may_fail (Ok v) sure fails = absurd (true≢false (sym fails))
sure_of view may_fail (Err Absent) sure fails = absurd (true≢false (sym fails))
sure_of view may_fail (Err TooLong) sure fails = absurd (true≢false (sym fails))
sure_of view may_fail (Err Failed) sure fails = sure refl
sure_of view may_fail (Err NoMemory) sure fails = absurd (true≢false (sym fails))

front_of : (name : Word) (r : Result (List ℕ) ShelfFault) → IsFront (name ∷ []) ((name, r) ∷ [])
front_of name (Ok bytes) = reading.whole ((name, bytes) ∷ []) [] refl refl
front_of name (Err why) = reading.stopped [] name why [] refl refl

pub asked_one : {V : Type 0} (view : V → List ℕ) (may_fail : Bool) (name : Word) (old new : List FileRead) (r : Result V ShelfFault) → ReadSince old new ((name, went view r) ∷ []) → (IsErrOf r Failed → may_fail ≡ true) →
    HasAsked may_fail (name ∷ []) old new
asked_one view may_fail name old new r noted sure = record {
  reads = (name, went view r) ∷ [];
  grew = noted;
  front = front_of name (went view r);
  sure = λ some. sure_of view may_fail r sure (sym (or_false (is_failure (went view r))) ∙ some);
}

same_most : (a b : ℕ) → a ≡ b → b ≤ a
same_most a b e = omega (arith, e)

pub stopped_one : {V : Type 0} (view : V → List ℕ) (before now : ℕ) (name : Word) (old new : List FileRead) (r : Result V ShelfFault) → (IsErrOf r Failed → now ≡ counted before) → ReadSince old new ((name, went view r) ∷ []) → IfErr r (λ why. StoppedAt before now old new why name)
stopped_one view before now name old new (Ok v) more noted = tt
stopped_one view before now name old new (Err why) more noted = record {
  first = [];
  ends = noted;
  rose = λ is. same_most now (counted before) (more (ap (λ (w : ShelfFault). Err w) is));
}

-- ---- files

pub asked_none : (may_fail : Bool) (names : List Word) (old : List FileRead) → HasAsked may_fail names old old
asked_none may_fail names old = record { reads = []; grew = since_none old; front = reading.whole [] names refl refl; sure = λ some. absurd (true≢false (sym some)) }

front_more : (names more : List Word) (reads : List FileRead) → IsFront names reads → IsFront (names ++ more) reads
front_more names more reads (reading.whole before rest are is) =
    reading.whole before (rest ++ more) (ap (λ (l : List Word). l ++ more) are ∙ append_assoc (map name_of before) rest more) is
front_more names more reads (reading.stopped before file why rest are is) =
    reading.stopped before file why (rest ++ more) (ap (λ (l : List Word). l ++ more) are ∙ append_assoc (map name_of before) (file ∷ rest) more) is

-- and it wasn't asked for what comes behind
pub asked_more : (may_fail : Bool) (names more : List Word) (old new : List FileRead) → HasAsked may_fail names old new → HasAsked may_fail (names ++ more) old new
asked_more may_fail names more old new h = record { reads = h.reads; grew = h.grew; front = front_more names more h.reads h.front; sure = h.sure }

failed_behind : (files : List File) (reads : List FileRead) → some_failed (map had files ++ reads) ≡ some_failed reads
failed_behind [] reads = refl
failed_behind (file ∷ files) reads = failed_behind files reads

front_then : (files : List File) (names : List Word) (reads : List FileRead) → IsFront names reads → IsFront (map name_of files ++ names) (map had files ++ reads)
front_then files names reads (reading.whole before rest are is) =
    reading.whole (files ++ before) rest
    (ap (λ (l : List Word). map name_of files ++ l) are ∙ sym (append_assoc (map name_of files) (map name_of before) rest) ∙ ap (λ (l : List Word). l ++ rest) (sym (map-append name_of files before)))
    (ap (λ (l : List FileRead). map had files ++ l) is ∙ sym (map-append had files before))
front_then files names reads (reading.stopped before file why rest are is) =
    reading.stopped (files ++ before) file why rest
    (ap (λ (l : List Word). map name_of files ++ l) are ∙ sym (append_assoc (map name_of files) (map name_of before) (file ∷ rest))
    ∙ ap (λ (l : List Word). l ++ file ∷ rest) (sym (map-append name_of files before)))
    (ap (λ (l : List FileRead). map had files ++ l) is ∙ sym (append_assoc (map had files) (map had before) ((file, Err why) ∷ []))
    ∙ ap (λ (l : List FileRead). l ++ (file, Err why) ∷ []) (sym (map-append had files before)))

-- files were read, and behind them these were asked for
pub asked_then : (may_fail : Bool) (files : List File) (names all : List Word) (old mid new : List FileRead) → all ≡ map name_of files ++ names → ReadSince old mid (map had files) → HasAsked may_fail names mid new → HasAsked may_fail all old new
asked_then may_fail files names all old mid new are first h = subst (λ (l : List Word). HasAsked may_fail l old new) (sym are) (record {
  reads = map had files ++ h.reads;
  grew = since_then old mid new (map had files) h.reads first h.grew;
  front = front_then files names h.reads h.front;
  sure = λ some. h.sure (sym (failed_behind files h.reads) ∙ some);
})

-- and of these nothing
pub asked_all : (may_fail : Bool) (files : List File) (all rest : List Word) (old new : List FileRead) → all ≡ map name_of files ++ rest → ReadSince old new (map had files) → HasAsked may_fail all old new
asked_all may_fail files all rest old new are first = asked_then may_fail files rest all old new new are first (asked_none may_fail rest new)

-- the sources of a program, and behind them others
pub asked_behind : (may before : Bool) (told : Option (List File)) (names more : List Word) (files : List File) (old mid new : List FileRead) → before ≡ may → AreRead told names files → ReadSince old mid (map had files) → HasAsked before more mid new → HasAsked may (names ++ more) old new
asked_behind may before told names more files old mid new same read first h =
    asked_then may files more (names ++ more) old mid new (ap (λ (l : List Word). l ++ more) read.names) first (subst (λ (b : Bool). HasAsked b more mid new) same h)

-- where reading stops at the next source, or memory lacks behind it
pub asked_next : (may before : Bool) (told : Option (List File)) (files : List (Bor Word)) (i : ℕ) (file d : Bor Word) (sources : List SourceFile) (old mid new : List FileRead) → i < length files → file ≡ get_or files i d →
    ReadSoFar told files i sources → before ≡ may → ReadSince old mid (reads_of sources) → HasAsked before (file.now ∷ []) mid new → HasAsked may (map (λ (f : Bor Word). f.now) files) old new
asked_next may before told files i file d sources old mid new lt is so_far same first h =
    asked_then may (map file_of sources) (file.now ∷ map (λ (f : Bor Word). f.now) (drop (suc i) files)) (map (λ (f : Bor Word). f.now) files) old mid new (names_next told files i file d sources lt is so_far) first
    (asked_more may (file.now ∷ []) (map (λ (f : Bor Word). f.now) (drop (suc i) files)) mid new (subst (λ (b : Bool). HasAsked b (file.now ∷ []) mid new) same h))
