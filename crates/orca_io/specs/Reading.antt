-- What a shelf was asked to read, and how each read went.
use Rattle.std.specs.Prelude.{◌≡◌, ◌||◌, ℕ, Bool, false, true, List, [], ◌∷◌, ◌++◌, map, Result, Ok, Err}
use Rattle.orca_io.specs.Causes.{Rose}
use Rattle.orca_io.specs.Files.{File}
use Rattle.orca_io.specs.declared.shelf.ShelfFault.{ShelfFault}
use Rattle.orca_io.specs.declared.shelf.ShelfFault.TheVariants.{Absent, Failed, NoMemory, TooLong}

-- a read: the name of the file, and its bytes, or why there are none
abbrev pub FileRead : Type 0
FileRead = List ℕ × Result (List ℕ) ShelfFault

-- how a read went, by its answer
abbrev pub went : {V : Type 0} → (V → List ℕ) → Result V ShelfFault → Result (List ℕ) ShelfFault
went view (Ok v) = Ok (view v)
went view (Err fault) = Err fault

-- a file that was read, by its name and its bytes
abbrev pub had : File → FileRead
had file = (file.0, Ok file.1)

-- there was a file, which couldn't be read
abbrev pub is_failure : Result (List ℕ) ShelfFault → Bool
is_failure (Ok bytes) = false
is_failure (Err Absent) = false
is_failure (Err TooLong) = false
is_failure (Err Failed) = true
is_failure (Err NoMemory) = false

-- one of these reads failed so
abbrev pub some_failed : List FileRead → Bool
some_failed [] = false
some_failed (read ∷ reads) = is_failure read.1 || some_failed reads

-- there are numbers
abbrev pub has_some : List ℕ → Bool
has_some [] = false
has_some (number ∷ numbers) = true

-- just these reads came behind those that were told before, in order of time
abbrev pub ReadSince : List FileRead → List FileRead → List FileRead → Type 0
ReadSince old new reads = new ≡ old ++ reads

-- The files of these names were asked for in their order, each of which was read; or up to one that wasn't, by this cause
pub data IsFront (names : List (List ℕ)) (reads : List FileRead) : Type 0 where
  whole : (before : List File) (rest : List (List ℕ)) →
      names ≡ map (λ (s : File). s.0) before ++ rest → reads ≡ map had before → IsFront names reads
  stopped : (before : List File) (file : List ℕ) (why : ShelfFault) (rest : List (List ℕ)) →
      names ≡ map (λ (s : File). s.0) before ++ file ∷ rest → reads ≡ map had before ++ (file, Err why) ∷ [] → IsFront names reads

-- A shelf, whose reads may fail or not, was asked since for files of these names, the first so many of them, in their order: each but the last
-- was read. A read failed only where it may
pub record HasAsked (may_fail : Bool) (names : List (List ℕ)) (old new : List FileRead) : Type 0 where
  pub reads : List FileRead
  pub grew : ReadSince old new reads
  pub front : IsFront names reads
  pub sure : some_failed reads ≡ true → may_fail ≡ true

-- The count of faults rose, and the last read since is one of this file, which failed
pub record FailedAt (before now : ℕ) (old new : List FileRead) (file : List ℕ) : Type 0 where
  pub rose : Rose before now
  pub first : List FileRead
  pub ends : ReadSince old new (first ++ (file, Err Failed) ∷ [])
