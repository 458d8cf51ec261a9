-- At which file reading stopped, and why.
use Rattle.std.specs.Prelude.{◌≡◌, ℕ, List, [], ◌∷◌, ◌++◌, Err}
use Rattle.orca_io.specs.Causes.{Rose}
use Rattle.orca_io.specs.Reading.{FileRead, ReadSince}
use Rattle.orca_io.specs.declared.shelf.ShelfFault.{ShelfFault}
use Rattle.orca_io.specs.declared.shelf.ShelfFault.TheVariants.{Absent, Failed, NoMemory, TooLong}
use Rattle.command_files.specs.Sources.{Word}

-- the last read since is one of this file, and went so; and where it failed, the count of faults rose
pub record StoppedAt (before now : ℕ) (old new : List FileRead) (why : ShelfFault) (file : Word) : Type 0 where
  pub first : List FileRead
  pub ends : ReadSince old new (first ++ (file, Err why) ∷ [])
  pub rose : why ≡ Failed → Rose before now

-- no file's read failed
abbrev pub Never : ShelfFault → Word → Type 0
Never Absent file = Unit {0}
Never TooLong file = Unit {0}
Never Failed file = ⊥
Never NoMemory file = Unit {0}
