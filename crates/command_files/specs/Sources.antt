-- Sources: files with their texts, as they were read (docs/FORMATS.md, The program).
use Rattle.std.specs.Prelude.{◌≡◌, ℕ, ◌≤◌, List, ◌∷◌, ◌++◌, length, map, Option, Some, IfSome}
use Rattle.std.specs.List.{All}
use Rattle.orca_base.specs.declared.limits.TheConstants.{MODULES, SOURCE_BYTES}
use Rattle.orca_io.specs.Files.{File, content_of}

-- a word, or the name of a file
abbrev pub Word : Type 0
Word = List ℕ

-- the file was read: its text is what the shelf tells of it, where that tells its files, and is no longer than this
pub record IsRead (told : Option (List File)) (limit : ℕ) (file : File) : Type 0 where
  pub content : IfSome told (λ files. content_of files file.0 ≡ Some file.1)
  pub bytes : length file.1 ≤ limit

-- all files were read, which are no more than a program may have modules; so the size of each text was judged before any is judged by what
-- it says
pub record AreRead (told : Option (List File)) (files : List Word) (sources : List File) : Type 0 where
  pub few : length files ≤ MODULES
  pub names : files ≡ map (λ s. s.0) sources
  pub read : All (IsRead told SOURCE_BYTES) sources

-- Reading the files stopped at this one of them. Those in front of it are told, none of them too long
pub record StopsAt (told : Option (List File)) (files : List Word) (file : Word) : Type 0 where
  pub few : length files ≤ MODULES
  pub before : List File
  pub after : List Word
  pub splits : files ≡ map (λ s. s.0) before ++ file ∷ after
  pub read : All (IsRead told SOURCE_BYTES) before
