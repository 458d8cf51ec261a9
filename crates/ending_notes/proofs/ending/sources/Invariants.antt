use Rattle.std.proofs.Common.{◌≡◌, map, take}
use Rattle.orca_front.specs.Sources.{file_of}
use Rattle.kept_files.specs.Kept.{kept_of}
use Rattle.ending_notes.proofs.ending.sources.Given as goal

-- the files so far are sources
abbrev pub invariant-files : goal.invariant-files
invariant-files l = map file_of l.sources.items ≡ map kept_of (take l.file-index l.files)
