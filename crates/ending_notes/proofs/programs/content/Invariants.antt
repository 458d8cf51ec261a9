use Rattle.std.proofs.Common.{◌≡◌, drop, map}
use Rattle.orca_io.specs.Files.{content_of}
use Rattle.orca_front.specs.Sources.{file_of}
use Rattle.ending_notes.proofs.programs.content.Given as goal

abbrev pub invariant-loop-file : goal.invariant-loop-file
invariant-loop-file l =
    content_of (map file_of (drop l.file-index l.files)) l.name ≡ content_of (map file_of l.files) l.name
