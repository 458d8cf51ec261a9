use Rattle.std.proofs.Common.{◌≡◌, map}
use Rattle.orca_front.specs.Sources.{file_of}
use Rattle.orca_io.specs.Reading.{ReadSince, had}
use Rattle.command_files.proofs.ReadFiles.{ReadSoFar}
use Rattle.command_files.proofs.source_files.sources.Given as goal

abbrev pub invariant-files : goal.invariant-files
invariant-files g l = record {
  read : ReadSoFar (g.F.Shelf.told l.initial.shelf) l.files l.file-index l.sources.items;
  same : g.F.Shelf.told l.shelf ≡ g.F.Shelf.told l.initial.shelf;
  quiet : g.F.Shelf.faults l.shelf ≡ g.F.Shelf.faults l.initial.shelf;
  had : ReadSince (g.F.Shelf.reads l.initial.shelf) (g.F.Shelf.reads l.shelf) (map had (map file_of l.sources.items));
  may : g.F.Shelf.may_fail l.shelf ≡ g.F.Shelf.may_fail l.initial.shelf;
}
