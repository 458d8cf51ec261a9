use Rattle.std.proofs.Common.{map, take}
use Rattle.link_rules.specs.Units.{source}
use Rattle.orca_front.specs.Sources.{AreUnits, file_of}
use Rattle.orca_front.proofs.units.units.Given as goal

abbrev pub invariant-files : goal.invariant-files
invariant-files l = AreUnits (map file_of (take l.file-index l.files)) (map source l.units.items)
