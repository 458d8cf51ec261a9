use Rattle.std.proofs.Common.{◌≡◌, ◌++◌, drop}
use Rattle.std.specs.List.{flat_map}
use Rattle.orca_grammar.specs.Forms.{spelled}
use Rattle.orca_tree.specs.Marks.{import_line}
use Rattle.orca_tree.proofs.spelling.Speller.imports.Given as goal

abbrev pub invariant-loop-name : goal.invariant-loop-name
invariant-loop-name l = l.self ++ spelled (flat_map import_line (drop l.name-index l.all)) ≡ l.initial.self ++ spelled (flat_map import_line l.all)
