use Rattle.std.proofs.Common.{◌≡◌, ◌++◌, drop}
use Rattle.std.specs.List.{flat_map}
use Rattle.orca_grammar.specs.Forms.{spelled}
use Rattle.orca_tree.specs.Marks.{declaration}
use Rattle.orca_tree.proofs.spelling.Speller.declarations.Given as goal

abbrev pub invariant-loop-declaration : goal.invariant-loop-declaration
invariant-loop-declaration l = l.self ++ spelled (flat_map declaration (drop l.declaration-index l.all)) ≡ l.initial.self ++ spelled (flat_map declaration l.all)
