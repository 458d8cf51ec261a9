use Rattle.std.proofs.Common.{◌≡◌, ◌++◌, drop}
use Rattle.std.specs.List.{flat_map}
use Rattle.orca_grammar.specs.Forms.{spelled}
use Rattle.orca_tree.specs.Marks.{guard}
use Rattle.orca_tree.proofs.spelling.Speller.guards.Given as goal

abbrev pub invariant-loop-guard : goal.invariant-loop-guard
invariant-loop-guard l = l.self ++ spelled (flat_map guard (drop l.guard-index l.all)) ≡ l.initial.self ++ spelled (flat_map guard l.all)
