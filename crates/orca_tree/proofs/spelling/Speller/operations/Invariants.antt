use Rattle.std.proofs.Common.{◌≡◌, ◌++◌, drop}
use Rattle.std.specs.List.{flat_map}
use Rattle.orca_grammar.specs.Forms.{spelled}
use Rattle.orca_tree.specs.Marks.{operation}
use Rattle.orca_tree.proofs.spelling.Speller.operations.Given as goal

abbrev pub invariant-loop-operation : goal.invariant-loop-operation
invariant-loop-operation l = l.self ++ spelled (flat_map operation (drop l.operation-index l.all)) ≡ l.initial.self ++ spelled (flat_map operation l.all)
