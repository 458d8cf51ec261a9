use Rattle.std.proofs.Common.{◌≡◌, ◌++◌, drop}
use Rattle.orca_grammar.specs.Forms.{spelled}
use Rattle.orca_tree.specs.Marks.{all_variables}
use Rattle.orca_tree.proofs.spelling.Speller.variables.Given as goal

abbrev pub invariant-loop-some : goal.invariant-loop-some
invariant-loop-some l = l.self ++ spelled (all_variables (drop l.some-index l.all)) ≡ l.initial.self ++ spelled (all_variables l.all)
