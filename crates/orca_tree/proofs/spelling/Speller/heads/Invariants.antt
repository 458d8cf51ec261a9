use Rattle.std.proofs.Common.{◌≡◌, ◌++◌, drop}
use Rattle.orca_grammar.specs.Forms.{spelled}
use Rattle.orca_tree.specs.Marks.{heads}
use Rattle.orca_tree.proofs.spelling.Speller.heads.Given as goal

abbrev pub invariant-loop-head : goal.invariant-loop-head
invariant-loop-head l = l.self ++ spelled (heads (drop l.head-index l.all)) ≡ l.initial.self ++ spelled (heads l.all)
