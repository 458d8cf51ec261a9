use Rattle.std.proofs.Common.{◌≡◌, ◌++◌, drop}
use Rattle.orca_grammar.specs.Forms.{spelled}
use Rattle.orca_tree.specs.Marks.{arm, arm_word, arms, statements}
use Rattle.orca_tree.proofs.Led.{led_from}
use Rattle.orca_tree.proofs.spelling.Speller.+spell_statements.Given as goal

abbrev pub invariant-statements-loop-s : goal.invariant-statements-loop-s
invariant-statements-loop-s l = l.self ++ spelled (statements (drop l.s-index l.all)) ≡ l.initial.self ++ spelled (statements l.all)

abbrev pub invariant-arms-loop-index : goal.invariant-arms-loop-index
invariant-arms-loop-index l = l.self ++ spelled (led_from arm_word arm l.index l.all) ≡ l.initial.self ++ spelled (arms l.all)
