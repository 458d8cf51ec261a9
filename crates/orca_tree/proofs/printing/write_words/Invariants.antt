use Rattle.std.proofs.Common.{◌≡◌, ◌++◌, map}
use Rattle.std.specs.List.{join_with_byte}
use Rattle.orca_lexer.specs.Spelling.{spelling_of}
use Rattle.orca_tree.proofs.Joined.{joined_from}
use Rattle.orca_tree.proofs.printing.write_words.Given as goal

abbrev pub invariant-loop-index : goal.invariant-loop-index
invariant-loop-index l = l.out.items ++ joined_from spelling_of l.index l.words ≡ l.initial.out.items ++ join_with_byte 32 (map spelling_of l.words)
