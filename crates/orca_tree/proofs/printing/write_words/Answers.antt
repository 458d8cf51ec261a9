use Rattle.std.proofs.Common.{◌++◌, ap, List, ℕ}
use Rattle.orca_lexer.specs.Spelling.{spelling_of}
use Rattle.orca_tree.proofs.Joined.{joined_from-zero}
use Rattle.orca_tree.proofs.printing.write_words.Goals as goal

pub loop-index-init : goal.loop-index-init
loop-index-init c = ap (λ (bytes : List ℕ). c.args.out.now.items ++ bytes) (joined_from-zero spelling_of c.args.words.now)
