-- One token decides whether a loop goes on.
use Rattle.std.proofs.Common.{◌≡◌, true, refl}
use Rattle.orca_grammar.specs.Forms.{Many}
use Rattle.orca_grammar.specs.Reading.{decided}
use Rattle.orca_grammar.specs.Rules.{guard, head_line, operation}
use Rattle.orca_grammar.specs.Sets.{sets}
use Rattle.orca_grammar.proofs.Opened.{every_form}

pub guards_decided : decided sets (Many guard) ≡ true
unfolding every_form
guards_decided = refl

pub head_lines_decided : decided sets (Many head_line) ≡ true
unfolding every_form
head_lines_decided = refl

pub operations_decided : decided sets (Many operation) ≡ true
unfolding every_form
operations_decided = refl
