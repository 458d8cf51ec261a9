-- One token decides whether a loop goes on.
use Rattle.std.proofs.Common.{◌≡◌, true, refl}
use Rattle.orca_grammar.specs.Forms.{Many}
use Rattle.orca_grammar.specs.Reading.{decided}
use Rattle.orca_grammar.specs.Rules.{import_line, declaration}
use Rattle.orca_grammar.specs.Sets.{sets}
use Rattle.orca_grammar.proofs.Opened.{every_form}

pub import_lines_decided : decided sets (Many import_line) ≡ true
unfolding every_form
import_lines_decided = refl

pub declarations_decided : decided sets (Many declaration) ≡ true
unfolding every_form
declarations_decided = refl
