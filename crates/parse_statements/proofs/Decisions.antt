-- One token decides whether a loop goes on.
use Rattle.std.proofs.Common.{◌≡◌, true, refl}
use Rattle.orca_grammar.specs.Forms.{Many}
use Rattle.orca_grammar.specs.Reading.{decided}
use Rattle.orca_grammar.specs.Rules.{statement_line, elsif_arm}
use Rattle.orca_grammar.specs.Sets.{sets}
use Rattle.orca_grammar.proofs.Opened.{every_form}

pub statement_lines_decided : decided sets (Many statement_line) ≡ true
unfolding every_form
statement_lines_decided = refl

pub elsif_arms_decided : decided sets (Many elsif_arm) ≡ true
unfolding every_form
elsif_arms_decided = refl
