-- One token decides whether a loop goes on.
use Rattle.std.proofs.Common.{◌≡◌, true, refl}
use Rattle.orca_lexer.specs.declared.token.Symbol.TheVariants.{Comma, Semicolon}
use Rattle.orca_grammar.specs.Forms.{◌⨾◌, Many}
use Rattle.orca_grammar.specs.Reading.{decided}
use Rattle.orca_grammar.specs.Rules.{sign, name, variable_line, typed_name, parameter, field}
use Rattle.orca_grammar.specs.Sets.{sets}
use Rattle.orca_grammar.proofs.Opened.{every_form}

pub names_decided : decided sets (Many (sign Comma ⨾ name)) ≡ true
unfolding every_form
names_decided = refl

pub variable_lines_decided : decided sets (Many variable_line) ≡ true
unfolding every_form
variable_lines_decided = refl

pub typed_names_decided : decided sets (Many (sign Semicolon ⨾ typed_name)) ≡ true
unfolding every_form
typed_names_decided = refl

pub parameters_decided : decided sets (Many (sign Semicolon ⨾ parameter)) ≡ true
unfolding every_form
parameters_decided = refl

pub fields_decided : decided sets (Many field) ≡ true
unfolding every_form
fields_decided = refl
