use Rattle.orca_lexer.proofs.Longest.{one_sign, two_signs}
use Rattle.orca_lexer.proofs.Fronts.{no_sign}
use Rattle.orca_lexer.proofs.symbols.sign_at.Goals as goal

pub returns-in-Some : goal.returns-in-Some
returns-in-Some c =
    let is = c.in-Some.ensures in
    record { within = is.0; longest = two_signs c.args.text.now _ is.0 is.1; means = is.1 }

pub returns-in-Some-symbol_at : goal.returns-in-Some-symbol_at
returns-in-Some-symbol_at c =
    let is = c.in-Some-symbol_at.ensures in
    record { within = is.0; longest = one_sign c.args.text.now _ is.0 is.1 c.in_default.ensures; means = is.1 }

pub returns : goal.returns
returns c = no_sign c.args.text.now c.requires c.in_default-symbol_at.ensures c.in_default.ensures
