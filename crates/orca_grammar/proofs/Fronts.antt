-- Which nested phrases stand at the front of a rule: factors in front of an expression, and no others.
use Rattle.std.proofs.Common.{◌≡◌, Bool, true, false, refl}
use Rattle.orca_grammar.specs.Forms.{Nest, Statement, Expression, Factor, TypePhrase}
use Rattle.orca_grammar.specs.Rules.{rule}
use Rattle.orca_grammar.proofs.Fails.{fronts}
use Rattle.orca_grammar.proofs.Opened.{every_form}

abbrev pub no_nest : Nest → Bool
no_nest n = false

abbrev pub factor_alone_is : Nest → Bool
factor_alone_is Statement = false
factor_alone_is Expression = false
factor_alone_is Factor = true
factor_alone_is TypePhrase = false

pub statement_alone : fronts no_nest (rule Statement) ≡ true
unfolding every_form
statement_alone = refl

pub factor_alone : fronts no_nest (rule Factor) ≡ true
unfolding every_form
factor_alone = refl

pub type_alone : fronts no_nest (rule TypePhrase) ≡ true
unfolding every_form
type_alone = refl

pub expression_on_factor : fronts factor_alone_is (rule Expression) ≡ true
unfolding every_form
expression_on_factor = refl
