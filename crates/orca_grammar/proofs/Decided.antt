-- One token decides each choice of the grammar.
use Rattle.std.proofs.Common.{◌≡◌, true, false, refl}
use Rattle.orca_grammar.specs.Forms.{Nest, Statement, Expression, Factor, TypePhrase}
use Rattle.orca_grammar.specs.Rules.{rule, unit}
use Rattle.orca_grammar.specs.Reading.{decided, within, first, next, nullable}
use Rattle.orca_grammar.specs.Sets.{sets, firsts_of, nexts_of}
use Rattle.orca_grammar.proofs.Opened.{every_form}

pub rules_decided : (n : Nest) → decided sets (rule n) ≡ true
unfolding every_form
rules_decided Statement = refl
rules_decided Expression = refl
rules_decided Factor = refl
rules_decided TypePhrase = refl

pub unit_decided : decided sets unit ≡ true
unfolding every_form
unit_decided = refl

-- the sets of the nested phrases are those of their rules
pub firsts_are : (n : Nest) → first sets (rule n) ≡ firsts_of n
unfolding every_form
firsts_are Statement = refl
firsts_are Expression = refl
firsts_are Factor = refl
firsts_are TypePhrase = refl

pub nexts_in : (n : Nest) → within (next sets (rule n)) (nexts_of n) ≡ true
unfolding every_form
nexts_in Statement = refl
nexts_in Expression = refl
nexts_in Factor = refl
nexts_in TypePhrase = refl

pub never_empty : (n : Nest) → nullable (rule n) ≡ false
unfolding every_form
never_empty Statement = refl
never_empty Expression = refl
never_empty Factor = refl
never_empty TypePhrase = refl
