use Rattle.std.proofs.Common.{◌≡◌, pos, to_z, w64, take, ap, ◌∙◌}
use Rattle.std.specs.Str.Parse.{digits_value}
use Rattle.orca_lexer.specs.declared.error.LexRule.TheVariants.{NumberTooLarge}
use Rattle.orca_lexer.proofs.Longest.{numeral_begins}
use Rattle.orca_lexer.proofs.Numbers.{small}
use Rattle.orca_lexer.proofs.Fronts.{senseless_at, too_large}
use Rattle.orca_lexer.proofs.numerals.numeral_at.Goals as goal

pub number-requires : goal.number-requires
number-requires c = rw c.numeral_len-len.ensures.len (numeral_begins c.args.text.now c.requires).is

pub returns-in-Some : goal.returns-in-Some
returns-in-Some c =
    let begins = numeral_begins c.args.text.now c.requires in
    let n = c.numeral_len-len.ensures.len in
    let value = c.in-Some.ensures in
    let same : to_z w64 c.in-Some.value ≡ pos (digits_value 10 (take c.numeral_len-len.result c.args.text.now)) = ap (to_z w64) value.1 ∙ small _ value.0 in
    record { within = c.numeral_len-len.ensures.within; longest = rw n begins.longest; means = (rw n begins.is, value.0, same) }

pub returns-in-None : goal.returns-in-None
returns-in-None c =
    let begins = numeral_begins c.args.text.now c.requires in
    let n = c.numeral_len-len.ensures.len in
    senseless_at c.args.text.now c.numeral_len-len.result NumberTooLarge 0 (rw n begins.longest) (too_large _ (rw n begins.is) c.in-None.ensures)
