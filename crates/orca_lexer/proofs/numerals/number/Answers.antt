use Rattle.std.proofs.Common.{arith, ◌+◌}
use Rattle.std.proofs.lemmas.Str.Parse.{digits_value-take-le}
use Rattle.orca_lexer.proofs.Numbers.{numeral_more, numeral_digits}
use Rattle.orca_lexer.proofs.numerals.number.Goals as goal

pub returns-then-value-more : goal.returns-then-value-more
returns-then-value-more c small =
    let i = c.digits.digit-index in
    let ds = c.args.digits.now in
    let more = numeral_more ds i c.requires c.digits-test.true in
    let range = numeral_digits ds i c.requires c.digits-test.true in
    let all = digits_value-take-le 10 ds (i + 1) (omega arith) in
    omega arith

pub digits-preserved : goal.digits-preserved
digits-preserved c =
    let i = c.digits.digit-index in
    let ds = c.args.digits.now in
    let more = numeral_more ds i c.requires c.digits-test.true in
    let range = numeral_digits ds i c.requires c.digits-test.true in
    (omega arith, omega arith)
