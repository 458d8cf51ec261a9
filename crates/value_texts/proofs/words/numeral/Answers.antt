use Rattle.std.proofs.Common.{◌∙◌, sym}
use Rattle.value_texts.proofs.Numerals.{digits_utf8, led_is_none, read_numeral}
use Rattle.value_texts.proofs.words.numeral.Goals as goal

pub returns-then-has_leading_zero : goal.returns-then-has_leading_zero
returns-then-has_leading_zero c = sym (led_is_none c.args.digits.now (sym c.has_leading_zero.ensures ∙ c.if-has_leading_zero.true))

pub returns-in-Ok : goal.returns-in-Ok
returns-in-Ok c =
    let text = c.in-Ok.ensures.cases.0 in
    c.ok.ensures.value ∙ read_numeral c.args.digits.now c.parse.result (rw text at c.parse.ensures.value.0) c.requires (sym c.has_leading_zero.ensures ∙ c.if-has_leading_zero.false)

pub returns-in-Err : goal.returns-in-Err
returns-in-Err c = absurd (c.in-Err.ensures.cases.0 (digits_utf8 c.args.digits.now c.requires))
