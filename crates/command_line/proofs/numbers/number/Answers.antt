use Rattle.std.proofs.Common.{◌∙◌, sym}
use Rattle.command_line.proofs.Numerals.{read_number}
use Rattle.command_line.proofs.numbers.number.Goals as goal

pub returns : goal.returns
returns c = c.ok.ensures.value ∙ read_number c.args.text.now c.parse.result c.parse.ensures.value.0 c.if-text-gt-NUMBER_DIGITS.false (sym c.is_digits.ensures ∙ c.if-not-is_digits.false)
