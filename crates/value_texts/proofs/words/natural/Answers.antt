use Rattle.std.specs.Char.{is_ascii_digit}
use Rattle.value_texts.proofs.Numerals.{front_all}
use Rattle.value_texts.proofs.words.natural.Goals as goal

pub numeral-requires : goal.numeral-requires
numeral-requires c = rw (c.split_at.ensures.front, c.digits_len.ensures.len) (front_all is_ascii_digit c.args.text.now)
