use Rattle.std.proofs.Common.{◌≡◌, drop}
use Rattle.value_texts.specs.Reading.{word_at}
use Rattle.value_texts.proofs.words.after.Given as goal

abbrev pub invariant-loop-byte : goal.invariant-loop-byte
invariant-loop-byte l = word_at (drop l.byte-index l.word) l.rest ≡ word_at l.word l.text
