use Rattle.std.proofs.Common.{◌∙◌, sym}
use Rattle.fault_scripts.proofs.Splits.{no_word, next_is}
use Rattle.fault_scripts.proofs.words.next_word.Goals as goal

pub returns-then-is_empty : goal.returns-then-is_empty
returns-then-is_empty c = no_word c.args.rest.now c.space_len.result c.space_len.ensures.len (sym c.is_empty.ensures ∙ c.if-is_empty.true)

pub returns : goal.returns
returns c = next_is c.args.rest.now c.space_len.result c.word_len.result _ _ c.space_len.ensures.len (sym c.is_empty.ensures ∙ c.if-is_empty.false) c.word_len.ensures.len c.split_at.ensures.front c.split_at.ensures.back
