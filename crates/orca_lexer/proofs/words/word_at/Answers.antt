use Rattle.orca_lexer.proofs.Longest.{word_begins}
use Rattle.orca_lexer.proofs.words.word_at.Goals as goal

pub word_kind-requires : goal.word_kind-requires
word_kind-requires c = rw c.word_len-len.ensures.len (word_begins c.args.text.now c.requires).is

pub returns : goal.returns
returns c = record {
  within = c.word_len-len.ensures.within;
  longest = rw c.word_len-len.ensures.len (word_begins c.args.text.now c.requires).longest;
  means = c.in_ok-kind.ensures;
}
