use Rattle.orca_grammar.proofs.Once.{once}
use Rattle.orca_grammar.proofs.Promises.{is_read_so}
use Rattle.orca_grammar.proofs.TokensOf.{text_words}
use Rattle.orca_grammar.proofs.law.grammar_law.Goals as goal

pub returns : goal.returns
returns c = record { one = once; reads = is_read_so; words = text_words }
