use Rattle.orca_lexer.specs.Rules.{message_of}
use Rattle.orca_front.specs.Texts as front
use Rattle.orca_front.proofs.TextLemmas.{lexical_shallow, said_reads, message_is}
use Rattle.orca_front.proofs.reading.lexical.Goals as goal

pub returns : goal.returns
returns c = λ text h.
    said_reads text (message_of c.args.error.rule) c.args.error.at c.whole-words.result c.faulty.result (front.lexical c.args.error h) (lexical_shallow text c.args.error h) (message_is c.whole-words.result _ _ c.whole-words.ensures c.message.ensures) c.faulty.ensures.said c.faulty.ensures.lacking
