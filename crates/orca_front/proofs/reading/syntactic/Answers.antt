use Rattle.orca_front.proofs.TextLemmas.{end_shallow, of_end, of_token, said_reads, syntactic_slice, token_shallow}
use Rattle.orca_front.proofs.reading.syntactic.Goals as goal

pub unexpected-words-requires-clause-start : goal.unexpected-words-requires-clause-start
unexpected-words-requires-clause-start c =
    (syntactic_slice c.args.text.now _ _ (rw (c.in-Syntax-default-Token.is, c.in-Syntax-default-Token.found-is) at c.requires)).0

pub unexpected-words-requires-clause-end : goal.unexpected-words-requires-clause-end
unexpected-words-requires-clause-end c =
    (syntactic_slice c.args.text.now _ _ (rw (c.in-Syntax-default-Token.is, c.in-Syntax-default-Token.found-is) at c.requires)).1

pub returns-in-Syntax-default-Token : goal.returns-in-Syntax-default-Token
returns-in-Syntax-default-Token c =
    let refused = rw (c.in-Syntax-default-Token.is, c.in-Syntax-default-Token.found-is) at c.requires in
    said_reads c.args.text.now _ _ c.unexpected-words.result _ (of_token c.args.text.now _ _ refused) (token_shallow c.args.text.now _ _ refused) c.unexpected-words.ensures c.faulty.ensures.said c.faulty.ensures.lacking

pub returns-in-Syntax-default-End : goal.returns-in-Syntax-default-End
returns-in-Syntax-default-End c =
    let refused = rw (c.in-Syntax-default-End.is, c.in-Syntax-default-End.found-is) at c.requires in
    said_reads c.args.text.now _ _ c.whole-words.result _ (of_end c.args.text.now _ refused) (end_shallow c.args.text.now _ refused) c.whole-words.ensures c.faulty-in-Syntax-default-End.ensures.said c.faulty-in-Syntax-default-End.ensures.lacking
