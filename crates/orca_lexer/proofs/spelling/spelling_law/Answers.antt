use Rattle.orca_lexer.proofs.ReadsBack.{reads_back}
use Rattle.orca_lexer.proofs.spelling.spelling_law.Goals as goal

pub returns : goal.returns
returns c = record { back = reads_back }
