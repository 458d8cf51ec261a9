use Rattle.std.proofs.Common.{sym}
use Rattle.orca_lexer.proofs.LiteralLemmas.{read_more}
use Rattle.orca_lexer.proofs.literals.characters.Goals as goal

pub characters-preserved : goal.characters-preserved
characters-preserved c = rw c.in_ok-push.ensures.items (read_more c.args.quote c.args.content.now _ _ _ _ c.characters.invariant (sym c.in-Some.ensures))
