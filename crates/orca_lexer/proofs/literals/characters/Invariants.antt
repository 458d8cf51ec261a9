use Rattle.std.proofs.Common.{length}
use Rattle.orca_lexer.proofs.LiteralLemmas.{AreRead}
use Rattle.orca_lexer.proofs.literals.characters.Given as goal

abbrev pub invariant-characters : goal.invariant-characters
invariant-characters l = AreRead l.quote l.content l.codes.items l.rest

abbrev pub decreases-characters : goal.decreases-characters
decreases-characters l = length l.rest
