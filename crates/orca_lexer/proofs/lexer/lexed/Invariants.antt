use Rattle.std.proofs.Common.{length, ◌-◌}
use Rattle.orca_lexer.proofs.Following.{IsReadTo}
use Rattle.orca_lexer.proofs.lexer.lexed.Given as goal

abbrev pub invariant-tokens : goal.invariant-tokens
invariant-tokens l = IsReadTo l.text l.found.items l.cursor

abbrev pub decreases-tokens : goal.decreases-tokens
decreases-tokens l = length l.text - l.cursor.offset
