use Rattle.std.proofs.Common.{length}
use Rattle.history_text.proofs.Histories.{IsRead}
use Rattle.history_text.proofs.reading.read_lines.Given as goal

abbrev pub invariant-loop-rest : goal.invariant-loop-rest
invariant-loop-rest l = IsRead l.names l.text l.lines.items l.number l.rest

abbrev pub decreases-loop-rest : goal.decreases-loop-rest
decreases-loop-rest l = length l.rest
