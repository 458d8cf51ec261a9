-- The lines from a place on are noted.
use Rattle.std.proofs.Common.{◌≤◌, drop, length}
use Rattle.wires.specs.Index.{IsKindLines}
use Rattle.wires.proofs.lines.KindLines.of.Given as goal

abbrev pub invariant-lines : goal.invariant-lines
invariant-lines l = record { within : l.place ≤ length l.lines; kept : IsKindLines l.wanted l.place (drop l.place l.lines) l.kept }

abbrev pub decreases-lines : goal.decreases-lines
decreases-lines l = l.place
