-- What was said, and what is still to be said, are all.
use Rattle.std.proofs.Common.{◌≡◌, false, map}
use Rattle.fault_scripts.specs.Reading.{lines_at}
use Rattle.fault_scripts.proofs.Loops.{with_front, left}
use Rattle.fault_scripts.proofs.reading.lines_said.Given as goal

abbrev pub invariant-lines : goal.invariant-lines
invariant-lines l = with_front l.said.items (left l.seeded l.index l.lines) ≡ lines_at false 1 (map (λ line. line.now) l.lines)
