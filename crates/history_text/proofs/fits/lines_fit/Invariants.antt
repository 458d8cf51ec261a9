use Rattle.std.proofs.Common.{take}
use Rattle.history_text.specs.Sound.{AreLines}
use Rattle.history_text.proofs.fits.lines_fit.Given as goal

abbrev pub invariant-lines : goal.invariant-lines
invariant-lines l = AreLines l.names (take l.line-index l.lines)
