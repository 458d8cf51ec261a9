-- What was asked before this is noted.
use Rattle.std.proofs.Common.{reverse, take}
use Rattle.wires.specs.Progress.{IsProgress}
use Rattle.wires.proofs.script.replayed.Given as goal

abbrev pub invariant-told : goal.invariant-told
invariant-told l = IsProgress l.lines (reverse (take l.one-index l.told)) l.progress
