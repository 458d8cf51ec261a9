-- None of the lines before has random words.
use Rattle.std.proofs.Common.{◌≡◌, drop}
use Rattle.net_rules.specs.Script.{seed_of}
use Rattle.wires.proofs.progress.seed_in.Given as goal

abbrev pub invariant-lines : goal.invariant-lines
invariant-lines l = seed_of (drop l.line-index l.lines) ≡ seed_of l.lines
