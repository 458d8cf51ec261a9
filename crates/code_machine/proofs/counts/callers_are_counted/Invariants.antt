use Rattle.std.proofs.Common.{take}
use Rattle.std.specs.List.{All}
use Rattle.code_machine.specs.Counted.{IsCounted}
use Rattle.code_machine.proofs.counts.callers_are_counted.Given as goal

-- those in front are counted
abbrev pub invariant-callers : goal.invariant-callers
invariant-callers l = All (λ w. IsCounted w.frame) (take l.caller-index l.callers)
