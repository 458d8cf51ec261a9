use Rattle.std.proofs.Common.{◌≡◌, map, take}
use Rattle.code_steps.specs.Bodies.{caller_of}
use Rattle.code_machine.proofs.compared.same_callers.Given as goal

-- those that were compared wait alike
abbrev pub invariant-callers : goal.invariant-callers
invariant-callers l = map caller_of (take l.place l.one) ≡ map caller_of (take l.place l.other)
