use Rattle.std.proofs.Common.{◌≡◌, map, take}
use Rattle.code_steps.specs.Bodies.{caller_of}
use Rattle.code_machine.proofs.copies.copy_callers.Given as goal

-- copies wait as those in front do
abbrev pub invariant-callers : goal.invariant-callers
invariant-callers l = map caller_of l.all.items ≡ map caller_of (take l.caller-index l.callers)
