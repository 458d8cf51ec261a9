use Rattle.std.proofs.Common.{◌≡◌, map, take}
use Rattle.frame_variables.specs.Gives.{passed_of}
use Rattle.code_rules.specs.Machine.{lent}
use Rattle.code_machine.proofs.copies.copy_given.Given as goal

-- of those in front the same is kept
abbrev pub invariant-given : goal.invariant-given
invariant-given l = map lent (map passed_of l.all.items) ≡ map lent (map passed_of (take l.passed-index l.given))
