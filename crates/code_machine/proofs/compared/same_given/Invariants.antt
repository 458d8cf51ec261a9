use Rattle.std.proofs.Common.{◌≡◌, map, take}
use Rattle.frame_variables.specs.Gives.{passed_of}
use Rattle.code_rules.specs.Machine.{lent}
use Rattle.code_machine.proofs.compared.same_given.Given as goal

-- those that were compared lend the same
abbrev pub invariant-passed : goal.invariant-passed
invariant-passed l = map lent (map passed_of (take l.place l.one)) ≡ map lent (map passed_of (take l.place l.other))
