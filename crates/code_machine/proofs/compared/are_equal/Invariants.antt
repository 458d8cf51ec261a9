use Rattle.std.proofs.Common.{◌≡◌, take}
use Rattle.code_machine.proofs.compared.are_equal.Given as goal

-- those that were compared are the same
abbrev pub invariant-values : goal.invariant-values
invariant-values l = take l.place l.one ≡ take l.place l.other
