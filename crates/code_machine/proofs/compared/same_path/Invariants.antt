use Rattle.std.proofs.Common.{◌≡◌, take}
use Rattle.code_machine.proofs.compared.same_path.Given as goal

-- those that were compared are the same
abbrev pub invariant-steps : goal.invariant-steps
invariant-steps l = take l.place l.one ≡ take l.place l.other
