use Rattle.std.proofs.Common.{◌≡◌, ◌<◌, ℕ, slice_get}
use Rattle.code_machine.proofs.compared.same_frame.Given as goal

-- the values in front are the same
abbrev pub invariant-slots : goal.invariant-slots
invariant-slots l = (k : ℕ) → k < l.slot → slice_get l.one k ≡ slice_get l.other k
