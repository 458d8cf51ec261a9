use Rattle.std.proofs.Common.{◌≡◌, ◌+◌}
use Rattle.bag_copies.proofs.filling.wait_many.Given as goal

-- each one so far was an entry
abbrev pub invariant-loop-process : goal.invariant-loop-process
invariant-loop-process l = l.copies.applied ≡ l.initial.copies.applied + l.process
