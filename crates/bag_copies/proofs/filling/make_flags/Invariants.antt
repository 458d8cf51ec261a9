use Rattle.std.proofs.Common.{◌≡◌, ◌+◌}
use Rattle.bag_copies.proofs.filling.make_flags.Given as goal

-- each one so far was an entry
abbrev pub invariant-loop-number : goal.invariant-loop-number
invariant-loop-number l = l.copies.applied ≡ l.initial.copies.applied + l.number
