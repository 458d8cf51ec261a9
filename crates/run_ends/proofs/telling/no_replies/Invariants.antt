use Rattle.std.proofs.Common.{◌≡◌, [], map, replicate}
use Rattle.run_ends.proofs.telling.no_replies.Given as goal

abbrev pub invariant-processes : goal.invariant-processes
invariant-processes g l = map (λ v. v.items) l.replies.items ≡ replicate l._process []
