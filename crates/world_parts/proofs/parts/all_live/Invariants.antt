use Rattle.std.proofs.Common.{◌≡◌, replicate, true}
use Rattle.world_parts.proofs.parts.all_live.Given as goal

abbrev pub invariant-members : goal.invariant-members
invariant-members l = l.lives.items ≡ replicate l._member true
