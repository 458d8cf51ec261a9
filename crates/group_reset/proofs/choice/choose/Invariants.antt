use Rattle.std.proofs.Common.{◌≡◌}
use Rattle.group_reset.specs.Choice.{best_by, most_by}
use Rattle.group_reset.proofs.choice.choose.Given as goal

abbrev pub invariant-members : goal.invariant-members
invariant-members g l = record { most : l.most ≡ most_by l.member l.answers l.own; kept : l.kept ≡ best_by l.member l.answers }
