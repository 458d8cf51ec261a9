use Rattle.std.proofs.Common.{◌≡◌}
use Rattle.group_rules.specs.OnWire.{members_below}
use Rattle.group_reset.specs.Choice.{gave_by}
use Rattle.group_reset.proofs.choice.members_of.Given as goal

abbrev pub invariant-members : goal.invariant-members
invariant-members g l = l.members.items ≡ members_below l.member (gave_by l.answers)
