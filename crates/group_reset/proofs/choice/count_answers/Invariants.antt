use Rattle.std.proofs.Common.{◌≡◌, ◌≤◌}
use Rattle.group_rules.specs.Sets.{count}
use Rattle.group_reset.specs.Choice.{gave_by}
use Rattle.group_reset.proofs.choice.count_answers.Given as goal

abbrev pub invariant-members : goal.invariant-members
invariant-members g l = record { is : l.have ≡ count l.member (gave_by l.answers); low : l.have ≤ l.member }
