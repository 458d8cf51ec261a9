use Rattle.std.proofs.Common.{◌≡◌, map, take}
use Rattle.group_reset.specs.Choice.{applied_with}
use Rattle.group_reset.proofs.choice.heard_of.Given as goal

abbrev pub invariant-answers : goal.invariant-answers
invariant-answers g l = l.heard.items ≡ map applied_with (take l.answer-index l.answers)
