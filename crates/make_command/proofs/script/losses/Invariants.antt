use Rattle.std.proofs.Common.{◌≡◌}
use Rattle.make_command.specs.Losses.{losses}
use Rattle.make_command.proofs.script.losses.Given as goal

abbrev pub invariant-losses : goal.invariant-losses
invariant-losses l = l.lines.items ≡ losses l.before
