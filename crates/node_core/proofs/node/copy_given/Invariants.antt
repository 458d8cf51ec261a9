use Rattle.std.proofs.Common.{◌≡◌, take}
use Rattle.node_core.proofs.node.copy_given.Given as goal

abbrev pub invariant-answers : goal.invariant-answers
invariant-answers l = l.copied.items ≡ take l.one-index l.given
