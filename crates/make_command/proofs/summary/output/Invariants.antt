use Rattle.std.proofs.Common.{◌≡◌, take}
use Rattle.value_core.specs.History.{output_of}
use Rattle.make_command.proofs.summary.output.Given as goal

abbrev pub invariant-lines : goal.invariant-lines
invariant-lines l = l.text.items ≡ output_of (take l.line-index l.book)
