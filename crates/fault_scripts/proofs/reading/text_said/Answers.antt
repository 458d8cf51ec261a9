use Rattle.fault_scripts.proofs.Splits.{few_lines}
use Rattle.fault_scripts.proofs.reading.text_said.Goals as goal

pub lines_said-requires : goal.lines_said-requires
lines_said-requires c = rw c.deref.ensures.value (few_lines c.args.text.now c.in_ok-lines.lines.items c.in_ok-lines.ensures c.requires)
