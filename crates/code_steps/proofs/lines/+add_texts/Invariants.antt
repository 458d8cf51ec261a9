use Rattle.std.proofs.Common.{length}
use Rattle.code_steps.proofs.lines.+add_texts.Given as goal

abbrev pub decreases-add_texts : goal.decreases-add_texts
decreases-add_texts l = length l.values.now
