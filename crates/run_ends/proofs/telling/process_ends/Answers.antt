use Rattle.std.proofs.Common.{◌∙◌}
use Rattle.run_ends.proofs.telling.process_ends.Goals as goal

pub ends_by-requires-clause-book : goal.ends_by-requires-clause-book
ends_by-requires-clause-book g c w is = c.as_slice.ensures.value ∙ (c.in_ok-lines.ensures {u = tt}) w is
