use Rattle.std.proofs.Common.{◌∙◌, sym}
use Rattle.world_core.proofs.Doing.{not_both}
use Rattle.world_core.proofs.events.ticks.Goals as goal

pub all_tick-requires-clause-quiet : goal.all_tick-requires-clause-quiet
all_tick-requires-clause-quiet g c w is = sym (c.is_quiet.ensures w is) ∙ c.if-is_quiet.true

pub returns-else-is_quiet-clause-refused : goal.returns-else-is_quiet-clause-refused
returns-else-is_quiet-clause-refused g c err w is given may = not_both c.is_quiet.result c.if-is_quiet.false (c.is_quiet.ensures w is ∙ may)
