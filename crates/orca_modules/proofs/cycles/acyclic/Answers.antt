use Rattle.orca_modules.proofs.Ranked.{no_cycles}
use Rattle.orca_modules.proofs.cycles.acyclic.Goals as goal

pub returns-then-falls : goal.returns-then-falls
returns-then-falls c = λ us same. no_cycles c.in_ok-ranks.ranks us _ (c.falls.ensures c.if-falls.true) same
