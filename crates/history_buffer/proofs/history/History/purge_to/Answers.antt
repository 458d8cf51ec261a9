use Rattle.history_buffer.proofs.Entries.{one_purged}
use Rattle.history_buffer.proofs.history.History.purge_to.Goals as goal

pub entries-preserved-in-entries : goal.entries-preserved-in-entries
entries-preserved-in-entries g c = let i = c.entries.invariant in one_purged _ _ _ _ _ _ _ c.pop_front-purged.ensures.items i.0 c.entries-test.true i.2 i.3

pub entries-preserved : goal.entries-preserved
entries-preserved g c = let i = c.entries.invariant in one_purged _ _ _ _ _ _ _ c.pop_front-purged.ensures.items i.0 c.entries-test.true i.2 i.3
