use Rattle.group_law.proofs.OwnPurge.{event_right, base_right, base_wrong, breaks}
use Rattle.group_law.proofs.own_purge_breaks_the_law.Goals as goal

pub returns : goal.returns
returns c = record { event = event_right; right = base_right; wrong = base_wrong; breaks = breaks }
