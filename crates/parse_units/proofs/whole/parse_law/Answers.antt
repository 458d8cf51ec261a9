use Rattle.parse_units.proofs.RoundTrips.{reads_back, stays_short}
use Rattle.parse_units.proofs.whole.parse_law.Goals as goal

pub returns : goal.returns
returns c = record { back = reads_back; short = stays_short }
