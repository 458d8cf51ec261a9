use Rattle.world_facts.proofs.Rows.{all_read}
use Rattle.world_facts.proofs.standings_mean.Goals as goal

pub returns : goal.returns
returns c = all_read
