use Rattle.world_law.proofs.Exchanging.{acts_meet}
use Rattle.world_law.proofs.acts_meet_runs.Goals as goal

pub returns : goal.returns
returns c =
    λ f. acts_meet f
