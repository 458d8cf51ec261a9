use Rattle.program_bodies.specs.Codes.{sources}
use Rattle.estimate_rules.specs.Sites.{estimates_by_text}
use Rattle.access_estimates.proofs.Coded.{coded}
use Rattle.access_estimates.proofs.Once.{known}
use Rattle.access_estimates.proofs.program.estimates_by_text.Goals as goal

pub returns : goal.returns
returns c =
    known _ (estimates_by_text (sources c.args.checked.now)) c.args.checked.now.tables
    (λ s. (c.in_ok-all.ensures {u = tt}) (coded c.args.checked.now c.requires.within) s)
