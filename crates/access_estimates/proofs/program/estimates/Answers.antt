use Rattle.std.proofs.Common.{List, ap, sym, ◌∙◌}
use Rattle.site_estimates.specs.declared.estimate.Estimate.{Estimate}
use Rattle.program_bodies.specs.Codes.{sources}
use Rattle.estimate_rules.specs.Estimates.{process_estimates, summaries_of}
use Rattle.estimate_rules.specs.Sites.{all_of}
use Rattle.meaning_rules.specs.Programs.{process_texts}
use Rattle.access_estimates.proofs.Listing.{listed}
use Rattle.access_estimates.proofs.program.estimates.Goals as goal

pub returns : goal.returns
returns c =
    let us = sources c.args.checked.now in
    (c.in_ok-joined.ensures {u = tt})
    ∙ ap (λ (l : List (List Estimate)). all_of l) (c.in_ok-texts.ensures {u = tt})
    ∙ sym (listed (process_estimates (summaries_of us) us) (process_texts us))
