use Rattle.std.proofs.Common.{ap, ◌∙◌}
use Rattle.access_estimates.specs.Seen.{use_seen}
use Rattle.access_estimates.specs.Resolved.{resolved_at}
use Rattle.access_estimates.specs.Locals.{locals_seen}
use Rattle.access_estimates.proofs.resolving.resolved_by.Goals as goal

pub returns : goal.returns
returns c = λ are us numbers.
    c.resolved_at.ensures us numbers ∙ ap (resolved_at us c.args.home.now (locals_seen c.args.names.now) (use_seen c.args.u.now)) (c.position_in-position.ensures are)
