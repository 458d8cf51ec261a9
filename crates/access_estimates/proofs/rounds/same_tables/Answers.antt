use Rattle.std.proofs.Common.{sym, ◌∙◌}
use Rattle.access_estimates.proofs.Settled.{alike_tables}
use Rattle.access_estimates.proofs.rounds.same_tables.Goals as goal

pub returns : goal.returns
returns c = λ h. alike_tables c.args.one.now c.args.other.now (sym c.eq.ensures ∙ h)
