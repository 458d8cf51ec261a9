use Rattle.std.proofs.Common.{◌∙◌, ap, sym}
use Rattle.join_law.specs.Rounds.{further}
use Rattle.follower_run.proofs.Asking.{goes_further}
use Rattle.follower_run.proofs.members.further.Goals as goal

pub returns-in_default-clause-further : goal.returns-in_default-clause-further
returns-in_default-clause-further g c = λ w led. ap (λ o. further w c.args.member o) (sym c.in_default.is)

pub returns-clause-further : goal.returns-clause-further
returns-clause-further g c = λ w led.
    goes_further w c.args.member c.in-Some.found c.applied_by.result c.applied_by-2.result (c.applied_by.ensures.applied w led) (c.applied_by-2.ensures.applied w led) c.if-applied_by.false
    ∙ ap (λ o. further w c.args.member o) (sym c.in-Some.is)
