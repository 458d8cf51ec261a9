use Rattle.std.proofs.Common.{◌∙◌, ap, is_some, sym}
use Rattle.std.specs.Option.{option_copied}
use Rattle.follower_run.proofs.Asking.{nobody_there, there_answers}
use Rattle.follower_run.proofs.members.can_answer.Goals as goal

pub returns-in_default : goal.returns-in_default
returns-in_default g c = λ w led. nobody_there g.P.OneRun.run.frame w c.args.member (λ lt. cc (ap (λ o. is_some (option_copied o)) (sym c.in_default.is) ∙ c.node.ensures.some lt))

pub returns : goal.returns
returns g c = λ w led.
    c.answers.ensures
    ∙ there_answers g.P.OneRun.run.frame w c.args.member c.lives.result c.is_outside.result (c.lives.ensures w led)
    ((c.in-Some.ensures.stands w led).member.outside ∙ sym (c.is_outside.ensures ∙ ap (λ m. m.outside) c.member.ensures))
