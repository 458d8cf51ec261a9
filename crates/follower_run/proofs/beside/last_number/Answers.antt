use Rattle.std.proofs.Common.{◌∙◌, ap, sym}
use Rattle.join_law.specs.Rounds.{ahead, last_number}
use Rattle.follower_run.proofs.beside.last_number.Goals as goal

pub returns-in-Some : goal.returns-in-Some
returns-in-Some g c = λ w led.
    let f = g.P.OneRun.run.frame in
    c.applied_by.ensures.applied w led
    ∙ ap (λ o. last_number f w o) (sym c.in-Some.is ∙ c.ahead.ensures.ahead w led ∙ ap (λ n. ahead f w n) c.requires)

pub returns-in-None : goal.returns-in-None
returns-in-None g c = λ w led.
    let f = g.P.OneRun.run.frame in
    c.most_applied.ensures w led
    ∙ ap (λ o. last_number f w o) (sym c.in-None.is ∙ c.ahead.ensures.ahead w led ∙ ap (λ n. ahead f w n) c.requires)
