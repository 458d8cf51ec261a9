use Rattle.std.proofs.Common.{◌∙◌, refl}
use Rattle.follower_run.proofs.Results.{on_err}
use Rattle.follower_run.proofs.along.go_beside.Goals as goal

pub events-init : goal.events-init
events-init g c = (c.requires.driven, c.requires.beside, λ base b. b, refl, refl, refl, refl)

pub events-preserved : goal.events-preserved
events-preserved g c =
    let inv = c.events.invariant in
    let on = c.in_ok-next_beside.ensures in (
      on.went.driven,
      (inv.1.0, on.beside inv.1.0 inv.1.1),
      λ base b. on.beside base (inv.2 base b),
      c.next_beside.ensures.scripts ∙ inv.3,
      c.next_beside.ensures.loaded ∙ inv.4,
      c.next_beside.ensures.script ∙ inv.5,
      c.next_beside.ensures.since ∙ inv.6,
    )

pub returns-in_err-next_beside-clause-left : goal.returns-in_err-next_beside-clause-left
returns-in_err-next_beside-clause-left g c = λ base b. on_err c.from_residual.result _ (c.in_err-next_beside.ensures.left base (c.events.invariant.2 base b))

pub returns-clause-beside : goal.returns-clause-beside
returns-clause-beside g c = λ base b. c.events.invariant.2 base b
