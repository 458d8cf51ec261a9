use Rattle.std.proofs.Common.{List, inl, inr}
use Rattle.world_rules.specs.declared.event.Step.{Step}
use Rattle.follower_run.specs.Travelled.{AfterEvent, Beside, HasTravelled}
use Rattle.follower_run.proofs.Results.{err_as, ok_as, on_err, on_ok}
use Rattle.follower_run.proofs.Travelling.{at_other, at_same, happened, left_before}
use Rattle.follower_run.proofs.along.next_beside.Goals as goal

pub returns-in_err-next_event-clause-come : goal.returns-in_err-next_event-clause-come
returns-in_err-next_event-clause-come g c = on_err c.from_residual.result _ (inr c.in_err-next_event.ensures.stopped)

pub returns-in_err-next_event-clause-left : goal.returns-in_err-next_event-clause-left
returns-in_err-next_event-clause-left g c = λ base b.
    on_err c.from_residual.result _
    (left_before g.P.OneRun.run.frame c.args.start base (g.W.Wire.told c.args.own.now) c.args.stepper.now c.next_event.new.self c.args.rounds.now c.in_err-next_event.ensures.err b)

pub round_beside-requires-clause-after : goal.round_beside-requires-clause-after
round_beside-requires-clause-after g c =
    let f = g.P.OneRun.run.frame in
    let base = c.requires.beside.0 in
    let told = g.W.Wire.told c.args.own.now in
    let went = c.in_ok-next_event.ensures.went in (
      base,
      at_same (λ (l : List Step). AfterEvent f c.args.start base told l c.args.rounds.now) c.world.result.now c.next_event.new.self.world c.world.ensures
          (happened f c.args.start base told c.args.stepper.now.world.steps c.next_event.new.self.world.steps c.args.rounds.now went.step
          c.rounds_law.ensures.goes c.requires.beside.1 went.steps went.next),
    )

pub returns-clause-went : goal.returns-clause-went
returns-clause-went g c = on_ok c.round_beside.result _ c.in_ok-next_event.ensures.went

pub returns-clause-come : goal.returns-clause-come
returns-clause-come g c = on_err c.round_beside.result _ (inl c.in_ok-next_event.ensures.went.driven)

pub returns-clause-beside : goal.returns-clause-beside
returns-clause-beside g c = λ base b.
    let f = g.P.OneRun.run.frame in
    let told = g.W.Wire.told c.args.own.now in
    let went = c.in_ok-next_event.ensures.went in
    ok_as c.round_beside.result
    (at_other (λ (l : List Step). Beside f c.args.start base (g.W.Wire.told c.round_beside.new.own) l c.round_beside.new.rounds) c.world.result.now c.next_event.new.self.world c.world.ensures)
    (c.round_beside.ensures.beside base
    (at_same (λ (l : List Step). AfterEvent f c.args.start base told l c.args.rounds.now) c.world.result.now c.next_event.new.self.world c.world.ensures
    (happened f c.args.start base told c.args.stepper.now.world.steps c.next_event.new.self.world.steps c.args.rounds.now went.step c.rounds_law.ensures.goes b went.steps went.next)))

pub returns-clause-left : goal.returns-clause-left
returns-clause-left g c = λ base b.
    let f = g.P.OneRun.run.frame in
    let told = g.W.Wire.told c.args.own.now in
    let went = c.in_ok-next_event.ensures.went in
    err_as c.round_beside.result
    (at_other (λ (l : List Step). HasTravelled f c.args.start base (g.W.Wire.told c.round_beside.new.own) l c.round_beside.new.rounds) c.world.result.now c.next_event.new.self.world c.world.ensures)
    (c.round_beside.ensures.left base
    (at_same (λ (l : List Step). AfterEvent f c.args.start base told l c.args.rounds.now) c.world.result.now c.next_event.new.self.world c.world.ensures
    (happened f c.args.start base told c.args.stepper.now.world.steps c.next_event.new.self.world.steps c.args.rounds.now went.step c.rounds_law.ensures.goes b went.steps went.next)))
